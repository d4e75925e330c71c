-- `long`: run by run. The invariant is `Measuring`: the length so far and that of the runs to come are the length of all. Assumes nothing.
use lib.ListN.{length}
use Rattle.stretches.proofs.Measuring.{Measuring}
use Rattle.stretches.proofs.long.Given as goal

abbrev pub invariant-loop-first : goal.invariant-loop-first
invariant-loop-first l = Measuring l.stretches l.to l.left

abbrev pub decreases-loop-first : goal.decreases-loop-first
decreases-loop-first l = length l.left
