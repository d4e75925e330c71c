-- `count`: the loop over the stretches of both sides. Invariant: the entries so far, and those of what is left. Assumes nothing.
use Prim.Native.Nat.{◌+◌}
use lib.ListN.{length}
use Rattle.comparing.specs.Merging.{left_of}
use Rattle.comparing.proofs.Turning.{Counted}
use Rattle.comparing.proofs.count.Given as goal

abbrev pub invariant-loop-f : goal.invariant-loop-f
invariant-loop-f l = Counted l.first l.second l.f l.g l.n

abbrev pub decreases-loop-f : goal.decreases-loop-f
decreases-loop-f l = length (left_of l.first l.f) + length (left_of l.second l.g)
