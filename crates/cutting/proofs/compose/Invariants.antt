-- `compose`: one run after another, each cut out of memory. The invariant is `Composing`: with the runs of the stretches that are left
-- put behind it, the buffer is what all runs make of it. Assumes nothing.
use Prim.Native.Nat.{◌≤◌}
use lib.ListN.{length}
use Rattle.stretches.specs.Stretches.{merged}
use Rattle.cutting.specs.Cutting.{Composing}
use Rattle.cutting.proofs.compose.Given as goal

abbrev pub invariant-loop-first : goal.invariant-loop-first
invariant-loop-first l =
    (l.runs ≤ l.to) × Composing l.w l.memory (merged l.stretches) l.initial.out (merged l.left) l.out l.to l.runs

abbrev pub decreases-loop-first : goal.decreases-loop-first
decreases-loop-first l = length l.left
