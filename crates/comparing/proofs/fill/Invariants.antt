-- `fill`: the loop over the stretches of both sides. Invariant: the entries of what is left, put into the list as it is, make the whole.
-- Assumes nothing.
use Prim.Native.Nat.{◌+◌}
use lib.ListN.{length}
use Rattle.comparing.specs.Merging.{left_of}
use Rattle.comparing.proofs.Turning.{Listed}
use Rattle.comparing.proofs.fill.Given as goal

abbrev pub invariant-loop-f : goal.invariant-loop-f
invariant-loop-f l = Listed l.initial.list l.first l.second l.list l.f l.g l.at

abbrev pub decreases-loop-f : goal.decreases-loop-f
decreases-loop-f l = length (left_of l.first l.f) + length (left_of l.second l.g)
