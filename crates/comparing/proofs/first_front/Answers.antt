-- `first_front`: the first run. Assumes nothing.
use Rattle.comparing.proofs.Standing.{patch-ends, started}
use native.Mathlib.Omega.{arith}
use Rattle.comparing.proofs.first_front.Goals as goal

pub front_at-requires : goal.front_at-requires
front_at-requires c = rw c.start.ensures (omega arith, patch-ends _ c.requires)

pub returns : goal.returns
returns c = started _ _ (rw c.start.ensures at c.front_at.ensures)
