-- `list_part`: parts of one length, or others. Assumes nothing.
use native.Mathlib.Omega.{arith}
use Rattle.comparing.proofs.Zipping.{room-both}
use Rattle.comparing.proofs.parts.list_part.Goals as goal

pub list_both-requires : goal.list_both-requires
list_both-requires c =
    (room-both _ _ _ _ _ _ c.requires (omega (arith, c.if-p-q.true)), omega (arith, c.if-p-q.true))

pub returns-then-p-q : goal.returns-then-p-q
returns-then-p-q c = c.list_both.ensures

pub returns : goal.returns
returns c = c.list_sides.ensures
