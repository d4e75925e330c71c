-- `put_mark`: its two bytes. Assumes nothing.
use native.Mathlib.Omega.{arith}
use lib.ListN.{length-set}
use Rattle.endian.proofs.Putting.{two-put}
use Rattle.cutting.proofs.put_mark.Goals as goal

pub bounds-out-at-2 : goal.bounds-out-at-2
bounds-out-at-2 c = simp length-set (omega arith)

pub returns : goal.returns
returns c = two-put _ _ _ _ (omega arith)
