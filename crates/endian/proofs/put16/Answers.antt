-- `put16`: two bytes of a number put. Assumes nothing.
use native.Mathlib.Omega.{arith}
use lib.ListN.{length-set}
use Rattle.endian.proofs.Putting.{put_2}
use Rattle.endian.proofs.put16.Goals as goal

pub bounds-out-at-2 : goal.bounds-out-at-2
bounds-out-at-2 c = simp length-set (omega arith)

pub returns : goal.returns
returns c = put_2 _ _ _ _ _ (omega arith) (omega arith) (omega arith)
