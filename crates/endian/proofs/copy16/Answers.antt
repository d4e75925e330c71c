-- `copy16`: sixteen bytes read as two numbers and put. Assumes nothing.
use Prim.Native.Nat.{◌+◌}
use native.Mathlib.Omega.{arith}
use Rattle.endian.proofs.LittleEndian.{bytes-at}
use Rattle.endian.proofs.Copying.{put-copied, copied_on}
use Rattle.endian.proofs.copy16.Goals as goal

pub returns : goal.returns
returns c =
    let d = c.args.dst.now in
    let s = c.args.src.now in
    let i = c.args.i in
    let hb = bytes-at s (λ j. (c.shared_slice_known-1.given j).fits) in
    let fits = c.requires.1 in
    copied_on d s _ _ i 8 (omega arith) (omega (arith, c.requires.0))
    (put-copied d s _ i 8 _ hb (omega arith) c.le64-low.ensures c.put64.ensures)
    (put-copied _ s _ (i + 8) 8 _ hb (omega arith) c.le64-high.ensures c.put64-2.ensures)
