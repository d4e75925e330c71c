-- `copy_long`: sixteen bytes at a time, and the last sixteen. Invariant: the first i bytes are copied. Assumes nothing.
use native.Mathlib.Omega.{arith}
use Prim.Native.Nat.{◌-◌}
use lib.ListN.{length}
use Rattle.endian.proofs.Copying.{copied-first, copied_more, copied-last}
use Rattle.endian.proofs.copy_long.Goals as goal

pub loop-i-init : goal.loop-i-init
loop-i-init c = copied-first _ _ c.requires.1

pub overflow_sub-n : goal.overflow_sub-n
overflow_sub-n c = omega (arith, c.loop-i.invariant.most)

pub copy16-requires : goal.copy16-requires
copy16-requires c =
    let inv = c.loop-i.invariant in
    (omega (arith, inv.most, inv.long), omega (arith, inv.most))

pub overflow_add-i : goal.overflow_add-i
overflow_add-i c =
    omega (arith, c.loop-i.invariant.most)

pub loop-i-smaller : goal.loop-i-smaller
loop-i-smaller c =
    omega (arith, c.loop-i.invariant.most)

pub loop-i-preserved : goal.loop-i-preserved
loop-i-preserved c =
    let inv = c.loop-i.invariant in
    copied_more _ _ _ _ _ (omega (arith, inv.most)) inv c.copy16.ensures

pub overflow_sub-n-2 : goal.overflow_sub-n-2
overflow_sub-n-2 c =
    omega (arith, c.requires.0)

pub copy16-requires-2 : goal.copy16-requires-2
copy16-requires-2 c =
    let pre = c.requires in
    (omega (arith, pre.0, c.loop-i.invariant.long), omega (arith, pre.0))

pub returns : goal.returns
returns c =
    copied-last _ _ (length c.args.dst.now - 16) 16 _ _ (omega (arith, c.loop-i-test.false)) (omega (arith, c.requires.0))
    c.loop-i.invariant c.copy16-2.ensures
