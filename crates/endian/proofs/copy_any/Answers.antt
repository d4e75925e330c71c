-- `copy_any`: the first bytes and the last of a width, which may overlap. Assumes nothing.
use native.Mathlib.Omega.{arith}
use Prim.Native.Nat.{◌-◌}
use lib.ListN.{length}
use Rattle.endian.proofs.Copying.{copied-ends, copied-one, copied_none}
use Rattle.endian.proofs.copy_any.Goals as goal

pub returns-then-n-ge8 : goal.returns-then-n-ge8
returns-then-n-ge8 c =
    let d = c.args.dst.now in
    copied-ends c.args.src.now d _ _ (length d - 8) 8 c.requires (omega arith) (omega arith) c.copy8.ensures
    c.copy8-then-n-ge8.ensures

pub returns-then-n-ge4 : goal.returns-then-n-ge4
returns-then-n-ge4 c =
    let d = c.args.dst.now in
    copied-ends c.args.src.now d _ _ (length d - 4) 4 c.requires (omega arith) (omega arith) c.copy4.ensures
    c.copy4-then-n-ge4.ensures

pub returns-then-n-ge2 : goal.returns-then-n-ge2
returns-then-n-ge2 c =
    let d = c.args.dst.now in
    copied-ends c.args.src.now d _ _ (length d - 2) 2 c.requires (omega arith) (omega arith) c.copy2.ensures
    c.copy2-then-n-ge2.ensures

pub returns-then-n-ge1 : goal.returns-then-n-ge1
returns-then-n-ge1 c =
    copied-one c.args.src.now c.args.dst.now c.requires (omega arith)

pub returns-else-n-ge1 : goal.returns-else-n-ge1
returns-else-n-ge1 c =
    copied_none c.args.src.now c.args.dst.now c.requires (omega arith)
