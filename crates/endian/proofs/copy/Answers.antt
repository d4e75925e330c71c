-- `copy`: eight bytes, sixteen, one, four or two by one move, any other number by `copy_any`. Assumes nothing.
use Rattle.endian.proofs.Copying.{copied-once, copied-one}
use Rattle.endian.proofs.copy.Goals as goal

pub returns-then-n-eq8 : goal.returns-then-n-eq8
returns-then-n-eq8 c =
    copied-once c.args.src.now c.args.dst.now _ _ c.requires c.if-n-eq8.true c.copy8.ensures

pub returns-then-n-eq16 : goal.returns-then-n-eq16
returns-then-n-eq16 c =
    copied-once c.args.src.now c.args.dst.now _ _ c.requires c.if-n-eq16.true c.copy16.ensures

pub returns-then-n-eq1 : goal.returns-then-n-eq1
returns-then-n-eq1 c =
    copied-one c.args.src.now c.args.dst.now c.requires c.if-n-eq1.true

pub returns-then-n-eq4 : goal.returns-then-n-eq4
returns-then-n-eq4 c =
    copied-once c.args.src.now c.args.dst.now _ _ c.requires c.if-n-eq4.true c.copy4.ensures

pub returns-then-n-eq2 : goal.returns-then-n-eq2
returns-then-n-eq2 c =
    copied-once c.args.src.now c.args.dst.now _ _ c.requires c.if-n-eq2.true c.copy2.ensures
