-- `encode_strided`: the tests of its fields, of its first register and of its multiple, and their sum. Assumes nothing.
use Rattle.std.proofs.Common.{◌≡◌, Some, sym, refl, ap₂, ◌∙◌, arith}
use Rattle.encoding.specs.Encoding.{row_for, class_for, imm_of}
use Rattle.encoding.specs.Layouts.{listed}
use Rattle.encoding.specs.declared.Store.TheVariants.{Strided}
use Rattle.encoding.proofs.Causes.{encode-yes, encode-no}
use Rattle.encoding.proofs.Signed.{wide_fits, wide_is}
use mir.Syntax.{w8}
use mir.Val.{SFits}
use Rattle.encoder.proofs.Fitting.{not-found, row-listed, row-feature, row-layout, row-base, row-bounded, row-base-bounded, strided-fit, strided-word}
use Rattle.encoder.proofs.encode_strided.Goals as goal
use Rattle.encoder.proofs.encode_strided.Goals.{In_ok-row, Start}

found : (c : In_ok-row) → Some c.in_ok-row.row ≡ listed (row_for (Strided c.args.f))
found c = sym c.in_ok-row.was ∙ c.row_of.ensures

pub returns-in_err-row : goal.returns-in_err-row
returns-in_err-row c = c.from_residual.ensures ∙ not-found (Strided c.args.f) (sym c.in_err-row.was ∙ c.row_of.ensures)

byte : (a : Start) → SFits w8 a.args.f.multiple
byte a = record { sfits = omega arith }

pub overflow_cast-f : goal.overflow_cast-f
overflow_cast-f c = wide_fits _ (byte (goal.at.overflow_cast-f c).Start)

pub overflow_add-result : goal.overflow_add-result
overflow_add-result c =
    let a = (goal.at.overflow_add-result c).In_ok-row in
    omega (arith, row-base-bounded (Strided c.args.f) a.in_ok-row.row (found a))

pub values-requires : goal.values-requires
values-requires c =
    let a = (goal.at.values-requires c).In_ok-row in
    omega (arith, (row-bounded (Strided c.args.f) a.in_ok-row.row (found a)).imm4.0)

pub imm4_of-imm4-requires : goal.imm4_of-imm4-requires
imm4_of-imm4-requires c =
    let a = (goal.at.imm4_of-imm4-requires c).In_ok-row in
    let l = row-bounded (Strided c.args.f) a.in_ok-row.row (found a) in
    (l.nreg, omega (arith, l.imm4.2, c.values.ensures))

pub strided_fits-requires : goal.strided_fits-requires
strided_fits-requires c =
    let a = (goal.at.strided_fits-requires c).In_ok-row in
    let l = row-bounded (Strided c.args.f) a.in_ok-row.row (found a) in
    (omega (arith, l.rm.0), omega (arith, l.imm4.0), omega (arith, l.zt.0))

pub returns-then-strided_fits : goal.returns-then-strided_fits
returns-then-strided_fits c =
    let f = c.args.f in
    let r = c.in_ok-row.row in
    let e = found (goal.at.returns-then-strided_fits c).In_ok-row in
    let h = row-listed (Strided f) r e in
    let v = c.imm4_of-imm4.ensures ∙ ap₂ (imm_of r.layout.nreg) c.values.ensures (wide_is f.multiple (byte (goal.at.returns-then-strided_fits c).Start)) in
    let a = c.strided_fits in
    encode-yes (Strided f) (row_for (Strided f)) refl h _ _
    (strided-fit (row_for (Strided f)) h (row-feature (Strided f) r e) f r.layout (row-layout (Strided f) r e) a.result c.imm4_of-imm4.result v a.ensures)
    c.if-strided_fits.true
    (strided-word (class_for (Strided f)) f r.layout r.base c.imm4_of-imm4.result c.strided_sum.result
    (row-layout (Strided f) r e) (row-base (Strided f) r e) v c.strided_sum.ensures.is)

pub returns-else-strided_fits : goal.returns-else-strided_fits
returns-else-strided_fits c =
    let f = c.args.f in
    let r = c.in_ok-row.row in
    let e = found (goal.at.returns-else-strided_fits c).In_ok-row in
    let h = row-listed (Strided f) r e in
    let v = c.imm4_of-imm4.ensures ∙ ap₂ (imm_of r.layout.nreg) c.values.ensures (wide_is f.multiple (byte (goal.at.returns-else-strided_fits c).Start)) in
    let a = c.strided_fits in
    encode-no (Strided f) (row_for (Strided f)) refl h _
    (strided-fit (row_for (Strided f)) h (row-feature (Strided f) r e) f r.layout (row-layout (Strided f) r e) a.result c.imm4_of-imm4.result v a.ensures)
    c.if-strided_fits.false
