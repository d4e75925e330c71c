-- `encode_quadword`: the tests of its fields, and their sum. Assumes nothing.
use Rattle.std.proofs.Common.{◌≡◌, Some, sym, refl, ◌∙◌, arith}
use Rattle.encoding.specs.Encoding.{row_for, class_for}
use Rattle.encoding.specs.Layouts.{listed}
use Rattle.encoding.specs.declared.Store.TheVariants.{Quadword}
use Rattle.encoding.proofs.Causes.{encode-yes, encode-no}
use Rattle.encoder.proofs.Fitting.{not-found, row-listed, row-feature, row-base, row-base-bounded, quadword-fit, quadword-word}
use Rattle.encoder.proofs.encode_quadword.Goals as goal
use Rattle.encoder.proofs.encode_quadword.Goals.{In_ok-row}

found : (c : In_ok-row) → Some c.in_ok-row.row ≡ listed (row_for (Quadword c.args.f))
found c = sym c.in_ok-row.was ∙ c.row_of.ensures

pub returns-in_err-row : goal.returns-in_err-row
returns-in_err-row c = c.from_residual.ensures ∙ not-found (Quadword c.args.f) (sym c.in_err-row.was ∙ c.row_of.ensures)

pub overflow_add-result : goal.overflow_add-result
overflow_add-result c =
    let a = (goal.at.overflow_add-result c).In_ok-row in
    omega (arith, row-base-bounded (Quadword c.args.f) a.in_ok-row.row (found a))

pub returns-then-quadword_fits : goal.returns-then-quadword_fits
returns-then-quadword_fits c =
    let f = c.args.f in
    let r = c.in_ok-row.row in
    let a = c.quadword_fits in
    let e = found (goal.at.returns-then-quadword_fits c).In_ok-row in
    let h = row-listed (Quadword f) r e in
    encode-yes (Quadword f) (row_for (Quadword f)) refl h _ _
    (quadword-fit (row_for (Quadword f)) h (row-feature (Quadword f) r e) f a.result a.ensures)
    c.if-quadword_fits.true
    (quadword-word (class_for (Quadword f)) f r.base c.quadword_sum.result (row-base (Quadword f) r e) c.quadword_sum.ensures.is)

pub returns-else-quadword_fits : goal.returns-else-quadword_fits
returns-else-quadword_fits c =
    let f = c.args.f in
    let r = c.in_ok-row.row in
    let a = c.quadword_fits in
    let e = found (goal.at.returns-else-quadword_fits c).In_ok-row in
    let h = row-listed (Quadword f) r e in
    encode-no (Quadword f) (row_for (Quadword f)) refl h _
    (quadword-fit (row_for (Quadword f)) h (row-feature (Quadword f) r e) f a.result a.ensures) c.if-quadword_fits.false
