-- `encode_scatter`: the tests of its fields, and their sum. Assumes nothing.
use Rattle.std.proofs.Common.{◌≡◌, Some, sym, refl, ◌∙◌, arith}
use Rattle.encoding.specs.Encoding.{row_for, class_for}
use Rattle.encoding.specs.Layouts.{listed}
use Rattle.encoding.specs.declared.Store.TheVariants.{Scatter}
use Rattle.encoding.proofs.Causes.{encode-yes, encode-no}
use Rattle.encoder.proofs.Fitting.{not-found, row-listed, row-feature, row-layout, row-base, row-base-bounded, scatter-fit, scatter-word}
use Rattle.encoder.proofs.encode_scatter.Goals as goal
use Rattle.encoder.proofs.encode_scatter.Goals.{In_ok-row}

found : (c : In_ok-row) → Some c.in_ok-row.row ≡ listed (row_for (Scatter c.args.f))
found c = sym c.in_ok-row.was ∙ c.row_of.ensures

pub returns-in_err-row : goal.returns-in_err-row
returns-in_err-row c = c.from_residual.ensures ∙ not-found (Scatter c.args.f) (sym c.in_err-row.was ∙ c.row_of.ensures)

pub overflow_add-result : goal.overflow_add-result
overflow_add-result c =
    let a = (goal.at.overflow_add-result c).In_ok-row in
    omega (arith, row-base-bounded (Scatter c.args.f) a.in_ok-row.row (found a))

pub returns-then-scatter_fits-extends : goal.returns-then-scatter_fits-extends
returns-then-scatter_fits-extends c =
    let f = c.args.f in
    let r = c.in_ok-row.row in
    let e = found (goal.at.returns-then-scatter_fits-extends c).In_ok-row in
    let h = row-listed (Scatter f) r e in
    encode-yes (Scatter f) (row_for (Scatter f)) refl h _ _
    (scatter-fit (row_for (Scatter f)) h (row-feature (Scatter f) r e) f r.layout (row-layout (Scatter f) r e)
    c.scatter_fits.result c.extends.result c.scatter_fits.ensures c.extends.ensures)
    c.if-scatter_fits-extends.true
    (scatter-word (class_for (Scatter f)) f r.base c.xs_of.result c.scatter_sum.result
    (row-base (Scatter f) r e) c.xs_of.ensures.is c.scatter_sum.ensures.is)

pub returns-else-scatter_fits-extends : goal.returns-else-scatter_fits-extends
returns-else-scatter_fits-extends c =
    let f = c.args.f in
    let r = c.in_ok-row.row in
    let e = found (goal.at.returns-else-scatter_fits-extends c).In_ok-row in
    let h = row-listed (Scatter f) r e in
    encode-no (Scatter f) (row_for (Scatter f)) refl h _
    (scatter-fit (row_for (Scatter f)) h (row-feature (Scatter f) r e) f r.layout (row-layout (Scatter f) r e)
    c.scatter_fits.result c.extends.result c.scatter_fits.ensures c.extends.ensures)
    c.if-scatter_fits-extends.false
