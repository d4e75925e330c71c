-- `access_for`: by the store's case. Assumes nothing.
use mathlib.Core.Bool.{false}
use mathlib.Core.Path.{◌≡◌, sym, ap, ap₂, ◌∙◌}
use Rattle.encoding.specs.Encoding.{class_for, feature_of, refused}
use Rattle.encoding.specs.declared.Store.{Store}
use Rattle.encoding.specs.declared.Store.TheVariants as S
use Rattle.elements.specs.Machine.{lent_with}
use Rattle.checks.specs.Checking.{access_for}
use Rattle.checks.specs.declared.Access.TheVariants.{Vector, Strided}
use Rattle.elements.specs.Accesses.{strided_of}
use Rattle.checks.proofs.stores.access_for.Goals as goal

pub scatter_access-requires : goal.scatter_access-requires
scatter_access-requires c =
    (ap refused (sym c.in-Scatter.is) ∙ c.requires.store_value, c.requires.le_vb.1)

-- a store isn't refused, by its case
accepted : (s t : Store) → s ≡ t → refused s ≡ false → refused t ≡ false
accepted s t e r = ap refused (sym e) ∙ r

pub start_of-start-requires : goal.start_of-start-requires
start_of-start-requires c = (accepted _ _ c.in-Strided.is c.requires.store_value, c.requires.le_vb.1)

pub range_for-range-requires : goal.range_for-range-requires
range_for-range-requires c =
    let p = c.requires.le_vb in
    record {
      f_value = accepted _ _ c.in-Strided.is c.requires.store_value;
      le_vb = (p.0, p.1, p.2, p.3 (ap feature_of c.in-Strided.is));
    }

pub strided_access-requires : goal.strided_access-requires
strided_access-requires c = accepted _ _ c.in-Strided.is c.requires.store_value

pub quadword_access-requires : goal.quadword_access-requires
quadword_access-requires c =
    (ap refused (sym c.in-Quadword.is) ∙ c.requires.store_value, c.requires.le_vb.1)

pub returns-in-Scatter : goal.returns-in-Scatter
returns-in-Scatter c =
    let g = c.args in
    λ z. ap Vector c.scatter_access.ensures
    ∙ sym (ap (access_for (lent_with g.machine z)) c.in-Scatter.is)

pub returns-in-Strided : goal.returns-in-Strided
returns-in-Strided c =
    let g = c.args in
    λ z.
    let m = lent_with g.machine z in
    let f = c.in-Strided.f in
    ap Strided
    (c.strided_access.ensures ∙ ap₂ (strided_of (class_for (S.Strided f)) f) c.start_of-start.ensures c.range_for-range.ensures)
    ∙ sym (ap (access_for m) c.in-Strided.is)

pub returns-in-Quadword : goal.returns-in-Quadword
returns-in-Quadword c =
    let g = c.args in
    λ z. ap Vector c.quadword_access.ensures
    ∙ sym (ap (access_for (lent_with g.machine z)) c.in-Quadword.is)
