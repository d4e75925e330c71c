-- `step_on`: what isn't bad is the trailer, by its mark, or a run that may come next. Assumes nothing.
use mathlib.Core.Path.{◌∙◌, ap, ap₂, sym, subst}
use native.Mathlib.Omega.{arith}
use Prim.Native.Nat.{ℕ, ◌+◌}
use Rattle.std.specs.Prelude.{Some}
use Rattle.reading.specs.Reader.{past, Passes}
use Rattle.reading.specs.declared.Cursor.{Cursor}
use Rattle.reading.specs.declared.Step.TheVariants.{Next}
use Rattle.reading.proofs.Standing.{is-trailer, is-run, mark-inside, passes}
use Rattle.reading.proofs.step_on.Goals as goal

pub overflow_add-mark : goal.overflow_add-mark
overflow_add-mark c = omega (arith, mark-inside _ _ c.requires)

pub bounds-s-at : goal.bounds-s-at
bounds-s-at c = omega (arith, mark-inside _ _ c.requires)

pub overflow_add-result : goal.overflow_add-result
overflow_add-result c = omega (arith, mark-inside _ _ c.requires)

pub returns-then-mark-eq69 : goal.returns-then-mark-eq69
returns-then-mark-eq69 c = (is-trailer _ _ c.requires c.if-mark-eq69.true).step

pub overflow_add-at : goal.overflow_add-at
overflow_add-at c = omega (arith, (is-run _ _ c.requires c.if-mark-eq69.false).2.head)

pub le64-start-requires : goal.le64-start-requires
le64-start-requires c = omega (arith, (is-run _ _ c.requires c.if-mark-eq69.false).2.head)

pub overflow_add-at-2 : goal.overflow_add-at-2
overflow_add-at-2 c = omega (arith, (is-run _ _ c.requires c.if-mark-eq69.false).2.head)

pub le16-len-requires : goal.le16-len-requires
le16-len-requires c = omega (arith, (is-run _ _ c.requires c.if-mark-eq69.false).2.head)

pub overflow_add-result-2 : goal.overflow_add-result-2
overflow_add-result-2 c =
    let k = (is-run _ _ c.requires c.if-mark-eq69.false).2 in
    omega (arith, k.head, c.le16-len.ensures.0 ∙ sym k.head.count)

-- a run that may come next passes no type's top
pub past-requires : goal.past-requires
past-requires c =
    let r = is-run _ _ c.requires c.if-mark-eq69.false in
    let k = r.2 in
    subst (λ (n : ℕ). Passes c.args.c c.le64-start.result n) (k.head.count ∙ sym c.le16-len.ensures.0)
    (subst (λ (st : ℕ). Passes c.args.c st r.1) (k.head.start ∙ sym c.le64-start.ensures) (passes _ _ _ _ k.head k.admitted (omega arith)))

pub returns : goal.returns
returns c =
    let a = c.args in
    let k = (is-run _ _ c.requires c.if-mark-eq69.false).2 in
    let st = c.le64-start.ensures ∙ sym k.head.start in
    let n = c.le16-len.ensures.0 ∙ sym k.head.count in
    ap (λ (z : Cursor). Some (Next c.le64-start.result (a.c.at + 12) c.le16-len.result z)) c.past.ensures
    ∙ ap₂ (λ (x y : ℕ). Some (Next x (a.c.at + 12) y (past a.c x y))) st n
    ∙ k.step
