-- `step_at`: one step, by its head and its tests. Assumes nothing.
use mathlib.Core.Path.{sym, ap, ◌∙◌}
use native.Mathlib.Omega.{arith}
use Prim.Native.Nat.{◌+◌}
use Rattle.std.specs.Prelude.{Some}
use Rattle.reading.specs.declared.Cursor.{Cursor}
use Rattle.reading.specs.declared.Step.TheVariants.{Next}
use Rattle.reading.proofs.Steps.{admits-inv}
use Rattle.reading.proofs.Standing.{passes}
use Rattle.reading.proofs.Heads.{run-in-inv, trailer-in-inv, step-neither, step-trailer, step-trailer-no, step_run, step-run-no}
use Rattle.reading.proofs.step_at.Goals as goal

pub overflow_add-result : goal.overflow_add-result
overflow_add-result c =
    omega (arith, trailer-in-inv _ _ _ (sym c.head_at.ensures ∙ c.in_ok-count.was ∙ ap Some c.in-Trailer.is))

pub overflow_add-result-then-admitted : goal.overflow_add-result-then-admitted
overflow_add-result-then-admitted c = omega (arith, run-in-inv _ _ _ _ (sym c.head_at.ensures ∙ c.in_ok-count.was ∙ ap Some c.in-Start.is))

-- a run that may come next passes no type's top
pub past-requires : goal.past-requires
past-requires c =
    let k = run-in-inv _ _ _ _ (sym c.head_at.ensures ∙ c.in_ok-count.was ∙ ap Some c.in-Start.is) in
    passes _ _ _ _ k (admits-inv _ _ _ (sym c.admitted.ensures ∙ c.if-admitted.true)) (omega arith)

pub returns-in_err-count : goal.returns-in_err-count
returns-in_err-count c = c.from_residual.ensures ∙ step-neither _ _ (sym c.head_at.ensures ∙ c.in_err-count.was)

pub returns-then-count-c : goal.returns-then-count-c
returns-then-count-c c =
    step-trailer _ _ _ (sym c.head_at.ensures ∙ c.in_ok-count.was ∙ ap Some c.in-Trailer.is) (omega arith)

pub returns-else-count-c : goal.returns-else-count-c
returns-else-count-c c =
    step-trailer-no _ _ _ (sym c.head_at.ensures ∙ c.in_ok-count.was ∙ ap Some c.in-Trailer.is) (λ e. omega arith)

pub returns-then-admitted : goal.returns-then-admitted
returns-then-admitted c =
    ap (λ (z : Cursor). Some (Next c.in-Start.start (c.args.c.at + 12) c.in-Start.len z)) c.past.ensures
    ∙ step_run _ _ _ _ (sym c.head_at.ensures ∙ c.in_ok-count.was ∙ ap Some c.in-Start.is) (sym c.admitted.ensures ∙ c.if-admitted.true)

pub returns-else-admitted : goal.returns-else-admitted
returns-else-admitted c = step-run-no _ _ _ _ (sym c.head_at.ensures ∙ c.in_ok-count.was ∙ ap Some c.in-Start.is) (sym c.admitted.ensures ∙ c.if-admitted.false)
