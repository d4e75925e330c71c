-- `whole`: a trailer with nothing behind it, with something, or none. Assumes nothing.
use mathlib.Core.Path.{sym, ◌∙◌}
use native.Mathlib.Omega.{arith}
use Rattle.std.proofs.lemmas.Result.{err_from_is_err_and}
use Rattle.reading.proofs.Ends.{stop-fits}
use Rattle.patch.proofs.Judgements.{whole-broken, whole-ends, whole-followed}
use Rattle.patch.proofs.whole.Goals as goal

pub returns-in_err-c : goal.returns-in_err-c
returns-in_err-c c =
    let p = err_from_is_err_and c.from_residual.result c.from_residual.ensures.1 in
    rw (p.1, p.2) (whole-broken _ _ (sym c.in_err-c.was ∙ c.walk.ensures))

pub overflow_add-c : goal.overflow_add-c
overflow_add-c c = omega (arith, stop-fits _ _ _ (sym c.in_ok-c.was ∙ c.walk.ensures))

pub returns-then-c-patch : goal.returns-then-c-patch
returns-then-c-patch c = whole-ends _ _ (sym c.in_ok-c.was ∙ c.walk.ensures) (omega arith)

pub returns-else-c-patch : goal.returns-else-c-patch
returns-else-c-patch c = whole-followed _ _ (sym c.in_ok-c.was ∙ c.walk.ensures) (λ e. omega arith)
