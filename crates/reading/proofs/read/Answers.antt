-- `read`: what is read, by where the steps end. Assumes nothing.
use mathlib.Core.Path.{sym, ◌∙◌}
use native.Mathlib.Omega.{arith}
use Rattle.reading.proofs.Ends.{stop-fits, read-ended, read-broken}
use Rattle.reading.proofs.read.Goals as goal

pub overflow_add-result : goal.overflow_add-result
overflow_add-result c = omega (arith, stop-fits _ _ _ (sym c.in-Ok.is ∙ c.walk.ensures))

pub returns-in-Ok : goal.returns-in-Ok
returns-in-Ok c = read-ended _ _ _ (sym c.in-Ok.is ∙ c.walk.ensures)

pub returns-in-Err : goal.returns-in-Err
returns-in-Err c = read-broken _ _ _ (sym c.in-Err.is ∙ c.walk.ensures)
