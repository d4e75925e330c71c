-- `judge`: the answer, by where the steps end. Assumes nothing.
use mathlib.Core.Path.{sym, ◌∙◌}
use Rattle.patch.proofs.Judgements.{judge-patch, judge-other}
use Rattle.patch.proofs.judge.Goals as goal

pub returns-in-Ok : goal.returns-in-Ok
returns-in-Ok c = sym (judge-patch _ _ (sym c.in-Ok.is ∙ c.whole.ensures))

pub returns-in-Err : goal.returns-in-Err
returns-in-Err c = sym (judge-other _ _ (sym c.in-Err.is ∙ c.whole.ensures))
