-- `survey_runs`: the window spans the runs, or the lowest outside is looked for. Assumes nothing.
use mathlib.Core.Path.{sym}
use Rattle.patch.proofs.placing.survey_runs.Goals as goal

pub returns-then-spanned : goal.returns-then-spanned
returns-then-spanned c = sym (c.spanned.ensures c.if-spanned.true)
