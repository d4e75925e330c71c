-- By its case. Assumes nothing.
use mathlib.Core.Path.{sym, ap}
use Rattle.verdicts.specs.Verdicts.{on_stack}
use Rattle.checks.proofs.stores.is_on_stack.Goals as goal

pub returns-in-Scatter : goal.returns-in-Scatter
returns-in-Scatter c = sym (ap on_stack c.in-Scatter.is)

pub returns-in-Strided : goal.returns-in-Strided
returns-in-Strided c = sym (ap on_stack c.in-Strided.is)
