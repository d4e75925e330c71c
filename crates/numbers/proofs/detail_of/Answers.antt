-- `detail_of`: by the refusal. Assumes nothing.
use mathlib.Core.Path.{sym, ap}
use Rattle.verdicts.specs.Verdicts.{detail}
use Rattle.numbers.proofs.detail_of.Goals as goal

pub returns-in-Fault : goal.returns-in-Fault
returns-in-Fault c = sym (ap detail c.in-Fault.is)

pub returns-in-Overlap : goal.returns-in-Overlap
returns-in-Overlap c = sym (ap detail c.in-Overlap.is)
