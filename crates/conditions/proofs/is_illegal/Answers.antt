-- `is_illegal`: by the feature. Assumes nothing.
use mathlib.Core.Path.{sym, ap}
use Rattle.verdicts.specs.Verdicts.{illegal}
use Rattle.conditions.proofs.is_illegal.Goals as goal

pub returns-in-SVE : goal.returns-in-SVE
returns-in-SVE c = ap (illegal c.args.flags) (sym c.in-SVE.is)

pub returns-in-SVE2p1 : goal.returns-in-SVE2p1
returns-in-SVE2p1 c = ap (illegal c.args.flags) (sym c.in-SVE2p1.is)
