-- `is_off`: by the feature. Assumes nothing.
use mathlib.Core.Path.{sym, ap}
use mathlib.Core.Bool.{Bool, not}
use Rattle.encoding.specs.declared.Feature.{Feature}
use Rattle.verdicts.specs.Verdicts.{flag_on}
use Rattle.verdicts.specs.declared.Flags.{Flags}
use Rattle.conditions.proofs.is_off.Goals as goal

abbrev off : Flags → Feature → Bool
off f x = not (flag_on f x)

pub returns-in-SVE : goal.returns-in-SVE
returns-in-SVE c = ap (off c.args.flags) (sym c.in-SVE.is)

pub returns-in-SME2 : goal.returns-in-SME2
returns-in-SME2 c = ap (off c.args.flags) (sym c.in-SME2.is)

pub returns-in-SVE2p1 : goal.returns-in-SVE2p1
returns-in-SVE2p1 c = ap (off c.args.flags) (sym c.in-SVE2p1.is)
