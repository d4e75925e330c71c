-- The five. Assumes nothing.
use mathlib.Core.Path.{refl}
use Rattle.verdicts.specs.Verdicts.{one_of_five}
use Rattle.conditions.proofs.one_of_five.Goals as goal

pub returns : goal.returns
unfolding one_of_five
returns c = refl
