-- `skip`: within the run, or to the next. Assumes nothing.
use mathlib.Core.Path.{refl}
use Rattle.comparing.proofs.Standing.{skip-part, skip_all}
use Rattle.comparing.proofs.fronts.skip.Goals as goal

pub returns-then-k-left : goal.returns-then-k-left
returns-then-k-left c = skip-part _ _ _ _ _ _ c.requires.0 c.if-k-left.true refl refl refl

pub returns : goal.returns
returns c = skip_all _ _ _ _ c.requires.1 c.if-k-left.false c.front_at.ensures
