-- `side`: a byte that is there, or 256. Assumes nothing.
use mathlib.Core.Path.{◌∙◌}
use Rattle.comparing.proofs.Zipping.{side-in, side-past}
use Rattle.comparing.proofs.parts.side.Goals as goal

pub returns-then-i-p : goal.returns-then-i-p
returns-then-i-p c = c.from.ensures ∙ side-in _ _ c.if-i-p.true

pub returns : goal.returns
returns c = side-past _ _ c.if-i-p.false
