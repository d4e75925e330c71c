-- `has_room`: by a bound. Assumes nothing.
use mathlib.Core.Path.{sym, ◌∙◌}
use borrow.Author.Tests.{le-leb}
use Rattle.stretches.proofs.Measuring.{room-enough}
use Rattle.stretches.proofs.has_room.Goals as goal

pub returns-then-stretches-bytes : goal.returns-then-stretches-bytes
returns-then-stretches-bytes c = le-leb _ _ c.if-stretches-bytes.true ∙ sym (room-enough _ _ _ c.requires.1 c.if-stretches-bytes.true)
