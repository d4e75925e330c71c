-- `Cursor::past`: its numbers. Assumes nothing.
use mathlib.Core.Path.{refl}
use Rattle.reading.specs.Reader.{past}
use Rattle.reading.proofs.Cursor.past.Goals as goal

pub returns : goal.returns
unfolding past
returns c = refl
