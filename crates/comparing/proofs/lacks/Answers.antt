-- `lacks`: a list that has room for any two patches, or the entries counted. Assumes nothing.
use mathlib.Core.Path.{ap, ◌∙◌}
use native.Mathlib.Omega.{arith}
use Rattle.std.specs.Prelude.{Some}
use Rattle.writes.specs.Sizes.{max_bytes}
use Rattle.writes.proofs.Sizes.{bytes_fit}
use Rattle.comparing.proofs.Turning.{small_of}
use Rattle.comparing.proofs.Outcomes.{lacking-some, lacking-none}
use Rattle.comparing.proofs.lacks.Goals as goal

pub returns-then-numbers-ge-ALWAYS_ROOM : goal.returns-then-numbers-ge-ALWAYS_ROOM
unfolding max_bytes
returns-then-numbers-ge-ALWAYS_ROOM c = lacking-none _ _ (omega (arith, small_of _ _ c.requires))

pub overflow_mul-n : goal.overflow_mul-n
overflow_mul-n c = omega (arith, small_of _ _ c.requires, c.count-n.ensures, bytes_fit)

pub returns-then-numbers-n : goal.returns-then-numbers-n
returns-then-numbers-n c = ap Some c.count-n.ensures ∙ lacking-some _ _ (omega (arith, c.count-n.ensures))

pub returns-else-numbers-n : goal.returns-else-numbers-n
returns-else-numbers-n c = lacking-none _ _ (omega (arith, c.count-n.ensures))
