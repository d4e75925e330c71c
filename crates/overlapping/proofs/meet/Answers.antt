-- `meet`: each starts before the other ends. Assumes nothing.
use mathlib.Core.Path.{◌≡◌}
use mathlib.Core.Bool.{◌&&◌}
use Prim.Native.Nat.{ℕ}
use lib.Dec.{ltb}
use Rattle.overlapping.specs.Overlaps.{meets}
use Rattle.overlapping.proofs.meet.Goals as goal

-- by where each starts and ends
of : (a b c d a' b' c' d' : ℕ) → a ≡ a' → b ≡ b' → c ≡ c' → d ≡ d' → ltb a d && ltb c b ≡ meets a' b' c' d'
unfolding meets
of a b c d a' b' c' d' p q r s = λ i. ltb (p i) (s i) && ltb (r i) (q i)

pub returns : goal.returns
returns c =
    of _ _ _ _ _ _ _ _ c.start_of.ensures.0 c.end_of-2.ensures.0 c.start_of-2.ensures.0 c.end_of.ensures.0
