-- What differs between two sets of byte writes: document 02 (v), "list, by ascending address, each address where they differ, and for
-- each side "not written" or the byte". Assumes nothing.
use Rattle.std.specs.Prelude.{ℕ, suc, ◌≤◌, Bool, true, false, cond, List, [], ◌∷◌, ◌≡◌, eqb}
use Rattle.std.proofs.Math.Option.{Option, none, some}
use Rattle.writes.specs.Sets.{ByteWrite, lookup}

-- both sides at an address: "not written" is none
pub data Sides : Type 0 where
  sides : Option ℕ → Option ℕ → Sides

-- an entry of the list: an address, and both sides
pub data Difference : Type 0 where
  differ : ℕ → Option ℕ → Option ℕ → Difference

-- whether both sides are alike: neither is written, or both have the same byte
unfoldable pub alike : Option ℕ → Option ℕ → Bool
alike none none = true
alike none (some d) = false
alike (some b) none = false
alike (some b) (some d) = eqb b d

-- both sides, where they aren't alike
unfoldable pub unlike : Option ℕ → Option ℕ → Option Sides
unfolding alike
unlike o p = cond (alike o p) none (some (sides o p))

-- "by ascending address": from f on
abbrev pub Ascends : ℕ → List Difference → Type 0
Ascends f [] = Unit {0}
Ascends f (differ a o p ∷ ds) = (f ≤ a) × Ascends (suc a) ds

-- what a list has at an address
unfoldable pub listed_at : ℕ → List Difference → Option Sides
listed_at x [] = none
listed_at x (differ a o p ∷ ds) = cond (eqb x a) (some (sides o p)) (listed_at x ds)

-- ds is the list of what differs between S and T
pub record Lists (S T : List ByteWrite) (ds : List Difference) : Type 0 where
  pub ascends : Ascends 0 ds
  pub each : (x : ℕ) → listed_at x ds ≡ unlike (lookup x S) (lookup x T)
