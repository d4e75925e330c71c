-- Comparing two byte strings: for each answer when it is given, and what list it leaves (document 02 (v)). Assumes nothing.
use Rattle.std.specs.Prelude.{ℕ, ◌*◌, ◌≤◌, ◌<◌, List, [], ◌∷◌, ◌++◌, ◌≡◌, length, drop, Result, Ok, Err}
use Rattle.std.proofs.Math.Option.{Option, none, some}
use Rattle.writes.specs.Sets.{ByteWrite}
use Rattle.writes.specs.Encoding.{PatchOf}
use Rattle.comparing.specs.Differences.{Difference, differ, Lists}
use Rattle.comparing.specs.declared.CompareError.{CompareError}
use Rattle.comparing.specs.declared.CompareError.TheVariants.{NoRoom, FirstBad, SecondBad}

-- a side as a number: the byte, or 256 for "not written"
abbrev pub side_number : Option ℕ → ℕ
side_number none = 256
side_number (some b) = b

-- three numbers an entry: the address, the first's side, the second's
unfoldable pub numbers_of : List Difference → List ℕ
numbers_of [] = []
numbers_of (differ a o p ∷ ds) = a ∷ side_number o ∷ side_number p ∷ numbers_of ds

-- some set within the sizes has this encoding; none has
abbrev pub IsPatch : List ℕ → Type 0
IsPatch s = (S : List ByteWrite) × PatchOf S s

abbrev pub NoPatch : List ℕ → Type 0
NoPatch s = (S : List ByteWrite) → PatchOf S s → ⊥

-- s and t are patches, and ds is what differs
pub record Differing (s t : List ℕ) (ds : List Difference) : Type 0 where
  pub one : List ByteWrite
  pub two : List ByteWrite
  pub first : PatchOf one s
  pub second : PatchOf two t
  pub lists : Lists one two ds

-- what comparing answers: the number of entries, or why there are none
abbrev pub Compared : Type 0
Compared = Result ℕ CompareError

-- "refuse with 9 if either isn't a patch, and say which (the first when both are bad)"; "No refusal writes to the caller's difference
-- list; too short a list gets 8, here with the number of entries needed. Done reports the number of entries, and those behind the last
-- are unchanged." Comparing s and t with the list l answers the fourth argument and leaves the fifth.
unfoldable pub ComparedTo : List ℕ → List ℕ → List ℕ → Compared → List ℕ → Type 0
ComparedTo s t l (Err FirstBad) l' = NoPatch s × (l' ≡ l)
ComparedTo s t l (Err SecondBad) l' = IsPatch s × NoPatch t × (l' ≡ l)
ComparedTo s t l (Err (NoRoom n)) l' =
    ((ds : List Difference) × Differing s t ds × (n ≡ length ds)) × (length l < 3 * n) × (l' ≡ l)
ComparedTo s t l (Ok n) l' =
    (ds : List Difference) × Differing s t ds × (n ≡ length ds) × (3 * n ≤ length l) × (l' ≡ numbers_of ds ++ drop (3 * n) l)
