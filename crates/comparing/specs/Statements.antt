-- What is promised of comparing, beside the contract of `compare`. Each has its proof in proofs/Statements.antt. A byte string is a list
-- of numbers below 256. Assumes nothing.
use Rattle.std.specs.Prelude.{ℕ, ◌+◌, ◌*◌, ◌≤◌, ◌<◌, List, [], ◌∷◌, ◌↔◌, ◌≡◌, length, get_or}
use Rattle.std.proofs.Math.Option.{Option, some}
use Rattle.endian.specs.LittleEndian.{Bytes}
use Rattle.writes.specs.Sets.{ByteWrite, lookup}
use Rattle.patch.specs.Judging.{judged}
use Rattle.patch.specs.Answers.{judged_number}
use Rattle.comparing.specs.Differences.{sides, Difference, differ, listed_at, Lists}
use Rattle.comparing.specs.Comparing.{side_number, numbers_of, Differing, Compared, ComparedTo}
use Rattle.comparing.specs.Answers.{compared_number, compared_numbers}

-- for every input exactly one answer and one list
abbrev pub OneOutcome : Type 0
OneOutcome =
    (s t l : List ℕ) → Bytes s → Bytes t
    → (r : Compared)
    × (l' : List ℕ)
    × ComparedTo s t l r l'
    × ((r₁ : Compared) (l₁ : List ℕ) → ComparedTo s t l r₁ l₁ → (r₁ ≡ r) × (l₁ ≡ l'))

-- "No refusal writes to the caller's difference list"
abbrev pub RefusalKeepsList : Type 0
RefusalKeepsList =
    (s t l : List ℕ) (r : Compared) (l' : List ℕ) → ComparedTo s t l r l' → (compared_number r ≡ 0 → ⊥) → l' ≡ l

-- "each address where they differ, and for each side "not written" or the byte": an address is listed exactly when the two sets'
-- lookups differ there, with just these values
abbrev pub ListsEach : Type 0
ListsEach =
    (S T : List ByteWrite) (ds : List Difference) → Lists S T ds → (x : ℕ) (o p : Option ℕ)
    → (listed_at x ds ≡ some (sides o p)) ↔ ((lookup x S ≡ lookup x T → ⊥) × (o ≡ lookup x S) × (p ≡ lookup x T))

-- the list is determined by the strings
abbrev pub OneList : Type 0
OneList = (s t : List ℕ) (ds ds' : List Difference) → Differing s t ds → Differing s t ds' → ds ≡ ds'

-- "Nothing differs exactly when the strings are equal."
abbrev pub NothingDiffers : Type 0
NothingDiffers = (s t : List ℕ) (ds : List Difference) → Differing s t ds → (ds ≡ []) ↔ (s ≡ t)

-- two patches write at most 1,024 bytes each
abbrev pub FewEntries : Type 0
FewEntries = (s t : List ℕ) (ds : List Difference) → Differing s t ds → length ds ≤ 2048

-- the same addresses, with the sides exchanged
unfoldable pub exchanged : List Difference → List Difference
exchanged [] = []
exchanged (differ a o p ∷ ds) = differ a p o ∷ exchanged ds

-- comparing the other way round
abbrev pub OtherWayRound : Type 0
OtherWayRound = (s t : List ℕ) (ds : List Difference) → Differing s t ds → Differing t s (exchanged ds)

-- "later calls that read patches judge alike" (document 01); "say which (the first when both are bad)", in the numbers that leave the call
abbrev pub JudgesAlike : Type 0
JudgesAlike =
    (s t l : List ℕ) → Bytes s → Bytes t → (r : Compared) (l' : List ℕ) → ComparedTo s t l r l'
    → (((compared_number r ≡ 9) × (compared_numbers r ≡ 0 ∷ 0 ∷ 0 ∷ 0 ∷ 0 ∷ [])) ↔ (judged_number (judged s) ≡ 9))
    × (((compared_number r ≡ 9) × (compared_numbers r ≡ 1 ∷ 0 ∷ 0 ∷ 0 ∷ 0 ∷ []))
    ↔ ((judged_number (judged s) ≡ 0) × (judged_number (judged t) ≡ 9)))

-- of two patches: 0 exactly when the list has room, 8 exactly when it hasn't, and either way the number of entries
abbrev pub CountsEntries : Type 0
CountsEntries =
    (s t l : List ℕ) (ds : List Difference) → Differing s t ds → (r : Compared) (l' : List ℕ) → ComparedTo s t l r l'
    → ((compared_number r ≡ 0) ↔ (3 * length ds ≤ length l))
    × ((compared_number r ≡ 8) ↔ (length l < 3 * length ds))
    × (compared_numbers r ≡ 0 ∷ 0 ∷ length ds ∷ 0 ∷ 0 ∷ [])

-- an entry's numbers: behind an address what the first writes there, then what the second does
abbrev pub EntriesInNumbers : Type 0
EntriesInNumbers =
    (S T : List ByteWrite) (ds : List Difference) → Lists S T ds → (k : ℕ) → k < length ds
    → (get_or (numbers_of ds) (3 * k + 1) 0 ≡ side_number (lookup (get_or (numbers_of ds) (3 * k) 0) S))
    × (get_or (numbers_of ds) (3 * k + 2) 0 ≡ side_number (lookup (get_or (numbers_of ds) (3 * k) 0) T))
