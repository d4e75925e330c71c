-- What serves the contracts of the code's own functions: two sets walked side by side, and where each side stands. Assumes nothing.
use Rattle.std.specs.Prelude.{ℕ, zero, suc, ◌+◌, ◌-◌, ◌*◌, ◌^◌, ◌≤◌, Bool, false, cond, List, [], ◌∷◌, ◌++◌, ◌≡◌, eqb, ltb, length, take, drop, get_or, set}
use Rattle.std.specs.Prelude.{Option as Maybe, Some, None}
use Rattle.std.proofs.Math.Option.{Option, none, some}
use Rattle.endian.specs.LittleEndian.{Bytes, le_val}
use Rattle.writes.specs.Sets.{ByteWrite, write, Run, writes_at, writes_of}
use Rattle.writes.specs.Sizes.{max_runs}
use Rattle.writes.specs.Encoding.{PatchOf}
use Rattle.reading.specs.Reader.{whole}
use Rattle.reading.specs.Stops.{runs_in}
use Rattle.reading.specs.declared.Cursor.{Cursor}
use Rattle.reading.proofs.Loops.{rest}
use Rattle.patch.specs.Placing.{set_of}
use Rattle.comparing.specs.Differences.{Difference, differ}
use Rattle.comparing.specs.Comparing.{side_number}
use Rattle.comparing.specs.declared.fronts.Front.{Front}
use Rattle.comparing.specs.declared.fronts.Stretch.{Stretch}

-- ---- two sets side by side

-- what only the second writes
unfoldable pub seconds : List ByteWrite → List Difference
seconds [] = []
seconds (write c d ∷ T) = differ c none (some d) ∷ seconds T

-- a byte write of the first against the second set; `go` is the list of what follows the byte write
unfoldable pub against : ℕ → ℕ → (List ByteWrite → List Difference) → List ByteWrite → List Difference
against a b go [] = differ a (some b) none ∷ go []
against a b go (write c d ∷ T) =
    cond (ltb a c) (differ a (some b) none ∷ go (write c d ∷ T))
    (cond (ltb c a) (differ c none (some d) ∷ against a b go T)
    (cond (eqb b d) (go T) (differ a (some b) (some d) ∷ go T)))

-- all differences; that they are those of `Lists` is `differences-listed` in proofs/Merged.antt
unfoldable pub differences : List ByteWrite → List ByteWrite → List Difference
unfolding against seconds
differences [] T = seconds T
differences (write a b ∷ S) T = against a b (differences S) T

-- two parts side by side, from an address on
unfoldable pub zipped : ℕ → List ℕ → List ℕ → List Difference
zipped a [] [] = []
zipped a [] (d ∷ q) = differ a none (some d) ∷ zipped (suc a) [] q
zipped a (b ∷ p) [] = differ a (some b) none ∷ zipped (suc a) p []
zipped a (b ∷ p) (d ∷ q) = cond (eqb b d) (zipped (suc a) p q) (differ a (some b) (some d) ∷ zipped (suc a) p q)

-- a part's byte at an index as a number, 256 behind its end
unfoldable pub side_at : List ℕ → ℕ → ℕ
side_at p i = get_or p i 256

-- a part's byte at an index
unfoldable pub byte_at : List ℕ → ℕ → Option ℕ
byte_at [] i = none
byte_at (b ∷ p) zero = some b
byte_at (b ∷ p) (suc i) = byte_at p i

-- the entry of an index, where the parts differ there
unfoldable pub entry_at : ℕ → List ℕ → List ℕ → ℕ → List Difference
unfolding side_at byte_at
entry_at a p q i = cond (eqb (side_at p i) (side_at q i)) [] (differ (a + i) (byte_at p i) (byte_at q i) ∷ [])

-- whether eight bytes from an index on are there, and the same
unfoldable pub same_eight : List ℕ → List ℕ → ℕ → Bool
unfolding le_val
same_eight p q i = cond (ltb (length p - i) 8) false (eqb (le_val (take 8 (drop i p))) (le_val (take 8 (drop i q))))

-- entries put into a list from index k on
unfoldable pub put : ℕ → List ℕ → List Difference → List ℕ
put k l [] = l
put k l (differ a o p ∷ ds) = put (k + 3) (set (set (set l k a) (k + 1) (side_number o)) (k + 2) (side_number p)) ds

-- how many entries there are, where a list of so many numbers is too short for them
unfoldable pub lacking : ℕ → ℕ → Maybe ℕ
lacking numbers n = cond (ltb numbers (3 * n)) (Some n) None

-- ---- where a side stands

-- from a cursor on, runs up to a trailer are still to be read
abbrev pub Ends : List ℕ → Cursor → Type 0
Ends s c = (rs : List Run) × (e : ℕ) × (rest s c ≡ whole rs e)

-- what is left of a side: the run's part, and the runs behind it
unfoldable pub left_of : List ℕ → Front → List ByteWrite
left_of s f = writes_at f.address (take f.left (drop f.at s)) ++ writes_of (runs_in (rest s f.cursor))

-- the run's part stands in the string, and passes no 2^64; without one there are no runs behind it
pub record Fit (s : List ℕ) (f : Front) : Type 0 where
  pub stands : f.at + f.left ≤ length s
  pub top : f.address + f.left ≤ 2 ^ 64
  pub few : f.cursor.runs ≤ max_runs
  pub ends : Ends s f.cursor
  pub last : f.left ≡ 0 → runs_in (rest s f.cursor) ≡ []

-- at the run that a cursor comes to
pub record Fronted (s : List ℕ) (c : Cursor) (r : Front) : Type 0 where
  pub fit : Fit s r
  pub same : left_of s r ≡ writes_of (runs_in (rest s c))

-- at its first run
pub record Started (s : List ℕ) (r : Front) : Type 0 where
  pub fit : Fit s r
  pub same : left_of s r ≡ set_of s

-- k bytes of the run's part further
pub record Skipped (s : List ℕ) (f : Front) (k : ℕ) (r : Front) : Type 0 where
  pub fit : Fit s r
  pub same : left_of s f ≡ writes_at f.address (take k (drop f.at s)) ++ left_of s r

-- which bytes come next: the first's alone, up to where the second starts; the second's alone; or both from the same address
pub data Cut (f g : Front) (r : Stretch) : Type 0 where
  firsts : r.address ≡ f.address → r.one ≡ r.len → r.two ≡ 0 → r.len ≤ f.left → (r.len ≡ 0 → f.left + g.left ≡ 0)
      → (1 ≤ g.left → f.address + r.len ≤ g.address) → Cut f g r
  others : r.address ≡ g.address → r.one ≡ 0 → r.two ≡ r.len → r.len ≤ g.left → 1 ≤ r.len
      → (1 ≤ f.left → g.address + r.len ≤ f.address) → Cut f g r
  both : r.address ≡ f.address → f.address ≡ g.address → r.one ≡ r.len → r.two ≡ r.len → r.len ≤ f.left → r.len ≤ g.left
      → 1 ≤ r.len → Cut f g r

-- ---- two patches

pub record Patches (s t : List ℕ) : Type 0 where
  pub one : List ByteWrite
  pub two : List ByteWrite
  pub first : PatchOf one s
  pub second : PatchOf two t

-- two parts of bytes, none longer than n
pub record Parts (p q : List ℕ) (n : ℕ) : Type 0 where
  pub first : Bytes p
  pub second : Bytes q
  pub first_most : length p ≤ n
  pub second_most : length q ≤ n

-- with room for their entries from index k on, and addresses below 2^64
pub record Room (l : List ℕ) (k a : ℕ) (p q : List ℕ) (n : ℕ) : Type 0 where
  pub parts : Parts p q n
  pub top : a + n ≤ 2 ^ 64
  pub room : k + 3 * length (zipped a p q) ≤ length l
