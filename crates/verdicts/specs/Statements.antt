-- What is promised of the table of verdicts. Each has its proof in proofs/Statements.antt. Assumes nothing.
use Rattle.std.specs.Prelude.{ℕ, ◌+◌, ◌*◌, ◌%◌, ◌^◌, ◌≤◌, ◌<◌, Bool, true, false, cond, List, [], ◌∷◌, map, ◌↔◌, ◌⊎◌, ◌≡◌, eqb, length, Option, Some, None}
use Rattle.encoding.specs.declared.Store.{Store}
use Rattle.encoding.specs.declared.Store.TheVariants.{Scatter, Strided, Quadword}
use Rattle.writes.specs.Elements.{Element}
use Rattle.window.specs.Window.{in_window}
use Rattle.elements.specs.Machine.{Machine}
use Rattle.verdicts.specs.Verdicts.{elements_for, patch_of, Row, table, decided, refusal_number, number, Verdict}
use Rattle.verdicts.specs.declared.Flags.{Flags}

-- ---- any lines of a table

-- a line of number n is given
abbrev pub Given : ℕ → List Row → Type 0
Given n [] = ⊥
Given n (r ∷ rs) = ((r.number ≡ n) × (r.given ≡ true)) ⊎ Given n rs

-- none is given
abbrev pub NoneGiven : List Row → Type 0
NoneGiven [] = Unit {0}
NoneGiven (r ∷ rs) = (r.given ≡ false) × NoneGiven rs

-- a line of number n is given, and none that stands before it
abbrev pub Decides : ℕ → List Row → Type 0
Decides n [] = ⊥
Decides n (r ∷ rs) = ((r.number ≡ n) × (r.given ≡ true)) ⊎ ((r.given ≡ false) × Decides n rs)

-- the lines that stand before that of number n
abbrev pub before : ℕ → List Row → List Row
before n [] = []
before n (r ∷ rs) = cond (eqb r.number n) [] (r ∷ before n rs)

-- the lines but that of number n
abbrev pub without : ℕ → List Row → List Row
without n [] = []
without n (r ∷ rs) = cond (eqb r.number n) (without n rs) (r ∷ without n rs)

-- a line's number is that of what it returns, and isn't done's
pub record Numbers (r : Row) : Type 0 where
  pub same : refusal_number r.returned ≡ r.number
  pub some : r.number ≡ 0 → ⊥

abbrev pub Numbered : List Row → Type 0
Numbered [] = Unit {0}
Numbered (r ∷ rs) = Numbers r × Numbered rs

-- in lines so numbered the first that is given decides, whatever their order, and done is answered where none is
abbrev pub FirstGivenDecides : Type 0
FirstGivenDecides =
    (rs : List Row) (done : Verdict) → Numbered rs → number done ≡ 0
    → ((n : ℕ) → (n ≡ 0 → ⊥) → (number (decided rs done) ≡ n) ↔ Decides n rs)
    × ((number (decided rs done) ≡ 0) ↔ NoneGiven rs)

-- ---- the table

-- document 01's numbers stand in the table and in what its lines return alike
abbrev pub TableNumbered : Type 0
TableNumbered = (f : Flags) (m : Machine) (W L : ℕ) (d : Option Store) (room : ℕ) → Numbered (table f m W L d room)

-- document 02 (ix): "checks 1 to 7, 12 and 8 in that order"
abbrev pub TableInOrder : Type 0
TableInOrder =
    (f : Flags) (m : Machine) (W L : ℕ) (d : Option Store) (room : ℕ)
    → map (λ (r : Row). r.number) (table f m W L d room) ≡ 1 ∷ 2 ∷ 3 ∷ 4 ∷ 5 ∷ 6 ∷ 7 ∷ 12 ∷ 8 ∷ []

-- ---- its column "Given exactly when", line by line

-- x is one of the list
pub data Listed (x : Element) : List Element → Type 0 where
  here : {xs : List Element} → Listed x (x ∷ xs)
  there : {y : Element} {xs : List Element} → Listed x xs → Listed x (y ∷ xs)

-- x is one of the list, and y stands before it
pub data StandsBefore (y x : Element) : List Element → Type 0 where
  first : {xs : List Element} → Listed x xs → StandsBefore y x (y ∷ xs)
  later : {z : Element} {xs : List Element} → StandsBefore y x xs → StandsBefore y x (z ∷ xs)

-- an address that an element writes
abbrev pub Writes : Element → ℕ → Type 0
Writes x a = (x.address ≤ a) × (a < x.address + length x.bytes)

-- "two different active elements share a byte", of the list of the active ones: two of its places, and an address that both write
abbrev pub TwoShare : List Element → Type 0
TwoShare es = (y : Element) × (x : Element) × StandsBefore y x es × ((a : ℕ) × Writes y a × Writes x a)

-- "VB, the vector length in bytes: 16, 32, 64, 128 or 256"
abbrev pub OneOfFive : ℕ → Type 0
OneOfFive vb = (vb ≡ 16) ⊎ ((vb ≡ 32) ⊎ ((vb ≡ 64) ⊎ ((vb ≡ 128) ⊎ (vb ≡ 256))))

-- "any multiple of 16 from 16 to 256" (document 02 (vi))
abbrev pub AnyMultiple : ℕ → Type 0
AnyMultiple vb = ((k : ℕ) × (vb ≡ k * 16)) × (16 ≤ vb) × (vb ≤ 256)

-- "under the early edition VB may be any multiple of 16 from 16 to 256, under the late one the five of document 01. With streaming on, the
-- five hold under both.", by edition and streaming
abbrev pub AllowedLength : Bool → Bool → ℕ → Type 0
AllowedLength true false vb = AnyMultiple vb
AllowedLength true true vb = OneOfFive vb
AllowedLength false streaming vb = OneOfFive vb

-- "no class, or flag off: SVE for 1..7, SME2 for 8..11, SVE2p1 for 12": scatter, strided and quadword stores; document 02 (i), of 13
-- to 24, which are scatter stores: "All need the SVE flag and are illegal as classes 1 to 7 are."; (vii), of 25 to 36, which are strided:
-- "All need SME2 and are illegal as classes 8 to 11 are"
abbrev pub NoClassOrOff : Flags → Option Store → Type 0
NoClassOrOff f None = Unit {0}
NoClassOrOff f (Some (Scatter g)) = f.sve ≡ false
NoClassOrOff f (Some (Strided g)) = f.sme2 ≡ false
NoClassOrOff f (Some (Quadword g)) = f.sve2p1 ≡ false

-- "1..7 and 12: streaming on and FA64 off; 8..11: streaming off"
abbrev pub NotInThisMode : Flags → Option Store → Type 0
NotInThisMode f None = ⊥
NotInThisMode f (Some (Scatter g)) = (f.streaming ≡ true) × (f.fa64 ≡ false)
NotInThisMode f (Some (Strided g)) = f.streaming ≡ false
NotInThisMode f (Some (Quadword g)) = (f.streaming ≡ true) × (f.fa64 ≡ false)

-- "Rn 31 (not class 12)"
abbrev pub BasedOnSp : Option Store → Type 0
BasedOnSp None = ⊥
BasedOnSp (Some (Scatter g)) = g.rn ≡ 31
BasedOnSp (Some (Strided g)) = g.rn ≡ 31
BasedOnSp (Some (Quadword g)) = ⊥

pub record GivenWhen (f : Flags) (m : Machine) (W L : ℕ) (d : Option Store) (room : ℕ) : Type 0 where
  -- "VB is not one of the five"; "Verdict 1 is amended accordingly and keeps its place." (document 02 (vi))
  pub vector_length : Given 1 (table f m W L d room) ↔ (AllowedLength f.early f.streaming m.vb → ⊥)
  -- "Z or P buffer has another size"
  pub registers : Given 2 (table f m W L d room) ↔ ((length m.z ≡ 32 * m.vb) × (length m.p ≡ 2 * m.vb) → ⊥)
  -- "L > 65,536 or W + L > 2^64"
  pub window : Given 3 (table f m W L d room) ↔ ((65536 < L) ⊎ (2 ^ 64 < W + L))
  pub undefined : Given 4 (table f m W L d room) ↔ NoClassOrOff f d
  pub illegal : Given 5 (table f m W L d room) ↔ NotInThisMode f d
  -- "Rn 31 (not class 12), SP check on, SP not a multiple of 16, and an active element or the second SP flag"
  pub stack : Given 6 (table f m W L d room)
      ↔ (BasedOnSp d
      × (f.sp_check ≡ true)
      × (m.sp % 16 ≡ 0 → ⊥)
      × (((x : Element) × Listed x (elements_for m d)) ⊎ (f.sp_check_none_active ≡ true)))
  -- "some active element has a byte outside the window", that is, doesn't lie in it
  pub fault : Given 7 (table f m W L d room)
      ↔ ((x : Element) × Listed x (elements_for m d) × (in_window W L x.address (length x.bytes) ≡ false))
  -- "With it on, verdict 12 is given exactly when two different active elements share a byte" (document 02 (viii))
  pub overlap : Given 12 (table f m W L d room) ↔ ((f.strict ≡ true) × TwoShare (elements_for m d))
  -- "patch buffer shorter than the patch"
  pub no_room : Given 8 (table f m W L d room) ↔ (room < length (patch_of (elements_for m d)))

abbrev pub TableGivenWhen : Type 0
TableGivenWhen = (f : Flags) (m : Machine) (W L : ℕ) (d : Option Store) (room : ℕ) → GivenWhen f m W L d room
