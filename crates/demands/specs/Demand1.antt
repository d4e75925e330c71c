-- Demand 1 as one statement, over the predicates of the contracts of `store` (`Stored`) and `apply` (`AppliedTo`). Its proof is `demand1`
-- in proofs/Demand1.antt. Assumes nothing.
use Rattle.std.specs.Prelude.{ℕ, ◌≤◌, List, ◌⊎◌, ◌≡◌}
use Rattle.elements.specs.Machine.{Machine}
use Rattle.verdicts.specs.Verdicts.{number, Verdict}
use Rattle.verdicts.specs.declared.Flags.{Flags}
use Rattle.outcomes.specs.Storing.{Stored}
use Rattle.patch.specs.Answers.{applied_number}
use Rattle.patch.specs.Applying.{Applied, AppliedTo}

-- an answer and a buffer's content at exit meet the predicate, and no others do
pub record ExactlyOne {A : Type 0} (P : A → List ℕ → Type 0) : Type 0 where
  pub answer : A
  pub content : List ℕ
  pub meets : P answer content
  pub only : (a : A) (l : List ℕ) → P a l → (a ≡ answer) × (l ≡ content)

-- an answer, a memory and a buffer at exit meet the predicate, and no others do
pub record OneOutcome {A : Type 0} (P : A → List ℕ → List ℕ → Type 0) : Type 0 where
  pub answer : A
  pub memory : List ℕ
  pub buffer : List ℕ
  pub meets : P answer memory buffer
  pub only : (a : A) (l k : List ℕ) → P a l k → (a ≡ answer) × (l ≡ memory) × (k ≡ buffer)

-- the numbers of the verdicts on a store: document 01's, done among them, and document 02 (viii)'s
abbrev pub OfStoring : ℕ → Type 0
OfStoring n = (n ≤ 8) ⊎ (n ≡ 12)

-- the numbers of document 01's verdicts on applying
abbrev pub OfApplying : ℕ → Type 0
OfApplying n = (n ≡ 0) ⊎ ((n ≡ 3) ⊎ ((n ≡ 9) ⊎ (n ≡ 10)))

pub record Demand1 : Type 0 where
  -- "Any instruction word, register contents and memory window get exactly one verdict"; "Nothing is asked of the caller
  -- beforehand.": for every input there is one, with one content of each lent buffer at exit
  pub store_one : (f : Flags) (m : Machine) (W : ℕ) (mem : List ℕ) (word : ℕ) (buffer : List ℕ) → OneOutcome (Stored f m W mem word buffer)
  pub apply_one : (W : ℕ) (mem s : List ℕ) → ExactlyOne (AppliedTo W mem s)
  -- "done, or one of the numbered refusals of document 01, among them undefined, illegal, fault and no room"; document 02 (ix): "one
  -- call checks 1 to 7, 12 and 8"; "Applying checks 3, 9, 10."; "Done is number 0". The answers have no other kinds.
  pub store_numbered : (f : Flags) (m : Machine) (W : ℕ) (mem : List ℕ) (word : ℕ) (buffer : List ℕ) (v : Verdict) (mem' buffer' : List ℕ)
      → Stored f m W mem word buffer v mem' buffer' → OfStoring (number v)
  pub apply_numbered : (W : ℕ) (mem s : List ℕ) (r : Applied) (mem' : List ℕ) → AppliedTo W mem s r mem' → OfApplying (applied_number r)
  -- "Every verdict but done leaves memory and patch buffer byte for byte as they came."
  pub store_keeps : (f : Flags) (m : Machine) (W : ℕ) (mem : List ℕ) (word : ℕ) (buffer : List ℕ) (v : Verdict) (mem' buffer' : List ℕ)
      → Stored f m W mem word buffer v mem' buffer' → (number v ≡ 0 → ⊥) → (mem' ≡ mem) × (buffer' ≡ buffer)
  pub apply_keeps : (W : ℕ) (mem s : List ℕ) (r : Applied) (mem' : List ℕ)
      → AppliedTo W mem s r mem' → (applied_number r ≡ 0 → ⊥) → mem' ≡ mem
