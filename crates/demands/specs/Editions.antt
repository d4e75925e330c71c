-- Document 02 (vi): "Add an edition to the machine: under the early edition VB may be any multiple of 16 from 16 to 256, under the late
-- one the five of document 01. With streaming on, the five hold under both. Verdict 1 is amended accordingly and keeps its place. Demand 3
-- spans two stores of different editions." The edition is a field of the flags, over which each field of demand 3 ranges. Assumes nothing.
use Rattle.std.specs.Prelude.{ℕ, ◌*◌, ◌≤◌, true, false, List, ◌↔◌, ◌≡◌, Some}
use Rattle.encoding.specs.Decoding.{decode_of}
use Rattle.encoding.specs.Encoding.{class_for}
use Rattle.encoding.specs.declared.Store.{Store}
use Rattle.encoding.specs.declared.Store.TheVariants.{Strided}
use Rattle.encoding.specs.declared.StridedFields.{StridedFields}
use Rattle.elements.specs.Machine.{Machine}
use Rattle.elements.specs.Stores.{step_of, per_register}
use Rattle.verdicts.specs.Verdicts.{number, Verdict}
use Rattle.verdicts.specs.Statements.{OneOfFive, AnyMultiple}
use Rattle.verdicts.specs.declared.Flags.{Flags}
use Rattle.outcomes.specs.Storing.{Stored}

-- a call of the merged call, and what it answers
pub record Answered (f : Flags) (m : Machine) (word : ℕ) (v : Verdict) : Type 0 where
  pub base : ℕ
  pub memory : List ℕ
  pub buffer : List ℕ
  pub memory' : List ℕ
  pub buffer' : List ℕ
  pub call : Stored f m base memory word buffer v memory' buffer'

pub record BothRules : Type 0 where
  -- "under the early edition VB may be any multiple of 16 from 16 to 256": where it isn't, and only there, 1 is answered, whatever else
  -- is due
  pub early : (f : Flags) (m : Machine) (word : ℕ) (v : Verdict) → Answered f m word v → f.early ≡ true → f.streaming ≡ false
      → (number v ≡ 1) ↔ (AnyMultiple m.vb → ⊥)
  -- "under the late one the five of document 01"
  pub late : (f : Flags) (m : Machine) (word : ℕ) (v : Verdict) → Answered f m word v → f.early ≡ false
      → (number v ≡ 1) ↔ (OneOfFive m.vb → ⊥)
  -- "With streaming on, the five hold under both."
  pub streaming : (f : Flags) (m : Machine) (word : ℕ) (v : Verdict) → Answered f m word v → f.streaming ≡ true
      → (number v ≡ 1) ↔ (OneOfFive m.vb → ⊥)
  -- no class and no other flag counts: two calls on one VB, edition and mode are refused with 1 alike
  pub nothing_else : (f f₁ : Flags) (m m₁ : Machine) (word word₁ : ℕ) (v v₁ : Verdict) → Answered f m word v → Answered f₁ m₁ word₁ v₁
      → f.early ≡ f₁.early → f.streaming ≡ f₁.streaming → m.vb ≡ m₁.vb → number v ≡ 1 → number v₁ ≡ 1
  -- "any multiple" has the five among them
  pub five_too : (vb : ℕ) → OneOfFive vb → AnyMultiple vb
  -- at a VB that is none of the five every strided word is refused with one of 1 to 5, which look at no counter: so nothing depends on how
  -- log2(4·VB) of document 02 (iii) is rounded there
  pub strided_refused : (f : Flags) (m : Machine) (word : ℕ) (v : Verdict) (g : StridedFields) → Answered f m word v
      → decode_of word ≡ Some (Strided g) → (OneOfFive m.vb → ⊥) → (1 ≤ number v) × (number v ≤ 5)
  -- "Elements are VB·8/esize in number" (document 01): at each multiple they fill their register
  pub fill : (m : Machine) (word : ℕ) (s : Store) → decode_of word ≡ Some s → AnyMultiple m.vb
      → per_register m (class_for s) * step_of (class_for s) ≡ m.vb
