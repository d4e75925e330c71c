-- What is promised of one element in numbers, from the definitions of a store's elements. Its proof is in proofs/Statements.antt.
-- Assumes nothing.
use Rattle.std.specs.Prelude.{ℕ, ◌≤◌, ◌<◌, true, false, cond, List, [], ◌∷◌, ◌⊎◌, ◌≡◌, replicate, Some, None}
use Rattle.encoding.specs.Decoding.{decode_of}
use Rattle.encoding.specs.Encoding.{class_for}
use Rattle.encoding.specs.declared.Store.{Store}
use Rattle.encoding.specs.declared.Store.TheVariants.{Strided}
use Rattle.encoding.specs.declared.StridedFields.{StridedFields}
use Rattle.elements.specs.Machine.{Machine}
use Rattle.elements.specs.Stores.{size_of, count_of}
use Rattle.elements.specs.Elements.{active_at, element_at}
use Rattle.verdicts.specs.Verdicts.{one_of_five, length_ok, registers_ok}
use Rattle.verdicts.specs.declared.Flags.{Flags}
use Rattle.inspection.specs.Inspection.{first_byte, is_strided, length_for, inspected_of, inspected_number, inspected_answers}

-- the number and the five answers on f and m, for element e of the word's store
abbrev pub Answers : Flags → Machine → ℕ → ℕ → ℕ → List ℕ → Type 0
Answers f m word e n ns = (inspected_number (inspected_of f m word e) ≡ n) × (inspected_answers (inspected_of f m word e) ≡ ns)

-- past 1, and past 2
abbrev pub Past1 : Flags → Machine → ℕ → Type 0
Past1 f m word = length_for f m.vb (decode_of word) ≡ true

abbrev pub Past2 : Flags → Machine → ℕ → Type 0
Past2 f m word = Past1 f m word × (registers_ok m ≡ true)

-- 1, 2 and 4 with zeros; else 0 with, in this order, 1 where the element is active, its first address, the index of its first byte in the
-- Z buffer, its bytes' number and how many elements the store has; of an element past the last only the last
pub record InspectsInNumbers : Type 0 where
  pub length : (f : Flags) (m : Machine) (word e : ℕ) → length_ok f.early f.streaming m.vb ≡ false
      → Answers f m word e 1 (replicate 5 0)
  -- of a strided word at every VB that is none of the five, whatever the flags
  pub strided_length : (f : Flags) (m : Machine) (word e : ℕ) (g : StridedFields) → one_of_five m.vb ≡ false
      → decode_of word ≡ Some (Strided g) → Answers f m word e 1 (replicate 5 0)
  -- and then alone
  pub length_only : (f : Flags) (m : Machine) (word e : ℕ) → inspected_number (inspected_of f m word e) ≡ 1
      → (length_ok f.early f.streaming m.vb ≡ false) ⊎ ((is_strided (decode_of word) ≡ true) × (one_of_five m.vb ≡ false))
  pub registers : (f : Flags) (m : Machine) (word e : ℕ) → Past1 f m word → registers_ok m ≡ false → Answers f m word e 2 (replicate 5 0)
  pub undefined : (f : Flags) (m : Machine) (word e : ℕ) → Past2 f m word → decode_of word ≡ None
      → Answers f m word e 4 (replicate 5 0)
  pub element : (f : Flags) (m : Machine) (word e : ℕ) (s : Store) → Past2 f m word → decode_of word ≡ Some s → e < count_of m s
      → Answers f m word e 0
      (cond (active_at m s e) 1 0 ∷ (element_at m s e).address ∷ first_byte m s e ∷ size_of (class_for s) ∷ count_of m s ∷ [])
  pub past : (f : Flags) (m : Machine) (word e : ℕ) (s : Store) → Past2 f m word → decode_of word ≡ Some s
      → count_of m s ≤ e → Answers f m word e 0 (0 ∷ 0 ∷ 0 ∷ 0 ∷ count_of m s ∷ [])
