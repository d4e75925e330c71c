-- What element e of a word's store is on a machine. Of the flags only edition and streaming are looked at, for VB, and no window is
-- judged. Assumes nothing.
use Rattle.std.specs.Prelude.{ℕ, ◌+◌, ◌*◌, Bool, true, false, not, cond, ◌&&◌, ◌||◌, List, [], ◌∷◌, ltb, replicate, Option, Some, None, Result, Ok, Err}
use Rattle.encoding.specs.Decoding.{decode_of}
use Rattle.encoding.specs.Encoding.{class_for}
use Rattle.encoding.specs.declared.Store.{Store}
use Rattle.encoding.specs.declared.Store.TheVariants.{Scatter, Strided, Quadword}
use Rattle.elements.specs.Machine.{Machine}
use Rattle.elements.specs.Stores.{size_of, count_of, register_in, index_in}
use Rattle.elements.specs.Elements.{active_at, element_at}
use Rattle.verdicts.specs.Verdicts.{one_of_five, length_ok, registers_ok}
use Rattle.verdicts.specs.declared.Flags.{Flags}
use Rattle.inspection.specs.declared.InspectError.{InspectError}
use Rattle.inspection.specs.declared.InspectError.TheVariants.{Length, Registers, Undefined}
use Rattle.inspection.specs.declared.Element.{Element}
use Rattle.inspection.specs.declared.Inspected.{Inspected}

-- the index of its first byte in the Z buffer: "register r from byte r·VB", and the element's index in its register
abbrev pub first_byte : Machine → Store → ℕ → ℕ
first_byte m s e = register_in m (class_for s) s e * m.vb + index_in m (class_for s) s e

-- element e of n by what it is, or none past the last
abbrev pub counted : ℕ → ℕ → Bool → ℕ → ℕ → ℕ → Inspected
counted e n active address index size =
    record {
      count = n;
      element = cond (ltb e n) (Some (record { active = active; address = address; index = index; size = size })) None;
    }

-- element e of a store: whether it is active, its address, the index of its first byte, its bytes' number (msize/8), and how many
-- elements the store has
unfoldable pub inspected_at : Machine → Store → ℕ → Inspected
inspected_at m s e =
    counted e (count_of m s) (active_at m s e) (element_at m s e).address (first_byte m s e) (size_of (class_for s))

-- from 4 on: "no class"
abbrev pub inspected_for : Machine → Option Store → ℕ → Result Inspected InspectError
inspected_for m None e = Err Undefined
inspected_for m (Some s) e = Ok (inspected_at m s e)

abbrev pub is_strided : Option Store → Bool
is_strided None = false
is_strided (Some (Scatter g)) = false
is_strided (Some (Strided g)) = true
is_strided (Some (Quadword g)) = false

-- 1 length, as for a store; a strided word gets it too at a VB that is none of the five, where log2(4·VB) of document 02 (iii) is no whole
-- number and no strided store is done
unfoldable pub length_for : Flags → ℕ → Option Store → Bool
length_for f vb d = length_ok f.early f.streaming vb && (not (is_strided d) || one_of_five vb)

-- 1, 2, or 4 where the word has no class, in that order; else what element e is
unfoldable pub inspected_of : Flags → Machine → ℕ → ℕ → Result Inspected InspectError
inspected_of f m word e =
    cond (not (length_for f m.vb (decode_of word))) (Err Length)
    (cond (not (registers_ok m)) (Err Registers)
    (inspected_for m (decode_of word) e))

-- ---- document 01's number, and five answers

abbrev pub inspected_number : Result Inspected InspectError → ℕ
inspected_number (Ok i) = 0
inspected_number (Err Length) = 1
inspected_number (Err Registers) = 2
inspected_number (Err Undefined) = 4

-- active is 1
abbrev pub bit_of : Bool → ℕ
bit_of true = 1
bit_of false = 0

-- for e past the last, all but the last entry are 0
abbrev pub element_answers : Option Element → ℕ → List ℕ
element_answers None n = 0 ∷ 0 ∷ 0 ∷ 0 ∷ n ∷ []
element_answers (Some x) n = bit_of x.active ∷ x.address ∷ x.index ∷ x.size ∷ n ∷ []

-- a refusal comes with zeros
abbrev pub inspected_answers : Result Inspected InspectError → List ℕ
inspected_answers (Ok i) = element_answers i.element i.count
inspected_answers (Err e) = replicate 5 0
