-- The proof of specs/Statements.antt, of exactly the type that stands there. Assumes nothing.
use Rattle.std.specs.Prelude.{Option, Some, None, Result, Ok, Err}
use mathlib.Core.Path.{◌≡◌, refl, sym, ap, ap₂, ◌∙◌}
use mathlib.Core.Bool.{Bool, true, false, not, cond, ◌&&◌, ◌||◌}
use mathlib.Core.Logic.{◌⊎◌, inl, inr}
use mathlib.Core.List.{[], ◌∷◌}
use Prim.Native.Nat.{ℕ}
use lib.Dec.{ltb}
use lib.ListN.{replicate}
use borrow.Author.Tests.{lt-ltb, le-ltb}
use Rattle.encoding.specs.Decoding.{decode_of}
use Rattle.encoding.specs.Encoding.{class_for}
use Rattle.encoding.specs.declared.Store.{Store}
use Rattle.elements.specs.Machine.{Machine}
use Rattle.elements.specs.Stores.{size_of, count_of}
use Rattle.elements.specs.Elements.{active_at, element_at}
use Rattle.endian.proofs.Order.{absurdly}
use Rattle.verdicts.specs.Verdicts.{one_of_five, length_ok, registers_ok}
use Rattle.verdicts.specs.declared.Flags.{Flags}
use Rattle.inspection.specs.Inspection.{first_byte, is_strided, length_for, inspected_at, inspected_for, inspected_of}
use Rattle.inspection.specs.Inspection.{inspected_number, bit_of, inspected_answers}
use Rattle.inspection.specs.Statements.{Answers, Past2, InspectsInNumbers}
use Rattle.inspection.specs.declared.InspectError.{InspectError}
use Rattle.inspection.specs.declared.InspectError.TheVariants.{Length, Registers}
use Rattle.inspection.specs.declared.Inspected.{Inspected}

and-false : (b : Bool) → b && false ≡ false
and-false true = refl
and-false false = refl

either : (a s o : Bool) → a && (not s || o) ≡ false → (a ≡ false) ⊎ ((s ≡ true) × (o ≡ false))
either false s o e = inl refl
either true true o e = inr (refl, e)
either true false o e = absurdly cc

module _ (f : Flags) (m : Machine) (word e : ℕ) where
  -- what is inspected, by the two tests
  tested : (a b : Bool) → length_for f m.vb (decode_of word) ≡ a → registers_ok m ≡ b
      → inspected_of f m word e ≡ cond (not a) (Err Length) (cond (not b) (Err Registers) (inspected_for m (decode_of word) e))
  unfolding inspected_of
  tested a b p q =
      ap₂ (λ (x y : Bool). cond (not x) (Err Length) (cond (not y) (Err Registers) (inspected_for m (decode_of word) e))) p q

  answered : (i : Result Inspected InspectError) → inspected_of f m word e ≡ i → Answers f m word e (inspected_number i) (inspected_answers i)
  answered i q = (ap inspected_number q, ap inspected_answers q)

  refused-length : length_for f m.vb (decode_of word) ≡ false → Answers f m word e 1 (replicate 5 0)
  refused-length a = answered (Err Length) (tested false (registers_ok m) a refl)

  -- 1's two causes
  by_length : length_ok f.early f.streaming m.vb ≡ false → length_for f m.vb (decode_of word) ≡ false
  unfolding length_for
  by_length a = ap (λ (b : Bool). b && (not (is_strided (decode_of word)) || one_of_five m.vb)) a

  by-stride : is_strided (decode_of word) ≡ true → one_of_five m.vb ≡ false → length_for f m.vb (decode_of word) ≡ false
  unfolding length_for
  by-stride s a =
      ap₂ (λ (b c : Bool). length_ok f.early f.streaming m.vb && (not b || c)) s a
      ∙ and-false (length_ok f.early f.streaming m.vb)

  causes : length_for f m.vb (decode_of word) ≡ false
      → (length_ok f.early f.streaming m.vb ≡ false) ⊎ ((is_strided (decode_of word) ≡ true) × (one_of_five m.vb ≡ false))
  unfolding length_for
  causes q = either (length_ok f.early f.streaming m.vb) (is_strided (decode_of word)) (one_of_five m.vb) q

  -- what isn't refused with 1 has another number
  not-1 : (a b : Bool) → length_for f m.vb (decode_of word) ≡ a → registers_ok m ≡ b → inspected_number (inspected_of f m word e) ≡ 1
      → length_for f m.vb (decode_of word) ≡ false
  unfolding inspected_at
  not-1 false b p q n = p
  not-1 true false p q n = absurdly (cc (sym (ap inspected_number (tested true false p q)) ∙ n))
  not-1 true true p q n = absurd (other (decode_of word) (sym (ap inspected_number (tested true true p q)) ∙ n))
    where
      other : (d : Option Store) → inspected_number (inspected_for m d e) ≡ 1 → ⊥
      other None k = absurdly cc
      other (Some s) k = absurdly cc

  module _ (s : Store) (p : Past2 f m word) (d : decode_of word ≡ Some s) where
    -- the element, by whether the store has it
    abbrev by : Bool → Inspected
    by t =
        record {
          count = count_of m s;
          element = cond t
              (Some
              (record {
                active = active_at m s e;
                address = (element_at m s e).address;
                index = first_byte m s e;
                size = size_of (class_for s);
              }))
              None;
        }

    found : (t : Bool) → ltb e (count_of m s) ≡ t
        → inspected_of f m word e ≡ Ok (by t)
    unfolding inspected_at
    found t q =
        tested true true p.0 p.1
        ∙ ap (λ (y : Option Store). inspected_for m y e) d
        ∙ ap (λ (t : Bool). Ok (by t)) q

bit_is : (b : Bool) → bit_of b ≡ cond b 1 0
bit_is true = refl
bit_is false = refl

pub inspects-in-numbers : InspectsInNumbers
inspects-in-numbers =
    record {
      length = λ f m word e a. refused-length f m word e (by_length f m word e a);
      strided_length = λ f m word e g a d. refused-length f m word e (by-stride f m word e (ap is_strided d) a);
      length_only = λ f m word e n. causes f m word e (not-1 f m word e _ _ refl refl n);
      registers = λ f m word e a b. answered f m word e _ (tested f m word e true false a b);
      undefined = λ f m word e p d.
          answered f m word e _ (tested f m word e true true p.0 p.1 ∙ ap (λ (y : Option Store). inspected_for m y e) d);
      element = λ f m word e s p d h.
          let r = answered f m word e _ (found f m word e s p d true (lt-ltb e (count_of m s) h)) in (
            r.0,
            r.1
                ∙ ap (λ (n : ℕ). n ∷ (element_at m s e).address ∷ first_byte m s e ∷ size_of (class_for s) ∷ count_of m s ∷ [])
                (bit_is (active_at m s e)),
          );
      past = λ f m word e s p d h. answered f m word e _ (found f m word e s p d false (le-ltb e (count_of m s) h));
    }
