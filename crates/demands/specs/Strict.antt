-- Document 02 (viii): "For certified kernels a scatter with two active elements on a common byte is a design error. Add a strict flag."
-- When 12 is given and what it names say `OverlapGiven` and `OverlapNamesTheLowest` of demand 2, where it stands `TableInOrder`.
-- Assumes nothing.
use Rattle.std.specs.Prelude.{ℕ, ◌<◌, true, false, List, [], ◌∷◌, map, ◌≡◌, length, Some}
use Rattle.encoding.specs.Decoding.{decode_of}
use Rattle.encoding.specs.declared.Store.{Store}
use Rattle.encoding.specs.declared.Store.TheVariants.{Strided}
use Rattle.encoding.specs.declared.StridedFields.{StridedFields}
use Rattle.elements.specs.Machine.{Machine}
use Rattle.elements.specs.Stores.{count_of}
use Rattle.elements.specs.Elements.{active_at}
use Rattle.verdicts.specs.Verdicts.{elements_for, size_for, patch_of, Row, decided, done_of, number, Verdict, done}
use Rattle.verdicts.specs.Statements.{without}
use Rattle.verdicts.specs.declared.Flags.{Flags}
use Rattle.outcomes.specs.Storing.{memory_after, buffer_after, Stored}
use Rattle.demands.specs.Demand2.{table_for, ShareAByte}
use Rattle.demands.specs.Demand3.{NoneDue, effect_for}

-- the same flags with strict off
abbrev pub lenient : Flags → Flags
lenient f =
    record {
      sve = f.sve;
      sme2 = f.sme2;
      sve2p1 = f.sve2p1;
      streaming = f.streaming;
      fa64 = f.fa64;
      sp_check = f.sp_check;
      sp_check_none_active = f.sp_check_none_active;
      strict = false;
      early = f.early;
    }

pub record StrictStores : Type 0 where
  -- a store that is done with the flag on writes each byte once
  pub each_once : (f : Flags) (m : Machine) (W L word : ℕ) (s : Store) → NoneDue f m W L word → f.strict ≡ true
      → decode_of word ≡ Some s → (d e : ℕ) → d < e → e < count_of m s → active_at m s d ≡ true → active_at m s e ≡ true
      → ShareAByte m s d e → ⊥
  -- so that the bytes moved are as many as its patch's payload bytes: "The payload bytes are as many as the addresses." (document 01)
  pub payload : (f : Flags) (m : Machine) (W : ℕ) (mem : List ℕ) (word : ℕ) (buffer : List ℕ) (n b k t : ℕ) (mem' buffer' : List ℕ)
      → Stored f m W mem word buffer (done n b k t) mem' buffer' → f.strict ≡ true → b ≡ length (effect_for m word)
  -- a strided store is never refused with 12
  pub strided_never : (f : Flags) (m : Machine) (W : ℕ) (mem : List ℕ) (word : ℕ) (buffer : List ℕ) (v : Verdict) (mem' buffer' : List ℕ)
      (g : StridedFields) → Stored f m W mem word buffer v mem' buffer' → decode_of word ≡ Some (Strided g) → number v ≡ 12 → ⊥
  -- "With the flag off nothing changes.": answer, memory and patch are those of the same table with this line taken out
  pub off : (f : Flags) (m : Machine) (W : ℕ) (mem : List ℕ) (word : ℕ) (buffer : List ℕ) (v : Verdict) (mem' buffer' : List ℕ)
      → Stored f m W mem word buffer v mem' buffer' → f.strict ≡ false
      → (v
      ≡ decided (without 12 (table_for f m W mem word buffer)) (done_of (elements_for m (decode_of word)) (size_for (decode_of word))))
      × (mem' ≡ memory_after v W mem (elements_for m (decode_of word)))
      × (buffer' ≡ buffer_after v (patch_of (elements_for m (decode_of word))) buffer)
  pub off_lines : (f : Flags) (m : Machine) (W : ℕ) (mem : List ℕ) (word : ℕ) (buffer : List ℕ)
      → map (λ (r : Row). r.number) (without 12 (table_for f m W mem word buffer)) ≡ 1 ∷ 2 ∷ 3 ∷ 4 ∷ 5 ∷ 6 ∷ 7 ∷ 8 ∷ []
  -- and with it on 12 is all that can be another answer
  pub otherwise : (f : Flags) (m : Machine) (W : ℕ) (mem : List ℕ) (word : ℕ) (buffer : List ℕ) (v : Verdict) (mem' buffer' : List ℕ)
      → Stored f m W mem word buffer v mem' buffer' → (number v ≡ 12 → ⊥) → Stored (lenient f) m W mem word buffer v mem' buffer'
