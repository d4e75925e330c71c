-- Flags as bits of a number. Assumes nothing.
use Rattle.std.specs.Prelude.{ℕ, ◌/◌, ◌%◌, Bool, List, [], ◌∷◌, map, ◌≡◌, eqb}
use Rattle.encoding.specs.Classes.{bit}
use Rattle.verdicts.specs.declared.Flags.{Flags}

-- bits 0 to 6 are document 01's flags in its order (SVE, SME2, SVE2p1, streaming, FA64, SP check, SP check with nothing active);
-- bit 7 is document 02 (viii)'s, strict, and bit 8 the edition of document 02 (vi): "8 early edition" (xiii). Higher bits are ignored.
abbrev pub flags_of : ℕ → Flags
flags_of n =
    record {
      sve = eqb (n % 2) 1;
      sme2 = eqb (n / 2 % 2) 1;
      sve2p1 = eqb (n / 4 % 2) 1;
      streaming = eqb (n / 8 % 2) 1;
      fa64 = eqb (n / 16 % 2) 1;
      sp_check = eqb (n / 32 % 2) 1;
      sp_check_none_active = eqb (n / 64 % 2) 1;
      strict = eqb (n / 128 % 2) 1;
      early = eqb (n / 256 % 2) 1;
    }

-- a machine's flags in document 01's order, and document 02's behind them
abbrev pub flags_in_order : Flags → List Bool
flags_in_order f =
    f.sve ∷ f.sme2 ∷ f.sve2p1 ∷ f.streaming ∷ f.fa64 ∷ f.sp_check ∷ f.sp_check_none_active ∷ f.strict ∷ f.early ∷ []

-- they are the bits from 0 to 8
abbrev pub FlagsAreBits : Type 0
FlagsAreBits = (n : ℕ) → flags_in_order (flags_of n) ≡ map (λ i. eqb (bit n i) 1) (0 ∷ 1 ∷ 2 ∷ 3 ∷ 4 ∷ 5 ∷ 6 ∷ 7 ∷ 8 ∷ [])
