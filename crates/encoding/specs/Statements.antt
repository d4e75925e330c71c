-- What is promised of decoding and encoding, beside the contracts of `decode` and `encode`. Each has its proof in
-- proofs/Statements.antt. Assumes nothing.
use Rattle.std.specs.Prelude.{ℕ, ◌+◌, ◌-◌, ◌*◌, ◌/◌, ◌%◌, ◌^◌, ◌≤◌, ◌<◌, true, false, cond, ◌||◌, List, [], ◌∷◌, ◌↔◌, ◌⊎◌, ◌≡◌, ltb, length, take, drop, Some}
use Rattle.std.specs.Int.Bits.{bit_and}
use Rattle.encoding.specs.Classes.{Zm, Rm, imm4, xs, T, Zt3, Class, class, classes, class_at, bit, belongs, mask_of, has}
use Rattle.encoding.specs.Decoding.{store_of, decode_of}
use Rattle.encoding.specs.Answers.{decoded_number, decoded_numbers, encoded_number}
use Rattle.encoding.specs.Encoding.{class_for, not_listed, out_of_range, lacked, unnamed, misextended, encode_of}
use Rattle.encoding.specs.declared.Feature.TheVariants.{SVE, SME2}
use Rattle.encoding.specs.declared.Store.{Store}

-- decoding answers a store of a class exactly when the word belongs to that class
abbrev pub DecodesItsClass : Type 0
DecodesItsClass =
    (k w : ℕ) → k < length classes → (decode_of w ≡ Some (store_of (class_at k) w)) ↔ (belongs (class_at k) w ≡ true)

-- and 4 exactly when it belongs to none
abbrev pub UndefinedOutside : Type 0
UndefinedOutside = (w : ℕ) → (decoded_number (decode_of w) ≡ 4) ↔ ((k : ℕ) → k < length classes → belongs (class_at k) w ≡ false)

-- no word belongs to two classes
abbrev pub OneClass : Type 0
OneClass =
    (w j k : ℕ) → j < length classes → k < length classes → belongs (class_at j) w ≡ true → belongs (class_at k) w ≡ true → j ≡ k

-- a class of another width: bits 24..23 are w, bits 22..21 the form, and its elements in memory have 8·2^w bits; odd forms are scaled,
-- by w
abbrev pub at_width : Class → ℕ → ℕ → ℕ → Class
at_width c n w form =
    class n (c.base / 2 ^ 25 * 2 ^ 25 + w * 2 ^ 23 + form * 2 ^ 21 + c.base % 2 ^ 21) c.fields c.esize (8 * 2 ^ w)
    (form % 2 * w) 1 SVE

-- document 02 (i): "They are the pattern of classes 1 to 7 with bits 24..23 as 01 or 10 and bits 22..21 as 00 (.D unscaled), 01 (.D
-- scaled), 10 (.S unscaled), 11 (.S scaled); the scale is 1 or 2." ST1H is w 1, from row 12 on, and ST1W w 2, from row 18 on. The
-- pattern of the .S forms is class 6.
abbrev pub ScatterWidths : Type 0
ScatterWidths =
    (w : ℕ) → 1 ≤ w → w ≤ 2
    → take 6 (drop (6 + 6 * w) classes)
    ≡ at_width (class_at 0) (7 + 6 * w) w 1
    ∷ at_width (class_at 1) (8 + 6 * w) w 0
    ∷ at_width (class_at 2) (9 + 6 * w) w 1
    ∷ at_width (class_at 3) (10 + 6 * w) w 0
    ∷ at_width (class_at 5) (11 + 6 * w) w 3
    ∷ at_width (class_at 5) (12 + 6 * w) w 2
    ∷ []

-- a strided class of another width: bits 14..13 are w, its elements have 8·2^w bits in their register and in memory, and a scalar index
-- is scaled by w
abbrev pub strided_at_width : Class → ℕ → ℕ → Class
strided_at_width c n w =
    class n (c.base / 2 ^ 15 * 2 ^ 15 + w * 2 ^ 13 + c.base % 2 ^ 13) c.fields (8 * 2 ^ w) (8 * 2 ^ w) (cond (has c Rm) w 0) c.nreg
    SME2

-- document 02 (vii): "Add the strided ST1B, ST1H and ST1W as classes 25 to 28, 29 to 32 and 33 to 36, each with the forms of 8 to 11 in
-- that order, with bits 14..13 as 00, 01, 10." ST1B is w 0, from row 24 on.
abbrev pub StridedWidths : Type 0
StridedWidths =
    (w : ℕ) → w ≤ 2
    → take 4 (drop (24 + 4 * w) classes)
    ≡ strided_at_width (class_at 7) (25 + 4 * w) w
    ∷ strided_at_width (class_at 8) (26 + 4 * w) w
    ∷ strided_at_width (class_at 9) (27 + 4 * w) w
    ∷ strided_at_width (class_at 10) (28 + 4 * w) w
    ∷ []

-- the test by mask is the paper's membership, for every 32-bit word
abbrev pub MaskIsMembership : Type 0
MaskIsMembership =
    (k w : ℕ) → k < length classes → w < 2 ^ 32
    → (bit_and w (mask_of (class_at k)) ≡ (class_at k).base) ↔ (belongs (class_at k) w ≡ true)

-- one of document 01's causes of 11 holds
abbrev pub Caused : Store → Type 0
Caused s =
    (not_listed s ≡ true)
    ⊎ ((out_of_range (class_for s) s ≡ true)
    ⊎ ((lacked (class_for s) s ≡ true) ⊎ ((unnamed (class_for s) s ≡ true) ⊎ (misextended (class_for s) s ≡ true))))

-- encoding answers 11 exactly then
abbrev pub RefusedForACause : Type 0
RefusedForACause = (s : Store) → (encoded_number (encode_of s) ≡ 11) ↔ Caused s

-- encoding is decoding's inverse: what a word decodes to encodes to that word
abbrev pub EncodesDecoded : Type 0
EncodesDecoded = (w : ℕ) (s : Store) → w < 2 ^ 32 → decode_of w ≡ Some s → encode_of s ≡ Some w

-- and what a store encodes to is a 32-bit word that decodes to that store
abbrev pub DecodesEncoded : Type 0
DecodesEncoded = (s : Store) (w : ℕ) → encode_of s ≡ Some w → (w < 2 ^ 32) × (decode_of w ≡ Some s)

-- ---- the eight numbers of a decoded store, from the word's bits alone

-- imm4 "read as −8..7, times 2 or 4", in two's complement of 64 bits
abbrev pub multiple_bits : ℕ → ℕ → ℕ
multiple_bits nreg v = cond (ltb v 8) (v * nreg) (2 ^ 64 - (16 - v) * nreg)

-- class; bits 20..16 as Zm or Rm; the extension's code: 0 where the class has none, 1 UXTW for xs 0, 2 SXTW for xs 1; bits 12..10 as Pg
-- or Pc; bits 9..5 as Rn or Zn; bits 4..0 as Zt, or the first register, "T·16 + Zt"; the multiple; zero
abbrev pub word_numbers : Class → ℕ → List ℕ
word_numbers c w =
    c.number
    ∷ cond (has c Zm || has c Rm) (w / 2 ^ 16 % 2 ^ 5) 0
    ∷ cond (has c xs) (1 + bit w 14) 0
    ∷ w / 2 ^ 10 % 2 ^ 3
    ∷ w / 2 ^ 5 % 2 ^ 5
    ∷ cond (has c T) (bit w 4 * 16 + w % cond (has c Zt3) (2 ^ 3) (2 ^ 2)) (w % 2 ^ 5)
    ∷ cond (has c imm4) (multiple_bits c.nreg (w / 2 ^ 16 % 2 ^ 4)) 0
    ∷ 0
    ∷ []

-- what a word of a class decodes to are these numbers
abbrev pub NumbersFromBits : Type 0
NumbersFromBits =
    (k w : ℕ) → k < length classes → belongs (class_at k) w ≡ true
    → (decoded_number (decode_of w) ≡ 0) × (decoded_numbers (decode_of w) ≡ word_numbers (class_at k) w)
