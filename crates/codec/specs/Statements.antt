-- What is promised of the numbers that decoding and encoding exchange at the interface: "encoding is its inverse". Each has its proof in
-- proofs/Statements.antt. Assumes nothing.
use Rattle.std.specs.Prelude.{◌≡◌, ℕ, ◌^◌, ◌<◌, true, ◌⊎◌, ◌↔◌, List, [], ◌∷◌, length, ◌≢◌}
use Rattle.encoding.specs.Answers.{decoded_number, decoded_numbers, encoded_number}
use Rattle.encoding.specs.Decoding.{decode_of}
use Rattle.encoding.specs.Statements.{Caused}
use Rattle.codec.specs.Codec.{entry, store_given, surplus, feature_given, encode_given, encoded_answers}

-- the eight numbers of every 32-bit word that decodes encode to that word
abbrev pub EncodesDecodedNumbers : Type 0
EncodesDecodedNumbers =
    (w : ℕ) → w < 2 ^ 32 → decoded_number (decode_of w) ≡ 0
    → (encoded_number (encode_given (decoded_numbers (decode_of w))) ≡ 0)
    × (encoded_answers (encode_given (decoded_numbers (decode_of w))) ≡ 0 ∷ 0 ∷ 0 ∷ 0 ∷ w ∷ [])

-- and every eight 64-bit numbers that encode to a word are those that it decodes to
abbrev pub DecodesEncodedNumbers : Type 0
DecodesEncodedNumbers =
    (es : List ℕ) (w : ℕ) → length es ≡ 8 → ((i : ℕ) → entry es i < 2 ^ 64) → encoded_number (encode_given es) ≡ 0
    → encoded_answers (encode_given es) ≡ 0 ∷ 0 ∷ 0 ∷ 0 ∷ w ∷ []
    → (w < 2 ^ 32) × (decoded_number (decode_of w) ≡ 0) × (decoded_numbers (decode_of w) ≡ es)

-- 11 exactly when entry 7 isn't 0, the extension is above 2, an entry isn't 0 that a store of the class's feature has no room for, or one
-- of document 01's causes holds of the store that the numbers name
abbrev pub RefusesNumbers : Type 0
RefusesNumbers =
    (es : List ℕ)
    → (encoded_number (encode_given es) ≡ 11)
    ↔ ((entry es 7 ≢ 0)
    ⊎ ((2 < entry es 2) ⊎ ((surplus (feature_given es) es ≡ true) ⊎ Caused (store_given (feature_given es) es))))
