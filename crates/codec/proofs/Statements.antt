-- Over the numbers at the interface encoding is decoding's inverse, and 11 has its causes. Assumes nothing.
use Rattle.std.proofs.Common.{◌≡◌, ℕ, zero, suc, ◌/◌, ◌^◌, ◌<◌, ◌≤◌, Bool, true, false, cond, not, ◌||◌, T, eqb, ltb, ◌⊎◌, List, [], ◌∷◌, length, ℤ, sym, refl, ap, ◌∙◌, subst, inl, inr, true≢false, mod-lt, arith, eqb→eq, w64, SFits, ltb-false, ltb-true, lt-ltb, eq-eqb, ne_eqb, Option, Some, None}
use mathlib.Core.Bool.{false≢true}
use mir.Facts.{sfits_widen}
use mir.ValLaws.{to_z-of_z, of_z-to_z}
use Rattle.encoding.specs.Classes.{imm4, Class, class_at, read}
use Rattle.encoding.specs.Decoding.{store_as, store_of, index_of, decode_of}
use Rattle.encoding.specs.Encoding.{number_of, feature_of, class_numbered, refused, encode_of}
use Rattle.encoding.specs.Answers.{decoded_number, decoded_numbers, encoded_number, encoded_word, extension_number, store_numbers}
use Rattle.encoding.specs.Statements.{Caused}
use Rattle.encoding.specs.declared.Extension.{Extension}
use Rattle.encoding.specs.declared.Extension.TheVariants.{Uxtw, Sxtw}
use Rattle.encoding.specs.declared.Feature.{Feature}
use Rattle.encoding.specs.declared.Feature.TheVariants.{SVE, SME2, SVE2p1}
use Rattle.encoding.specs.declared.Store.{Store}
use Rattle.encoding.specs.declared.Store.TheVariants.{Scatter, Strided, Quadword}
use Rattle.encoding.proofs.Rows.{Small, small_at, row-holds}
use Rattle.encoding.proofs.Signed.{multiple-fits}
use Rattle.encoding.proofs.Statements.{decoded-index, encodes_decoded, decodes_encoded, refused-for-a-cause, known-accepted, accepted}
use Rattle.encoding.proofs.Statements.{class-numbered}
use Rattle.codec.specs.Codec.{entry, extension_given, store_given, surplus, misgiven, feature_given, encode_given, encoded_answers}
use Rattle.codec.proofs.Given.{three, not-other, neither}
use Rattle.codec.specs.Statements.{EncodesDecodedNumbers, DecodesEncodedNumbers, RefusesNumbers}

-- ---- a store's numbers give it back

extension-back : (e : Option Extension) → extension_given (extension_number e) ≡ e
extension-back None = refl
extension-back (Some Uxtw) = refl
extension-back (Some Sxtw) = refl

-- its multiple has 64 bits
abbrev Bits : Store → Type 0
Bits (Scatter f) = Unit {0}
Bits (Strided f) = SFits w64 f.multiple
Bits (Quadword f) = Unit {0}

given_back : (s : Store) → Bits s → store_given (feature_of s) (store_numbers s) ≡ s
given_back (Scatter f) b =
    ap (λ (e : Option Extension). Scatter (record { class = f.class; zm = f.zm; extension = e; pg = f.pg; rn = f.rn; zt = f.zt }))
    (extension-back f.extension)
given_back (Strided f) b =
    ap (λ (z : ℤ). Strided (record { class = f.class; rm = f.rm; multiple = z; pc = f.pc; rn = f.rn; first = f.first }))
    (to_z-of_z w64 f.multiple b)
given_back (Quadword f) b = refl

extension-small : (e : Option Extension) → ltb 2 (extension_number e) ≡ false
extension-small None = refl
extension-small (Some Uxtw) = refl
extension-small (Some Sxtw) = refl

well-given : (s : Store) → misgiven (feature_of s) (store_numbers s) ≡ false
well-given (Scatter f) = ap (λ (b : Bool). b || false) (extension-small f.extension)
well-given (Strided f) = refl
well-given (Quadword f) = refl

number-first : (s : Store) → entry (store_numbers s) 0 ≡ number_of s
number-first (Scatter f) = refl
number-first (Strided f) = refl
number-first (Quadword f) = refl

-- the class that entry 0 numbers is the store's
feature-given : (s : Store) → refused s ≡ false → feature_given (store_numbers s) ≡ feature_of s
feature-given s r =
    ap (λ (n : ℕ). (class_numbered n).feature) (number-first s)
    ∙ ap (λ (c : Class). c.feature) (class-numbered s r)
    ∙ (row-holds (number_of s) (feature_of s) (accepted s r).0).1

given-numbers : (s : Store) → refused s ≡ false → Bits s → encode_given (store_numbers s) ≡ encode_of s
unfolding encode_given
given-numbers s r b =
    let es = store_numbers s in
    ap (λ (x : Feature). cond (misgiven x es) None (encode_of (store_given x es))) (feature-given s r)
    ∙ ap (λ (t : Bool). cond t None (encode_of (store_given (feature_of s) es))) (well-given s)
    ∙ ap encode_of (given_back s b)

-- a decoded store's multiple is one of imm4's
read_small : (c : Class) (w : ℕ) → Small c → read c imm4 w < 16
read_small c w s = omega (arith, mod-lt (w / 2 ^ 16) s.imm4.0, s.imm4.1)

bits-as : (x : Feature) (c : Class) (w : ℕ) → Small c → Bits (store_as x c w)
bits-as SVE c w s = tt
bits-as SME2 c w s = sfits_widen tt (multiple-fits c.nreg (read c imm4 w) s.nreg (read_small c w s))
bits-as SVE2p1 c w s = tt

bits-decoded : (w : ℕ) (s : Store) → decode_of w ≡ Some s → Bits s
unfolding store_of
bits-decoded w s e =
    let t = decoded-index w s e in
    let c = class_at (index_of w) in
    subst Bits t.1 (bits-as c.feature c w (small_at (index_of w) t.0))

-- ---- decoding, then encoding

known-or-not : (d : Option Store) → decoded_number d ≡ 0 → (s : Store) × (d ≡ Some s)
known-or-not (Some s) e = (s, refl)
known-or-not None e = absurd (omega (arith, e))

pub encodes_decoded_numbers : EncodesDecodedNumbers
encodes_decoded_numbers w h n =
    let k = known-or-not (decode_of w) n in
    let s = k.0 in
    let e = k.1 in
    let g : encode_given (decoded_numbers (decode_of w)) ≡ Some w =
    ap (λ (d : Option Store). encode_given (decoded_numbers d)) e
    ∙ given-numbers s (known-accepted w s e) (bits-decoded w s e)
    ∙ encodes_decoded w s h e in
    (ap encoded_number g, ap encoded_answers g)

-- ---- encoding, then decoding

-- eight entries are the list
eight : (es : List ℕ) → length es ≡ 8
    → entry es 0 ∷ entry es 1 ∷ entry es 2 ∷ entry es 3 ∷ entry es 4 ∷ entry es 5 ∷ entry es 6 ∷ entry es 7 ∷ [] ≡ es
eight [] e = absurd (omega (arith, e))
eight (a ∷ []) e = absurd (omega (arith, e))
eight (a ∷ b ∷ []) e = absurd (omega (arith, e))
eight (a ∷ b ∷ c ∷ []) e = absurd (omega (arith, e))
eight (a ∷ b ∷ c ∷ d ∷ []) e = absurd (omega (arith, e))
eight (a ∷ b ∷ c ∷ d ∷ f ∷ []) e = absurd (omega (arith, e))
eight (a ∷ b ∷ c ∷ d ∷ f ∷ g ∷ []) e = absurd (omega (arith, e))
eight (a ∷ b ∷ c ∷ d ∷ f ∷ g ∷ h ∷ []) e = absurd (omega (arith, e))
eight (a ∷ b ∷ c ∷ d ∷ f ∷ g ∷ h ∷ i ∷ []) e = refl
eight (a ∷ b ∷ c ∷ d ∷ f ∷ g ∷ h ∷ i ∷ j ∷ l) e = absurd (omega (arith, e))

number-back : (n : ℕ) → n ≤ 2 → extension_number (extension_given n) ≡ n
number-back zero h = refl
number-back (suc zero) h = refl
number-back (suc (suc zero)) h = refl
number-back (suc (suc (suc n))) h = absurd (omega arith)

module _ (es : List ℕ) (l : length es ≡ 8) (b : (i : ℕ) → entry es i < 2 ^ 64) where
  zero-at : (i : ℕ) → T (eqb (entry es i) 0) → 0 ≡ entry es i
  zero-at i t = sym (eqb→eq (entry es i) 0 t)

  numbers-back : (x : Feature) → misgiven x es ≡ false → store_numbers (store_given x es) ≡ es
  numbers-back SVE m =
      let t = three (eqb (entry es 7) 0) (ltb 2 (entry es 2)) (surplus SVE es) m in
      let e2 = number-back (entry es 2) (ltb-false 2 (entry es 2) t.1) in
      let e6 = zero-at 6 (not-other (eqb (entry es 6) 0) t.2) in
      let e7 = zero-at 7 t.0 in
      (λ i. entry es 0 ∷ entry es 1 ∷ e2 i ∷ entry es 3 ∷ entry es 4 ∷ entry es 5 ∷ e6 i ∷ e7 i ∷ []) ∙ eight es l
  numbers-back SME2 m =
      let t = three (eqb (entry es 7) 0) (ltb 2 (entry es 2)) (surplus SME2 es) m in
      let e2 = zero-at 2 (not-other (eqb (entry es 2) 0) t.2) in
      let e6 = of_z-to_z w64 (entry es 6) (record { fits = b 6 }) in
      let e7 = zero-at 7 t.0 in
      (λ i. entry es 0 ∷ entry es 1 ∷ e2 i ∷ entry es 3 ∷ entry es 4 ∷ entry es 5 ∷ e6 i ∷ e7 i ∷ []) ∙ eight es l
  numbers-back SVE2p1 m =
      let t = three (eqb (entry es 7) 0) (ltb 2 (entry es 2)) (surplus SVE2p1 es) m in
      let n = neither (eqb (entry es 2) 0) (eqb (entry es 6) 0) t.2 in
      let e2 = zero-at 2 n.0 in
      let e6 = zero-at 6 n.1 in
      let e7 = zero-at 7 t.0 in
      (λ i. entry es 0 ∷ entry es 1 ∷ e2 i ∷ entry es 3 ∷ entry es 4 ∷ entry es 5 ∷ e6 i ∷ e7 i ∷ []) ∙ eight es l

-- what encoding the entries answers, by the two tests
word_of : (m : Bool) (e : Option ℕ) → encoded_number (cond m None e) ≡ 0 → (m ≡ false) × (e ≡ Some (encoded_word (cond m None e)))
word_of true e n = absurd (omega (arith, n))
word_of false (Some w) n = (refl, refl)
word_of false None n = absurd (omega (arith, n))

last_of : (a b : ℕ) → ◌≡◌ {A = List ℕ} (0 ∷ 0 ∷ 0 ∷ 0 ∷ a ∷ []) (0 ∷ 0 ∷ 0 ∷ 0 ∷ b ∷ []) → a ≡ b
last_of a b e = ap (λ (l : List ℕ). entry l 4) e

pub decodes_encoded_numbers : DecodesEncodedNumbers
unfolding encode_given
decodes_encoded_numbers es w l b n a =
    let x = feature_given es in
    let t = word_of (misgiven x es) (encode_of (store_given x es)) n in
    let q = t.1 ∙ ap Some (last_of (encoded_word (encode_given es)) w a) in
    let d = decodes_encoded (store_given x es) w q in
    (d.0, ap decoded_number d.1, ap decoded_numbers d.1 ∙ numbers-back es l b x t.0)

-- ---- 11

by-test : (m : Bool) (e : Option ℕ) → encoded_number (cond m None e) ≡ 11 → (m ≡ true) ⊎ (encoded_number e ≡ 11)
by-test true e n = inl refl
by-test false e n = inr n

test_by : (m : Bool) (e : Option ℕ) → (m ≡ true) ⊎ (encoded_number e ≡ 11) → encoded_number (cond m None e) ≡ 11
test_by true e h = refl
test_by false e (inl h) = absurd (false≢true h)
test_by false e (inr h) = h

which : (a b c : Bool) → not a || b || c ≡ true → (a ≡ false) ⊎ ((b ≡ true) ⊎ (c ≡ true))
which false b c h = inl refl
which true true c h = inr (inl refl)
which true false c h = inr (inr h)

one_holds : (a b c : Bool) → (a ≡ false) ⊎ ((b ≡ true) ⊎ (c ≡ true)) → not a || b || c ≡ true
one_holds false b c h = refl
one_holds true true c h = refl
one_holds true false c (inl h) = absurd (true≢false h)
one_holds true false c (inr (inl h)) = absurd (false≢true h)
one_holds true false c (inr (inr h)) = h

module _ (es : List ℕ) where
  abbrev x : Feature
  x = feature_given es

  abbrev Misgiven : Type 0
  Misgiven = (eqb (entry es 7) 0 ≡ false) ⊎ ((ltb 2 (entry es 2) ≡ true) ⊎ (surplus x es ≡ true))

  abbrev Refused : Type 0
  Refused = (entry es 7 ≡ 0 → ⊥) ⊎ ((2 < entry es 2) ⊎ ((surplus x es ≡ true) ⊎ Caused (store_given x es)))

  misgiven-cause : Misgiven → Refused
  misgiven-cause (inl h) = inl (λ q. true≢false (sym (eq-eqb (entry es 7) 0 q) ∙ h))
  misgiven-cause (inr (inl h)) = inr (inl (ltb-true 2 (entry es 2) h))
  misgiven-cause (inr (inr h)) = inr (inr (inl h))

  cause : (misgiven x es ≡ true) ⊎ (encoded_number (encode_of (store_given x es)) ≡ 11) → Refused
  cause (inl m) = misgiven-cause (which (eqb (entry es 7) 0) (ltb 2 (entry es 2)) (surplus x es) m)
  cause (inr n) = inr (inr (inr ((refused-for-a-cause (store_given x es)).0 n)))

  caused : Refused → (misgiven x es ≡ true) ⊎ (encoded_number (encode_of (store_given x es)) ≡ 11)
  caused (inl f) = inl (one_holds (eqb (entry es 7) 0) (ltb 2 (entry es 2)) (surplus x es) (inl (ne_eqb (entry es 7) 0 f)))
  caused (inr (inl l)) =
      inl (one_holds (eqb (entry es 7) 0) (ltb 2 (entry es 2)) (surplus x es) (inr (inl (lt-ltb 2 (entry es 2) l))))
  caused (inr (inr (inl u))) = inl (one_holds (eqb (entry es 7) 0) (ltb 2 (entry es 2)) (surplus x es) (inr (inr u)))
  caused (inr (inr (inr k))) = inr ((refused-for-a-cause (store_given x es)).1 k)

pub refuses-numbers : RefusesNumbers
unfolding encode_given
refuses-numbers es =
    let m = misgiven (feature_given es) es in
    let e = encode_of (store_given (feature_given es) es) in
    ((λ n. cause es (by-test m e n)), (λ r. test_by m e (caused es r)))
