-- The store that eight entries give, and when there is none. Assumes nothing.
use Rattle.std.proofs.Common.{◌≡◌, ℕ, suc, ◌+◌, ◌-◌, ◌%◌, ◌^◌, ◌<◌, ◌≤◌, Bool, true, false, cond, not, ◌||◌, T, eqb, ltb, List, [], ◌∷◌, pos, negsuc, sym, refl, ap, ◌∙◌, subst, true≢false, arith, eqb→eq, ltb→lt, lt→ltb, w64, to_z, ltb-false, ltb-true, le-ltb, lt-ltb, eq-eqb, ne_eqb, Option, Some, None}
use lib.Signed.{mag}
use mir.Val.{sel}
use Rattle.encoding.specs.declared.Feature.{Feature}
use Rattle.encoding.specs.declared.Feature.TheVariants.{SVE, SME2, SVE2p1}
use Rattle.encoding.specs.Encoding.{encode_of}
use Rattle.encoding.specs.declared.Store.{Store}
use Rattle.encoding.proofs.Tests.{every, holds, fails, cond-true, cond-false, Facts, facts, told, telling}
use Rattle.encoding.proofs.Narrow.{encoded-narrow}
use Rattle.codec.specs.Codec.{entry, store_given, surplus, misgiven, feature_given, encode_given}
use Rattle.codec.specs.Narrow.{signed_byte, narrow, Narrow}

-- ---- entries that give no store

module _ (x : Feature) (es : List ℕ) where
  pub misgiven-last : (entry es 7 ≡ 0 → ⊥) → true ≡ misgiven x es
  misgiven-last f = sym (ap (λ (b : Bool). not b || ltb 2 (entry es 2) || surplus x es) (ne_eqb (entry es 7) 0 f))

  module _ (e : entry es 7 ≡ 0) where
    pub misgiven-extension : 2 < entry es 2 → true ≡ misgiven x es
    misgiven-extension l =
        sym (ap (λ (b : Bool). not b || ltb 2 (entry es 2) || surplus x es) (eq-eqb (entry es 7) 0 e)
        ∙ ap (λ (b : Bool). b || surplus x es) (lt-ltb 2 (entry es 2) l))

    pub misgiven-surplus : entry es 2 ≤ 2 → surplus x es ≡ misgiven x es
    misgiven-surplus l =
        sym (ap (λ (b : Bool). not b || ltb 2 (entry es 2) || surplus x es) (eq-eqb (entry es 7) 0 e)
        ∙ ap (λ (b : Bool). b || surplus x es) (le-ltb 2 (entry es 2) l))

-- entries that aren't misgiven
pub three : (a b c : Bool) → not a || b || c ≡ false → T a × (b ≡ false) × (c ≡ false)
three true false false e = (tt, refl, refl)
three true false true e = absurd (true≢false e)
three true true c e = absurd (true≢false e)
three false b c e = absurd (true≢false e)

pub not-other : (a : Bool) → not a ≡ false → T a
not-other true e = tt
not-other false e = absurd (true≢false e)

pub neither : (a b : Bool) → not a || not b ≡ false → T a × T b
neither true true e = (tt, tt)
neither true false e = absurd (true≢false e)
neither false b e = absurd (true≢false e)

-- ---- numbers that fit a byte

same_test : (a b c d : ℕ) → (a < b → c < d) → (c < d → a < b) → ltb a b ≡ ltb c d
same_test a b c d f g = go (ltb a b) refl
  where
    go : (t : Bool) → ltb a b ≡ t → t ≡ ltb c d
    go true e = sym (lt-ltb c d (f (ltb-true a b e)))
    go false e =
        let n : c < d → ⊥ = λ l. omega (arith, ltb-false a b e, g l) in
        sym (le-ltb c d (omega (arith, n)))

-- 64 bits that are -128..127 are below 256 once 128 is added
pub signed-byte : (n r b : ℕ) → n < 2 ^ 64 → r ≡ (n + 128) % 2 ^ 64 → b ≡ 256 → ltb r b ≡ signed_byte n
signed-byte n r b h e l = go (ltb n (2 ^ 63)) refl
  where
    go : (t : Bool) → ltb n (2 ^ 63) ≡ t → ltb r b ≡ ltb (mag (sel t (pos n) (negsuc (2 ^ 64 - suc n)))) 128
    go true p = let low = ltb-true n (2 ^ 63) p in same_test r b n 128 (λ t. omega arith) (λ t. omega arith)
    go false p =
        let high = ltb-false n (2 ^ 63) p in
        same_test r b (2 ^ 64 - suc n) 128 (λ t. omega arith) (λ t. omega arith)

-- the tests of entries 1, 3, 4, 5 and 6
abbrev byte : List ℕ → ℕ → Bool
byte es i = ltb (entry es i) 256

abbrev rest : List ℕ → List Bool
rest es = byte es 1 ∷ byte es 3 ∷ byte es 4 ∷ byte es 5 ∷ signed_byte (entry es 6) ∷ []

pub narrowed : (es : List ℕ) (b : Bool) → b ≡ narrow es → b ≡ true → Narrow es
narrowed es b e t = made (told (byte es 0) (rest es) (holds (sym e ∙ t)))
  where
    made : Facts (byte es 0 ∷ rest es) → Narrow es
    made (t0, (t1, (t3, (t4, (t5, (t6, u)))))) =
        record {
          at0 = ltb→lt (entry es 0) 256 t0;
          at1 = ltb→lt (entry es 1) 256 t1;
          at3 = ltb→lt (entry es 3) 256 t3;
          at4 = ltb→lt (entry es 4) 256 t4;
          at5 = ltb→lt (entry es 5) 256 t5;
          at6 = record { sfits = ltb→lt (mag (to_z w64 (entry es 6))) 128 t6 };
        }

-- a store with a word has such numbers: its multiple is one of imm4's, and where it has none, entry 6 is 0
module _ (es : List ℕ) where
  zero-signed : T (eqb (entry es 6) 0) → T (signed_byte (entry es 6))
  zero-signed t = subst (λ (n : ℕ). T (signed_byte n)) (sym (eqb→eq (entry es 6) 0 t)) tt

  word-narrow : (x : Feature) → misgiven x es ≡ false → (w : ℕ) → encode_of (store_given x es) ≡ Some w → T (narrow es)
  unfolding every
  word-narrow SVE m w e =
      let n = encoded-narrow (store_given SVE es) w e in
      let g = three (eqb (entry es 7) 0) (ltb 2 (entry es 2)) (surplus SVE es) m in
      let f = facts (byte es 1 ∷ byte es 3 ∷ byte es 4 ∷ byte es 5 ∷ []) n.numbers in
      let s = zero-signed (not-other (eqb (entry es 6) 0) g.2) in
      telling (byte es 0) (rest es)
      (lt→ltb (entry es 0) 256 n.class, (f.0, (f.1.0, (f.1.1.0, (f.1.1.1.0, (s, tt))))))
  word-narrow SME2 m w e =
      let n = encoded-narrow (store_given SME2 es) w e in
      let f = facts (byte es 1 ∷ byte es 3 ∷ byte es 4 ∷ []) n.numbers in
      let s = lt→ltb (mag (to_z w64 (entry es 6))) 128 n.multiple.sfits in
      telling (byte es 0) (rest es)
      (lt→ltb (entry es 0) 256 n.class, (f.0, (f.1.0, (f.1.1.0, (lt→ltb (entry es 5) 256 n.first, (s, tt))))))
  word-narrow SVE2p1 m w e =
      let n = encoded-narrow (store_given SVE2p1 es) w e in
      let g = three (eqb (entry es 7) 0) (ltb 2 (entry es 2)) (surplus SVE2p1 es) m in
      let f = facts (byte es 1 ∷ byte es 3 ∷ byte es 4 ∷ byte es 5 ∷ []) n.numbers in
      let s = zero-signed (neither (eqb (entry es 2) 0) (eqb (entry es 6) 0) g.2).1 in
      telling (byte es 0) (rest es)
      (lt→ltb (entry es 0) 256 n.class, (f.0, (f.1.0, (f.1.1.0, (f.1.1.1.0, (s, tt))))))

-- ---- what encoding the entries answers

refused-too : (b : Bool) (e : Option ℕ) → (T b → ⊥) → (c : Bool) → (c ≡ false → (w : ℕ) → e ≡ Some w → T b) → None ≡ cond c None e
refused-too b e f true g = refl
refused-too b (Some w) f false g = absurd (f (g refl w refl))
refused-too b None f false g = refl

module _ (es : List ℕ) where
  pub given-wide : (b : Bool) → b ≡ narrow es → b ≡ false → None ≡ encode_given es
  unfolding encode_given
  given-wide b e t =
      let x = feature_given es in
      refused-too (narrow es) (encode_of (store_given x es)) (fails (sym e ∙ t)) (misgiven x es) (word-narrow es x)

  module _ (x : Feature) (e : x ≡ feature_given es) (b : Bool) (f : b ≡ misgiven x es) where
    is : b ≡ misgiven (feature_given es) es
    is = f ∙ ap (λ (y : Feature). misgiven y es) e

    pub given-misgiven : b ≡ true → None ≡ encode_given es
    unfolding encode_given
    given-misgiven t =
        sym (cond-true (misgiven (feature_given es) es) None (encode_of (store_given (feature_given es) es)) (holds (sym is ∙ t)))

    pub given-store : b ≡ false → (y : Feature) → x ≡ y → (s : Store) → s ≡ store_given y es → (r : Option ℕ) → r ≡ encode_of s
        → r ≡ encode_given es
    unfolding encode_given
    given-store t y g s p r q =
        q
        ∙ ap encode_of (p ∙ ap (λ (z : Feature). store_given z es) (sym g ∙ e))
        ∙ sym (cond-false (misgiven (feature_given es) es) None (encode_of (store_given (feature_given es) es)) (fails (sym is ∙ t)))
