-- The proofs of specs/Statements.antt, each of exactly the type that stands there. Assumes nothing.
use Rattle.std.specs.Prelude.{Option, Some, None}
use mathlib.Core.Path.{◌≡◌, refl, sym, ap, ◌∙◌, subst}
use mathlib.Core.Bool.{Bool, true, false, not, cond, ◌||◌}
use mathlib.Core.Logic.{◌⊎◌, inl, inr}
use Prim.Native.Nat.{ℕ, zero, suc, ◌+◌, ◌^◌, ◌<◌}
use native.Mathlib.Omega.{arith}
use lib.Dec.{T, ltb, ltb→lt, lt→ltb}
use lib.ListN.{length}
use borrow.Author.Tests.{leb-false, not-false}
use Rattle.encoding.specs.Classes.{Class, classes, class_at, any, belongs, mask_of, has}
use Rattle.encoding.specs.declared.Feature.{Feature}
use Rattle.encoding.specs.Decoding.{store_as, store_of, index_of, decode_of}
use Rattle.encoding.specs.Encoding.{number_of, feature_of, row_numbered, class_numbered, row_for, class_for, not_listed, out_of_range}
use Rattle.encoding.specs.Encoding.{lacked, unnamed, misextended, refused, placed, values_in, encode_of}
use Rattle.encoding.specs.Answers.{decoded_number, encoded_number}
use Rattle.encoding.specs.Statements.{DecodesItsClass, UndefinedOutside, OneClass, MaskIsMembership, RefusedForACause}
use Rattle.encoding.specs.Statements.{EncodesDecoded, DecodesEncoded, ScatterWidths, StridedWidths}
use Rattle.encoding.specs.declared.Store.{Store}
use Rattle.encoding.proofs.Tests.{absurdly, yes, no, holds, fails}
use Rattle.encoding.proofs.Places.{Row, reads, sum_at, joined, made-small, made-masked, made_reads}
use Rattle.encoding.proofs.Rows.{places_as, row_at, masked, unmasked, number_at, row-found, row-holds, row-numbered, small_at}
use Rattle.encoding.proofs.Rows.{striding, one_class, index-found, index-none, index-holds}
use Rattle.encoding.proofs.Reading.{undefined, defined}
use Rattle.encoding.proofs.Causes.{fits, refused-is, encode-yes}
use Rattle.encoding.proofs.Inverse.{from_as, numbers, store-reads, store-number, store-feature, placed-sum, values-fit}
use Rattle.encoding.proofs.Inverse.{from-values, store-values, store-fits}

-- ---- decoding

-- what decoding answers, by its test
known : (b : Bool) (x s : Store) → cond b (Some x) None ≡ Some s → T b × (x ≡ s)
known true x s e = (tt, cc)
known false x s e = absurdly cc

unknown : (b : Bool) (x : Store) → cond b (Some x) None ≡ None → T b → ⊥
unknown true x e t = absurdly cc
unknown false x e t = t

-- the class that a decoded store is of
pub decoded-index : (w : ℕ) (s : Store) → decode_of w ≡ Some s → (index_of w < length classes) × (store_of (class_at (index_of w)) w ≡ s)
unfolding decode_of
decoded-index w s e =
    let t = known (ltb (index_of w) (length classes)) (store_of (class_at (index_of w)) w) s e in
    (ltb→lt (index_of w) (length classes) t.0, t.1)

store-class : (c : Class) (w : ℕ) → number_of (store_of c w) ≡ c.number
unfolding store_of
store-class c w = store-number c.feature c w

pub decodes-its-class : DecodesItsClass
decodes-its-class k w h = (
  (λ e.
      let t = decoded-index w (store_of (class_at k) w) e in
      let n : suc (index_of w) ≡ suc k =
      sym (number_at (index_of w) t.0)
      ∙ sym (store-class (class_at (index_of w)) w)
      ∙ ap number_of t.1
      ∙ store-class (class_at k) w
      ∙ number_at k h in
      let j : index_of w ≡ k = omega arith in
      yes (belongs (class_at k) w) (subst (λ (i : ℕ). T (belongs (class_at i) w)) j (index-holds w t.0))),
  (λ b. sym (defined w k (sym (index-found k w h (holds b))) h (store_of (class_at k) w) refl)),
)

is-undefined : (d : Option Store) → decoded_number d ≡ 4 → d ≡ None
is-undefined (Some s) e = absurd (omega (arith, e))
is-undefined None e = refl

pub undefined-outside : UndefinedOutside
unfolding decode_of
undefined-outside w = (
  (λ n k h.
      let e = is-undefined (decode_of w) n in
      no (belongs (class_at k) w)
      (λ t.
      let i = index-found k w h t in
      unknown (ltb (index_of w) (length classes)) (store_of (class_at (index_of w)) w) e (lt→ltb (index_of w) (length classes) (omega arith)))),
  (λ f. ap decoded_number (sym (undefined w (length classes) (sym (index-none w (λ k h t. fails (f k h) t))) (omega arith)))),
)

pub one-class-only : OneClass
one-class-only w j k hj hk s t = one_class w j k hj hk (holds s) (holds t)

pub scatter_widths : ScatterWidths
unfolding classes class_at
scatter_widths zero l h = absurd (omega (arith, l))
scatter_widths (suc zero) l h = refl
scatter_widths (suc (suc zero)) l h = refl
scatter_widths (suc (suc (suc w))) l h = absurd (omega (arith, h))

pub strided_widths : StridedWidths
unfolding classes class_at any has
strided_widths zero h = refl
strided_widths (suc zero) h = refl
strided_widths (suc (suc zero)) h = refl
strided_widths (suc (suc (suc w))) h = absurd (omega (arith, h))

pub mask-is-membership : MaskIsMembership
mask-is-membership k w h l = ((λ e. yes (belongs (class_at k) w) (masked k h w e)), (λ b. unmasked k h w l (holds b)))

-- ---- encoding

-- what encoding answers, by its test
word-told : (b : Bool) (x w : ℕ) → cond b None (Some x) ≡ Some w → (b ≡ false) × (x ≡ w)
word-told true x w e = absurdly cc
word-told false x w e = (refl, cc)

fields_told : (b : Bool) (x : ℕ) → cond b None (Some x) ≡ None → b ≡ true
fields_told true x e = refl
fields_told false x e = absurdly cc

pub one_of : (a b c d e : Bool) → a || b || c || d || e ≡ true → (a ≡ true) ⊎ ((b ≡ true) ⊎ ((c ≡ true) ⊎ ((d ≡ true) ⊎ (e ≡ true))))
one_of true b c d e h = inl refl
one_of false true c d e h = inr (inl refl)
one_of false false true d e h = inr (inr (inl refl))
one_of false false false true e h = inr (inr (inr (inl refl)))
one_of false false false false e h = inr (inr (inr (inr h)))

of_one : (a b c d e : Bool) → (a ≡ true) ⊎ ((b ≡ true) ⊎ ((c ≡ true) ⊎ ((d ≡ true) ⊎ (e ≡ true)))) → a || b || c || d || e ≡ true
of_one true b c d e h = refl
of_one false true c d e h = refl
of_one false false true d e h = refl
of_one false false false true e h = refl
of_one false false false false true h = refl
of_one false false false false false (inl h) = h
of_one false false false false false (inr (inl h)) = h
of_one false false false false false (inr (inr (inl h))) = h
of_one false false false false false (inr (inr (inr (inl h)))) = h
of_one false false false false false (inr (inr (inr (inr h)))) = h

is-fields : (d : Option ℕ) → encoded_number d ≡ 11 → d ≡ None
is-fields (Some w) e = absurd (omega (arith, e))
is-fields None e = refl

pub refused-for-a-cause : RefusedForACause
unfolding encode_of refused
refused-for-a-cause s =
    let c = class_for s in (
      (λ e.
          one_of (not_listed s) (out_of_range c s) (lacked c s) (unnamed c s) (misextended c s)
          (fields_told (refused s) _ (is-fields (encode_of s) e))),
      (λ h.
          ap (λ (b : Bool). encoded_number (cond b None (Some (c.base + placed (values_in c s)))))
          (of_one (not_listed s) (out_of_range c s) (lacked c s) (unnamed c s) (misextended c s) h)),
    )

-- ---- the two are inverse

-- a word's class is that of its store
word_row : (w : ℕ) → index_of w < length classes → index_of w ≡ row_for (store_of (class_at (index_of w)) w)
unfolding store_of
word_row w l =
    let k = index_of w in
    let c = class_at k in
    let x = c.feature in
    let u = store_as x c w in
    sym (row-found (number_of u) (feature_of u) k l (sym (number_at k l) ∙ sym (store-number x c w)) (sym (store-feature x c w)))

pub encodes_decoded : EncodesDecoded
unfolding store_of
encodes_decoded w s h e =
    let k = index_of w in
    let c = class_at k in
    let x = c.feature in
    let t = decoded-index w s e in
    let l = t.0 in
    let u = store_as x c w in
    let r : k ≡ row_for u = word_row w l in
    let m : c.base + sum_at (places_as x c) (reads (places_as x c) w) ≡ w =
    joined c.fields (places_as x c) (mask_of c) c.base (row_at k l) w h (unmasked k l w h (index-holds w l)) in
    let v : w ≡ c.base + placed (values_in c u) =
    sym m
    ∙ ap (λ (y : Feature). c.base + sum_at (places_as y c) (reads (places_as x c) w)) (sym (store-feature x c w))
    ∙ sym (ap (λ (n : _). c.base + sum_at (places_as (feature_of u) c) n) (store-values c (small_at k l) w x (λ q. striding k l q)))
    ∙ ap (λ (n : ℕ). c.base + n) (sym (placed-sum c u)) in
    ap encode_of (sym t.1)
    ∙ sym (encode-yes u k r l true w (sym (yes (fits c u) (store-fits c (small_at k l) w x (λ q. striding k l q)))) refl v)

-- ---- stores that encode

first-false : (a b c d f : Bool) → a || b || c || d || f ≡ false → a ≡ false
first-false true b c d f h = h
first-false false b c d f h = refl

-- a store that isn't refused is of a class in the list, and fits it
pub accepted : (s : Store) → refused s ≡ false → (row_for s < length classes) × T (fits (class_for s) s)
unfolding refused
accepted s e =
    let l : row_for s < length classes = leb-false (length classes) (row_for s) (first-false (not_listed s) _ _ _ _ e) in
    (l, holds (not-false (fits (class_for s) s) (sym (refused-is s (row_for s) refl l) ∙ e)))

-- its class is the one with its number
module _ (s : Store) (e : refused s ≡ false) where
  same_row : row_numbered (number_of s) ≡ row_for s
  same_row = row-numbered (number_of s) (feature_of s) (accepted s e).0

  pub listed : row_numbered (number_of s) < length classes
  listed = subst (λ (k : ℕ). k < length classes) (sym same_row) (accepted s e).0

  pub class-numbered : class_numbered (number_of s) ≡ class_for s
  class-numbered = ap class_at same_row

pub encoded-fits : (s : Store) (w : ℕ) → encode_of s ≡ Some w
    → (row_for s < length classes) × T (fits (class_for s) s) × ((class_for s).base + placed (values_in (class_for s) s) ≡ w)
unfolding encode_of
encoded-fits s w e =
    let t = word-told (refused s) ((class_for s).base + placed (values_in (class_for s) s)) w e in
    let a = accepted s t.0 in
    (a.0, a.1, t.1)

-- a decoded store isn't refused
pub known-accepted : (w : ℕ) (s : Store) → decode_of w ≡ Some s → refused s ≡ false
unfolding store_of
known-accepted w s e =
    let k = index_of w in
    let c = class_at k in
    let x = c.feature in
    let t = decoded-index w s e in
    let l = t.0 in
    ap refused (sym t.1)
    ∙ refused-is (store_as x c w) k (word_row w l) l
    ∙ ap not (yes (fits c (store_as x c w)) (store-fits c (small_at k l) w x (λ q. striding k l q)))

pub decoded-accepted : (w : ℕ) (s : Store) → w < 2 ^ 32 → decode_of w ≡ Some s → refused s ≡ false
decoded-accepted w s h e = known-accepted w s e

pub decodes_encoded : DecodesEncoded
unfolding store_of
decodes_encoded s w e =
    let k = row_for s in
    let c = class_at k in
    let t = encoded-fits s w e in
    let l = t.0 in
    let f = t.1 in
    let x = c.feature in
    let q : x ≡ feature_of s = (row-holds (number_of s) (feature_of s) l).1 in
    let ps = places_as (feature_of s) c in
    let vs = numbers c s in
    let row = subst (λ (y : Feature). Row c.fields (places_as y c) (mask_of c) c.base) q (row_at k l) in
    let fit = values-fit c s f in
    let v = c.base + sum_at ps vs in
    let n : v ≡ w = ap (λ (y : ℕ). c.base + y) (sym (placed-sum c s)) ∙ t.2 in
    let i = index-found k v l (masked k l v (made-masked c.fields ps (mask_of c) c.base row vs fit)) in
    let d : store_as x c v ≡ s =
    ap (λ (y : Feature). store_as y c v) q
    ∙ store-reads (feature_of s) c v
    ∙ ap (from_as (feature_of s) c) (made_reads c.fields ps (mask_of c) c.base row vs fit)
    ∙ from-values c s (number_at k l ∙ (row-holds (number_of s) (feature_of s) l).0) f in (
      subst (λ (y : ℕ). y < 2 ^ 32) n (made-small c.fields ps (mask_of c) c.base row vs fit),
      ap decode_of (sym n) ∙ sym (defined v k (sym i) l s (sym d)),
    )
