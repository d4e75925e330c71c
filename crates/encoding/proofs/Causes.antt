-- The causes of verdict 11 as one test: each value in its field's range in the class, and an extension where it has one.
-- Assumes nothing.
use Rattle.std.specs.Prelude.{Option, Some, None}
use mathlib.Core.Path.{◌≡◌, refl, sym, ap, ◌∙◌}
use mathlib.Core.Bool.{Bool, true, false, not, cond, ◌&&◌, ◌||◌}
use mathlib.Core.List.{List, [], ◌∷◌}
use Prim.Native.Nat.{ℕ, zero, suc, ◌+◌, ◌^◌, ◌≤◌, ◌<◌}
use native.Mathlib.Omega.{arith}
use lib.Dec.{T, eqb, ltb, le→leb}
use lib.ListN.{length}
use borrow.Author.Tests.{le-ltb, ne_eqb, lt-leb}
use Rattle.encoding.specs.Classes.{Class, classes, class_at, any, size, has, width}
use Rattle.encoding.specs.Encoding.{Value, numbers_in, values_in, placed, row_for, class_for, not_listed, out_of_range, lacked, unnamed}
use Rattle.encoding.specs.Encoding.{misextended, refused, encode_of}
use Rattle.encoding.specs.declared.Store.{Store}
use Rattle.encoding.proofs.Tests.{every, cond-true, fails, told, telling}

-- each value is one that its field has in the class
abbrev pub ranged : Class → List Value → Bool
ranged c vs = every (λ v. ltb v.number (2 ^ width c v.field)) vs

unfoldable pub fits : Class → Store → Bool
fits c s = ranged c (numbers_in s) && not (unnamed c s) && not (misextended c s)

abbrev others : Class → Store → List Bool
others c s = not (unnamed c s) ∷ not (misextended c s) ∷ []

-- the three tests of it
module _ (c : Class) (s : Store) where
  pub fits-made : T (ranged c (numbers_in s)) → T (not (unnamed c s)) → T (not (misextended c s)) → T (fits c s)
  unfolding fits
  fits-made r u m = telling (ranged c (numbers_in s)) (others c s) (r, (u, (m, tt)))

  module _ (t : T (fits c s)) where
    pub in-range : T (ranged c (numbers_in s))
    unfolding fits
    in-range = (told (ranged c (numbers_in s)) (others c s) t).0

    pub is-named : T (not (unnamed c s))
    unfolding fits
    is-named = (told (ranged c (numbers_in s)) (others c s) t).1.0

    pub is-extended : T (not (misextended c s))
    unfolding fits
    is-extended = (told (ranged c (numbers_in s)) (others c s) t).1.1.0

-- a value outside its field's range, or other than 0 where there is no field
out-or-lacked : (h : Bool) (n v : ℕ) → (h && not (ltb v (2 ^ n))) || (not h && not (eqb v 0)) ≡ not (ltb v (2 ^ cond h n 0))
out-or-lacked true n v = go (ltb v (2 ^ n))
  where
    go : (b : Bool) → not b || false ≡ not b
    go true = refl
    go false = refl
out-or-lacked false n zero = refl
out-or-lacked false n (suc v) = ap not (ne_eqb (suc v) 0 (λ e. omega arith) ∙ sym (le-ltb (suc v) 1 (omega arith)))

or_swap : (a b x y r : Bool) → a || b ≡ not r → (s : Bool) → x || y ≡ not s → (a || x) || (b || y) ≡ not (r && s)
or_swap true b x y true e s f = absurd (fails e tt)
or_swap true b x y false e s f = refl
or_swap false true x y true e s f = absurd (fails e tt)
or_swap false true true y false e s f = refl
or_swap false true false y false e s f = refl
or_swap false false x y true e s f = f
or_swap false false x y false e s f = absurd (fails (sym e) tt)

abbrev out : Class → Value → Bool
out c v = has c v.field && not (ltb v.number (2 ^ size v.field))

abbrev lack : Class → Value → Bool
lack c v = not (has c v.field) && not (eqb v.number 0)

ranges : (c : Class) (vs : List Value) → any (out c) vs || any (lack c) vs ≡ not (ranged c vs)
unfolding any every
ranges c [] = refl
ranges c (v ∷ vs) =
    or_swap (out c v) (lack c v) (any (out c) vs) (any (lack c) vs) (ltb v.number (2 ^ width c v.field))
    (out-or-lacked (has c v.field) (size v.field) v.number) (ranged c vs) (ranges c vs)

causes : (n o l u m r : Bool) → n ≡ false → o || l ≡ not r → n || o || l || u || m ≡ not (r && not u && not m)
causes true o l u m r e f = absurd (fails e tt)
causes false o l u m true e f = ap (λ (b : Bool). b || u || m) f ∙ go u m
  where
    go : (u m : Bool) → u || m ≡ not (not u && not m)
    go true m = refl
    go false true = refl
    go false false = refl
causes false o l u m false e f = ap (λ (b : Bool). b || u || m) f

module _ (s : Store) (k : ℕ) (e : k ≡ row_for s) where
  abbrev answer : Bool → Option ℕ
  answer x = cond x None (Some ((class_for s).base + placed (values_in (class_for s) s)))

  pub encode-out : length classes ≤ k → None ≡ encode_of s
  unfolding encode_of refused
  encode-out h =
      let l : length classes ≤ row_for s = omega arith in
      sym (cond-true (refused s) None _ (first (not_listed s) _ _ _ _ (le→leb (length classes) (row_for s) l)))
    where
      first : (a b c d f : Bool) → T a → T (a || b || c || d || f)
      first true b c d f t = tt
      first false b c d f t = absurd t

  module _ (h : k < length classes) where
    pub refused-is : refused s ≡ not (fits (class_at k) s)
    unfolding refused out_of_range lacked fits
    refused-is =
        let c = class_for s in
        causes (not_listed s) (out_of_range c s) (lacked c s) (unnamed c s) (misextended c s) (ranged c (numbers_in s))
        (lt-leb (length classes) (row_for s) (omega arith)) (ranges c (numbers_in s))
        ∙ ap (λ (j : ℕ). not (fits (class_at j) s)) (sym e)

    pub encode-yes : (b : Bool) (w : ℕ) → b ≡ fits (class_at k) s → b ≡ true → w ≡ (class_at k).base + placed (values_in (class_at k) s)
        → Some w ≡ encode_of s
    unfolding encode_of
    encode-yes b w f t q =
        ap Some (q ∙ ap (λ (j : ℕ). (class_at j).base + placed (values_in (class_at j) s)) e)
        ∙ sym (ap answer (refused-is ∙ ap not (sym f ∙ t)))

    pub encode-no : (b : Bool) → b ≡ fits (class_at k) s → b ≡ false → None ≡ encode_of s
    unfolding encode_of
    encode-no b f t =
        sym (ap answer (refused-is ∙ ap not (sym f ∙ t)))
