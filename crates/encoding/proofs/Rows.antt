-- The table of classes: facts that antt computes over all rows, and what follows at each. Assumes nothing.
use Rattle.std.specs.Prelude.{Option, Some, None, unwrap_or, position as position_of}
use Rattle.std.specs.List.{position_or_len}
use mathlib.Core.Path.{◌≡◌, refl, sym, ap, ◌∙◌, subst}
use mathlib.Core.Bool.{Bool, true, false, not, cond, ◌&&◌, ◌||◌}
use mathlib.Core.List.{List, [], ◌∷◌, map}
use Prim.Native.Nat.{ℕ, zero, suc, ◌+◌, ◌-◌, ◌/◌, ◌^◌, ◌≤◌, ◌<◌}
use native.Mathlib.Nat.{not-suc-le-zero, le_of_suc-le-suc}
use native.Mathlib.Omega.{arith}
use lib.Bits.{bit_and}
use lib.Dec.{T, eqb, leb, ltb, eqb→eq, eqb_refl, ltb→lt, lt→ltb, leb→le, T_not}
use lib.Ieee.Fits.{and_i, and_l, and_r}
use lib.ListN.{length, get_or, get_or-eq_default}
use borrow.Author.Tests.{eq-eqb}
use Rattle.encoding.specs.Classes as C
use Rattle.encoding.specs.Classes.{Field, Zm, Rm, imm4, xs, Pg, Pc, Rn, Zn, Zt, low, flag, Class, no_class, classes}
use Rattle.encoding.specs.Classes.{class_at, position, any, every_below, bit, inside, belongs, mask_below, mask_of, has, width}
use Rattle.encoding.specs.declared.Feature.{Feature}
use Rattle.encoding.specs.declared.Feature.TheVariants.{SVE, SME2, SVE2p1}
use Rattle.encoding.specs.Decoding.{zt_of, index_of}
use Rattle.encoding.specs.Encoding.{row_of, row_numbered, class_numbered}
use Rattle.encoding.specs.Layouts.{row_in, listed, IsListed}
use Rattle.encoding.specs.declared.table.Row.{Row}
use Rattle.encoding.proofs.Tests.{absurdly, all, Facts, facts, cond-true, cond-false, every, every-at, below_at, below_all, holds}
use Rattle.encoding.proofs.Search.{position-none, position-only, position-holds}
use Rattle.encoding.proofs.Places as P
use Rattle.encoding.proofs.Places.{Place, row-right, row, mask-member, member-mask}

-- ---- each row is sound

-- the places of a class's fields, in the order of `values_in`
abbrev pub at : Class → Field → Place
at c f = record { low = low f; width = width c f }

abbrev pub places_as : Feature → Class → List Place
places_as SVE c = at c Zm ∷ at c xs ∷ at c Pg ∷ at c Rn ∷ at c Zt ∷ []
places_as SME2 c = at c Rm ∷ at c imm4 ∷ at c Pc ∷ at c Rn ∷ at c C.T ∷ at c (zt_of c) ∷ []
places_as SVE2p1 c = at c Rm ∷ at c Pg ∷ at c Zn ∷ at c Zt ∷ []

sound : Class → Bool
sound c = all (row-right c.fields (places_as c.feature c) (mask_of c) c.base)

all_sound : T (every sound classes)
unfolding every sound classes any inside has every_below mask_below mask_of
all_sound = tt

module _ (k : ℕ) (h : k < length classes) where
  pub row_at : P.Row (class_at k).fields (places_as (class_at k).feature (class_at k)) (mask_of (class_at k)) (class_at k).base
  unfolding sound class_at
  row_at =
      let c = class_at k in
      let ps = places_as c.feature c in
      row c.fields ps (mask_of c) c.base
      (facts (row-right c.fields ps (mask_of c) c.base) (every-at sound classes no_class all_sound k h))

  -- the mask test is membership
  pub masked : (w : ℕ) → bit_and w (mask_of (class_at k)) ≡ (class_at k).base → T (belongs (class_at k) w)
  unfolding belongs
  masked w e =
      mask-member (class_at k).fields (places_as (class_at k).feature (class_at k)) (mask_of (class_at k)) (class_at k).base row_at w e

  pub unmasked : (w : ℕ) → w < 2 ^ 32 → T (belongs (class_at k) w) → bit_and w (mask_of (class_at k)) ≡ (class_at k).base
  unfolding belongs
  unmasked w l t =
      member-mask (class_at k).fields (places_as (class_at k).feature (class_at k)) (mask_of (class_at k)) (class_at k).base row_at w l t

-- ---- classes are numbered from 1

numbered : ℕ → Bool
numbered k = eqb (class_at k).number (suc k)

all-numbered : T (every_below (length classes) numbered)
unfolding every_below numbered class_at classes
all-numbered = tt

pub number_at : (k : ℕ) → k < length classes → (class_at k).number ≡ suc k
unfolding numbered
number_at k h = eqb→eq (class_at k).number (suc k) (below_at (length classes) numbered all-numbered k h)

-- ---- the search for a class by its number

pub flag-inj : (x y : Feature) → flag x ≡ flag y → x ≡ y
flag-inj SVE SVE e = refl
flag-inj SVE SME2 e = absurdly e
flag-inj SVE SVE2p1 e = absurd (omega (arith, e))
flag-inj SME2 SVE e = absurdly (sym e)
flag-inj SME2 SME2 e = refl
flag-inj SME2 SVE2p1 e = absurd (omega (arith, e))
flag-inj SVE2p1 SVE e = absurd (omega (arith, e))
flag-inj SVE2p1 SME2 e = absurd (omega (arith, e))
flag-inj SVE2p1 SVE2p1 e = refl

pub numbered-found : (n k : ℕ) → k < length classes → suc k ≡ n → row_numbered n ≡ k
unfolding row_numbered class_at
numbered-found n k h e =
    position-only (λ c. eqb c.number n) no_class classes k h (holds (eq-eqb (class_at k).number n (number_at k h ∙ e)))
    (λ j l t. let q = sym (number_at j l) ∙ eqb→eq (class_at j).number n t in omega arith)

pub numbered-none : (n : ℕ) → ((k : ℕ) → k < length classes → suc k ≡ n → ⊥) → row_numbered n ≡ length classes
unfolding row_numbered class_at
numbered-none n f =
    position-none (λ c. eqb c.number n) no_class classes (λ k h t. f k h (sym (number_at k h) ∙ eqb→eq (class_at k).number n t))

pub numbered_is : (n : ℕ) → row_numbered n < length classes → suc (row_numbered n) ≡ n
unfolding row_numbered class_at
numbered_is n h =
    sym (number_at (row_numbered n) h) ∙ eqb→eq (class_numbered n).number n (position-holds (λ c. eqb c.number n) no_class classes h)

-- a class that isn't in the list has the feature of `no_class`
pub unlisted : (k : ℕ) → length classes ≤ k → (class_at k).feature ≡ SVE
unfolding class_at
unlisted k h = ap (λ (c : Class). c.feature) (get_or-eq_default classes no_class h)

-- ---- and by its feature too

abbrev named : ℕ → Feature → Class → Bool
named n x c = eqb c.number n && eqb (flag c.feature) (flag x)

named-is : (n : ℕ) (x : Feature) (k : ℕ) → k < length classes → T (named n x (class_at k)) → (suc k ≡ n) × ((class_at k).feature ≡ x)
named-is n x k h t =
    let a = eqb (class_at k).number n in
    let b = eqb (flag (class_at k).feature) (flag x) in (
      sym (number_at k h) ∙ eqb→eq (class_at k).number n (and_l a b t),
      flag-inj (class_at k).feature x (eqb→eq (flag (class_at k).feature) (flag x) (and_r a b t)),
    )

pub row-found : (n : ℕ) (x : Feature) (k : ℕ) → k < length classes → suc k ≡ n → (class_at k).feature ≡ x → row_of n x ≡ k
unfolding row_of class_at
row-found n x k h e f =
    position-only (named n x) no_class classes k h
    (and_i (eqb (class_at k).number n) (eqb (flag (class_at k).feature) (flag x))
    (holds (eq-eqb (class_at k).number n (number_at k h ∙ e))) (holds (eq-eqb (flag (class_at k).feature) (flag x) (ap flag f))))
    (λ j l t. let q = named-is n x j l t in omega (arith, q.0))

pub row-none : (n : ℕ) (x : Feature) → ((k : ℕ) → k < length classes → suc k ≡ n → (class_at k).feature ≡ x → ⊥)
    → row_of n x ≡ length classes
unfolding row_of class_at
row-none n x f = position-none (named n x) no_class classes (λ k h t. let q = named-is n x k h t in f k h q.0 q.1)

-- the class found has the number and the feature
pub row-holds : (n : ℕ) (x : Feature) → row_of n x < length classes → (suc (row_of n x) ≡ n) × ((class_at (row_of n x)).feature ≡ x)
unfolding row_of class_at
row-holds n x h = named-is n x (row_of n x) h (position-holds (named n x) no_class classes h)

-- and is the one of that number
pub row-numbered : (n : ℕ) (x : Feature) → row_of n x < length classes → row_numbered n ≡ row_of n x
row-numbered n x h = numbered-found n (row_of n x) h (row-holds n x h).0

pub found-feature : (n k : ℕ) (x : Feature) → k ≡ row_of n x → k < length classes → (class_at k).feature ≡ x
found-feature n k x e h = ap (λ (j : ℕ). (class_at j).feature) e ∙ (row-holds n x (subst (λ (j : ℕ). j < length classes) e h)).1

-- ---- the code's table

unfoldable pub rows : List Row
rows = map row_in classes

no_row : Row
no_row = row_in no_class

get_or-map-in : {A B : Type 0} (f : A → B) (l : List A) (d : A) (e : B) (k : ℕ) → k < length l → get_or (map f l) k e ≡ f (get_or l k d)
get_or-map-in f [] d e k h = absurd (not-suc-le-zero h)
get_or-map-in f (x ∷ l) d e zero h = refl
get_or-map-in f (x ∷ l) d e (suc k) h = get_or-map-in f l d e k (le_of_suc-le-suc h)

-- what is kept of each class, in their order
unfoldable pub column : {B : Type 0} → (Class → B) → List B
column f = map f classes

pub column-at : {B : Type 0} (f : Class → B) (e : B) (k : ℕ) → k < length classes → get_or (column f) k e ≡ f (class_at k)
unfolding column class_at
column-at f e k h = get_or-map-in f classes no_class e k h

pub row-at : (e : Row) (k : ℕ) → k < length classes → get_or rows k e ≡ row_in (class_at k)
unfolding rows column
row-at = column-at row_in

pub listed-row : (k : ℕ) → k < length classes → listed k ≡ Some (row_in (class_at k))
listed-row k h = cond-true (ltb k (length classes)) (Some (row_in (class_at k))) None (lt→ltb k (length classes) h)

pub listed-none : (k : ℕ) → length classes ≤ k → listed k ≡ None
listed-none k h = cond-false (ltb k (length classes)) (Some (row_in (class_at k))) None (λ t. omega (arith, ltb→lt k (length classes) t))

module _ {A : Type 0} where
  some_one : Option A → ℕ
  some_one None = 0
  some_one (Some r) = 1

  chosen : (b : Bool) (x r : A) → Some r ≡ cond b (Some x) None → T b × (r ≡ x)
  unfolding some_one
  chosen true x r e = (tt, ap (λ (o : Option A). unwrap_or o r) e)
  chosen false x r e = absurdly (sym (ap some_one e))

  unchosen : (b : Bool) (x : A) → None ≡ cond b (Some x) None → T b → ⊥
  unfolding some_one
  unchosen true x e t = absurdly (ap some_one e)
  unchosen false x e t = t

-- a row that is found
pub known-row : (k : ℕ) (r : Row) → Some r ≡ listed k → (k < length classes) × (r ≡ row_in (class_at k))
known-row k r e =
    let q = chosen (ltb k (length classes)) (row_in (class_at k)) r e in
    (ltb→lt k (length classes) q.0, q.1)

pub unknown-row : (k : ℕ) → None ≡ listed k → k < length classes → ⊥
unknown-row k e h = unchosen (ltb k (length classes)) (row_in (class_at k)) e (lt→ltb k (length classes) h)

-- has its class's number
pub is-listed : (k : ℕ) (r : Row) → Some r ≡ listed k → IsListed r × (row_numbered r.number ≡ k)
is-listed k r e =
    let q = known-row k r e in
    let n : row_numbered r.number ≡ k = numbered-found r.number k q.0 (sym (number_at k q.0) ∙ sym (ap (λ (x : Row). x.number) q.1)) in (
      (subst (λ (j : ℕ). j < length classes) (sym n) q.0, q.1 ∙ ap (λ (j : ℕ). row_in (class_at j)) (sym n)),
      n,
    )

-- ---- found by a word

same : (a b : Bool) → (T a → T b) → (T b → T a) → a ≡ b
same true true f g = refl
same true false f g = absurd (f tt)
same false true f g = absurd (g tt)
same false false f g = refl

-- a class's fixed bits, and what they are
abbrev pub bits_in : Class → List ℕ
bits_in c = mask_of c ∷ c.base ∷ []

unfoldable pub fixed : List (List ℕ)
fixed = map bits_in classes

turned : (a b : Bool) (n m : ℕ) → a ≡ b → n ≡ m → cond (not a) (1 + n) 0 ≡ cond b 0 (suc m)
turned true b n m e h = ap (λ (x : Bool). cond x 0 (suc m)) e
turned false b n m e h = let s : 1 + n ≡ suc m = omega (arith, h) in s ∙ ap (λ (x : Bool). cond x 0 (suc m)) e

position-mapped : (p : List ℕ → Bool) (q : Class → Bool) (cs : List Class)
    → ((k : ℕ) → k < length cs → p (bits_in (get_or cs k no_class)) ≡ q (get_or cs k no_class))
    → position_or_len p (map bits_in cs) ≡ position q cs
unfolding position
position-mapped p q [] f = refl
position-mapped p q (c ∷ cs) f =
    turned (p (bits_in c)) (q c) _ _ (f 0 (omega arith)) (position-mapped p q cs (λ k h. f (suc k) (omega arith)))

-- the decoder's test
abbrev pub fits : ℕ → List ℕ → Bool
fits w r = eqb (bit_and w (get_or r 0 0)) (get_or r 1 0)

first-fixed : (w : ℕ) → w < 2 ^ 32 → position_or_len (fits w) fixed ≡ index_of w
unfolding fixed index_of class_at
first-fixed w l =
    position-mapped (fits w) (λ c. belongs c w) classes
    (λ k h.
    same (eqb (bit_and w (mask_of (class_at k))) (class_at k).base) (belongs (class_at k) w)
    (λ t. masked k h w (eqb→eq (bit_and w (mask_of (class_at k))) (class_at k).base t))
    (λ t. holds (eq-eqb (bit_and w (mask_of (class_at k))) (class_at k).base (unmasked k h w l t))))

length-fixed : length fixed ≡ length classes
unfolding fixed classes
length-fixed = refl

module _ (w : ℕ) (l : w < 2 ^ 32) where
  pub fixed-found : (k : ℕ) (e : Row) → Some k ≡ position_of (fits w) fixed → (k < length classes) × (Some (get_or rows k e) ≡ listed (index_of w))
  fixed-found k e q =
      let c = chosen (ltb (position_or_len (fits w) fixed) (length fixed)) (position_or_len (fits w) fixed) k q in
      let i : k ≡ index_of w = c.1 ∙ first-fixed w l in
      let h : k < length classes =
      omega (arith, c.1, length-fixed, ltb→lt (position_or_len (fits w) fixed) (length fixed) c.0) in (
        h,
        ap Some (row-at e k h) ∙ sym (listed-row k h) ∙ ap listed i,
      )

  pub fixed-none : None ≡ position_of (fits w) fixed → None ≡ listed (index_of w)
  fixed-none q =
      let n : position_or_len (fits w) fixed < length fixed → ⊥ =
      λ h. unchosen (ltb (position_or_len (fits w) fixed) (length fixed)) (position_or_len (fits w) fixed) q (lt→ltb _ _ h) in
      let i = first-fixed w l in
      sym (listed-none (index_of w) (omega (arith, i, length-fixed, n)))

-- ---- found by a number

pub row-by-number : (n : ℕ) (e : Row) → 1 ≤ n → n ≤ length classes → get_or rows (n - 1) e ≡ row_in (class_numbered n)
row-by-number n e h l =
    row-at e (n - 1) (omega arith)
    ∙ ap (λ (k : ℕ). row_in (class_at k)) (sym (numbered-found n (n - 1) (omega arith) (omega arith)))

pub number-listed : (n : ℕ) (e : Row) → 1 ≤ n → n ≤ length classes → Some (get_or rows (n - 1) e) ≡ listed (row_numbered n)
number-listed n e h l =
    ap Some (row-by-number n e h l)
    ∙ sym (listed-row (row_numbered n)
    (subst (λ (k : ℕ). k < length classes) (sym (numbered-found n (n - 1) (omega arith) (omega arith))) (omega arith)))

pub number-unlisted : (n : ℕ) → (1 ≤ n → n ≤ length classes → ⊥) → None ≡ listed (row_numbered n)
number-unlisted n f =
    let e = numbered-none n (λ k h q. f (omega arith) (omega arith)) in
    sym (listed-none (row_numbered n) (omega (arith, e)))

-- ---- and by a feature

module _ (n : ℕ) (x : Feature) where
  pub unlisted-of : None ≡ listed (row_numbered n) → None ≡ listed (row_of n x)
  unlisted-of e =
      let q = row-none n x (λ k h s g. unknown-row (row_numbered n) e (omega (arith, numbered-found n k h s))) in
      sym (listed-none (row_of n x) (omega (arith, q)))

  module _ (r : Row) (e : Some r ≡ listed (row_numbered n)) where
    feature-is : r.feature ≡ (class_numbered n).feature
    feature-is = ap (λ (y : Row). y.feature) (known-row (row_numbered n) r e).1

    pub listed-of : r.feature ≡ x → Some r ≡ listed (row_of n x)
    listed-of f =
        let h = (known-row (row_numbered n) r e).0 in
        e ∙ ap listed (sym (row-found n x (row_numbered n) h (numbered_is n h) (sym feature-is ∙ f)))

    pub other-of : (r.feature ≡ x → ⊥) → None ≡ listed (row_of n x)
    other-of f =
        let q = row-none n x (λ k h s g. f (feature-is ∙ ap (λ (j : ℕ). (class_at j).feature) (numbered-found n k h s) ∙ g)) in
        sym (listed-none (row_of n x) (omega (arith, q)))

-- ---- how large a class's numbers are, and which fields all classes of a feature have

abbrev within : ℕ → ℕ → ℕ → Bool
within l n x = leb l x && leb x n

abbrev small : Class → List Bool
small c =
    leb c.nreg 4
    ∷ within 1 2 (2 ^ width c xs)
    ∷ within 1 32 (2 ^ width c Rm)
    ∷ within 1 16 (2 ^ width c imm4)
    ∷ within 1 8 (2 ^ width c (zt_of c))
    ∷ within 1 16 (c.esize / 8)
    ∷ within 1 (c.esize / 8) (c.msize / 8)
    ∷ ltb c.scale 4
    ∷ leb c.base 0xF0000000
    ∷ []

-- a scatter or quadword class has offsets, predicate, base or index, and data
abbrev vector : Field → Field → Class → List Bool
vector f g c = eqb (width c f) 5 ∷ eqb (width c Pg) 3 ∷ eqb (width c g) 5 ∷ eqb (width c Zt) 5 ∷ []

abbrev strided : Class → List Bool
strided c = eqb (width c Pc) 3 ∷ eqb (width c Rn) 5 ∷ eqb (width c C.T) 1 ∷ ltb 0 c.nreg ∷ []

abbrev formed_as : Feature → Class → List Bool
formed_as SVE c = vector Zm Rn c
formed_as SME2 c = strided c
formed_as SVE2p1 c = vector Rm Zn c

all_small : T (every (λ c. all (small c)) classes)
unfolding every classes any has
all_small = tt

all-formed : T (every (λ c. all (formed_as c.feature c)) classes)
unfolding every classes any has
all-formed = tt

pub record Small (c : Class) : Type 0 where
  pub nreg : c.nreg ≤ 4
  pub xs : (1 ≤ 2 ^ width c xs) × (2 ^ width c xs ≤ 2)
  pub rm : (1 ≤ 2 ^ width c Rm) × (2 ^ width c Rm ≤ 32)
  pub imm4 : (1 ≤ 2 ^ width c imm4) × (2 ^ width c imm4 ≤ 16)
  pub zt : (1 ≤ 2 ^ width c (zt_of c)) × (2 ^ width c (zt_of c) ≤ 8)
  pub step : (1 ≤ c.esize / 8) × (c.esize / 8 ≤ 16)
  pub size : (1 ≤ c.msize / 8) × (c.msize / 8 ≤ c.esize / 8)
  pub scale : c.scale < 4
  pub base : c.base ≤ 0xF0000000

within-is : (l n x : ℕ) → T (within l n x) → (l ≤ x) × (x ≤ n)
within-is l n x t = (leb→le l x (and_l (leb l x) (leb x n) t), leb→le x n (and_r (leb l x) (leb x n) t))

smallness : (c : Class) → Facts (small c) → Small c
smallness c (nreg, (x, (rm, (imm, (zt, (step, (size, (scale, (base, u))))))))) =
    record {
      nreg = leb→le c.nreg 4 nreg;
      xs = within-is 1 2 (2 ^ width c xs) x;
      rm = within-is 1 32 (2 ^ width c Rm) rm;
      imm4 = within-is 1 16 (2 ^ width c imm4) imm;
      zt = within-is 1 8 (2 ^ width c (zt_of c)) zt;
      step = within-is 1 16 (c.esize / 8) step;
      size = within-is 1 (c.esize / 8) (c.msize / 8) size;
      scale = ltb→lt c.scale 4 scale;
      base = leb→le c.base 0xF0000000 base;
    }

-- f and g are the fields beside Pg and Zt
pub record Vector (c : Class) (f g : Field) : Type 0 where
  pub first : width c f ≡ 5
  pub pg : width c Pg ≡ 3
  pub second : width c g ≡ 5
  pub zt : width c Zt ≡ 5

vectored : (c : Class) (f g : Field) → Facts (vector f g c) → Vector c f g
vectored c f g (first, (pg, (second, (zt, u)))) =
    record {
      first = eqb→eq (width c f) 5 first;
      pg = eqb→eq (width c Pg) 3 pg;
      second = eqb→eq (width c g) 5 second;
      zt = eqb→eq (width c Zt) 5 zt;
    }

pub record Striding (c : Class) : Type 0 where
  pub pc : width c Pc ≡ 3
  pub rn : width c Rn ≡ 5
  pub t : width c C.T ≡ 1
  pub nreg : 0 < c.nreg

strides : (c : Class) → Facts (strided c) → Striding c
strides c (pc, (rn, (t, (nreg, u)))) =
    record {
      pc = eqb→eq (width c Pc) 3 pc;
      rn = eqb→eq (width c Rn) 5 rn;
      t = eqb→eq (width c C.T) 1 t;
      nreg = ltb→lt 0 c.nreg nreg;
    }

-- no field of a layout has more than 5 bits
abbrev narrow : Class → List Bool
narrow c = leb (width c xs) 5 ∷ leb (width c Rm) 5 ∷ leb (width c imm4) 5 ∷ leb (width c (zt_of c)) 5 ∷ []

all-narrow : T (every (λ c. all (narrow c)) classes)
unfolding every classes any has
all-narrow = tt

module _ (k : ℕ) (h : k < length classes) where
  pub small_at : Small (class_at k)
  unfolding class_at
  small_at = smallness (class_at k) (facts (small (class_at k)) (every-at (λ c. all (small c)) classes no_class all_small k h))

  pub narrow_at : (width (class_at k) xs ≤ 5) × (width (class_at k) Rm ≤ 5) × (width (class_at k) imm4 ≤ 5)
      × (width (class_at k) (zt_of (class_at k)) ≤ 5)
  unfolding class_at
  narrow_at =
      let c = class_at k in
      let f = facts (narrow c) (every-at (λ c. all (narrow c)) classes no_class all-narrow k h) in
      (leb→le _ 5 f.0, leb→le _ 5 f.1.0, leb→le _ 5 f.1.1.0, leb→le _ 5 f.1.1.1.0)

  formed-as : (x : Feature) → (class_at k).feature ≡ x → Facts (formed_as x (class_at k))
  unfolding class_at
  formed-as x e =
      facts (formed_as x (class_at k))
      (subst (λ (y : Feature). T (all (formed_as y (class_at k)))) e
      (every-at (λ c. all (formed_as c.feature c)) classes no_class all-formed k h))

  pub scattered : (class_at k).feature ≡ SVE → Vector (class_at k) Zm Rn
  scattered e = vectored (class_at k) Zm Rn (formed-as SVE e)

  pub striding : (class_at k).feature ≡ SME2 → Striding (class_at k)
  striding e = strides (class_at k) (formed-as SME2 e)

  pub quad : (class_at k).feature ≡ SVE2p1 → Vector (class_at k) Rm Zn
  quad e = vectored (class_at k) Rm Zn (formed-as SVE2p1 e)

-- ---- no word belongs to two classes

-- the classes agree wherever both fix a bit
agree : Class → Class → Bool
agree c d = every_below 32 (λ i. inside c.fields i || (inside d.fields i || eqb (bit c.base i) (bit d.base i)))

two-bits : (o p : Bool) (x a b : ℕ) → T (o || eqb x a) → T (p || eqb x b) → T (o || (p || eqb a b))
two-bits true p x a b s t = tt
two-bits false true x a b s t = tt
two-bits false false x a b s t = subst (λ (y : ℕ). T (eqb a y)) (sym (eqb→eq x a s) ∙ eqb→eq x b t) (eqb_refl a)

agreed : (c d : Class) (w : ℕ) → T (belongs c w) → T (belongs d w) → T (agree c d)
unfolding belongs agree
agreed c d w s t =
    below_all 32 (λ i. inside c.fields i || (inside d.fields i || eqb (bit c.base i) (bit d.base i)))
    (λ i h.
    two-bits (inside c.fields i) (inside d.fields i) (bit w i) (bit c.base i) (bit d.base i)
    (below_at 32 (λ i. inside c.fields i || eqb (bit w i) (bit c.base i)) s i h)
    (below_at 32 (λ i. inside d.fields i || eqb (bit w i) (bit d.base i)) t i h))

apart : ℕ → ℕ → Bool
apart j k = cond (eqb j k) true (not (agree (class_at j) (class_at k)))

all_apart : T (every_below (length classes) (λ j. every_below (length classes) (apart j)))
unfolding every_below apart agree class_at classes any inside
all_apart = tt

pub one_class : (w j k : ℕ) → j < length classes → k < length classes → T (belongs (class_at j) w) → T (belongs (class_at k) w) → j ≡ k
unfolding apart
one_class w j k hj hk s t =
    go (eqb j k) refl
    (below_at (length classes) (apart j) (below_at (length classes) (λ i. every_below (length classes) (apart i)) all_apart j hj) k hk)
  where
    go : (b : Bool) → eqb j k ≡ b → T (cond b true (not (agree (class_at j) (class_at k)))) → j ≡ k
    go true e u = eqb→eq j k (holds e)
    go false e u = absurd (T_not (agree (class_at j) (class_at k)) u (agreed (class_at j) (class_at k) w s t))

-- ---- the search for a word's class

pub index-found : (k w : ℕ) → k < length classes → T (belongs (class_at k) w) → index_of w ≡ k
unfolding index_of class_at
index-found k w h t = position-only (λ c. belongs c w) no_class classes k h t (λ j l u. one_class w j k l h u t)

pub index-none : (w : ℕ) → ((k : ℕ) → k < length classes → T (belongs (class_at k) w) → ⊥) → index_of w ≡ length classes
unfolding index_of class_at
index-none w f = position-none (λ c. belongs c w) no_class classes f

pub index-holds : (w : ℕ) → index_of w < length classes → T (belongs (class_at (index_of w)) w)
unfolding index_of class_at
index-holds w h = position-holds (λ c. belongs c w) no_class classes h
