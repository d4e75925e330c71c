-- Elements that share a byte. Assumes nothing.
use mathlib.Core.Path.{◌≡◌, refl, ap, ap₂, ◌∙◌}
use mathlib.Core.Bool.{Bool, true, false, cond, ◌&&◌, ◌||◌}
use mathlib.Core.List.{List, [], ◌∷◌, ◌++◌}
use mathlib.Core.Logic.{◌⊎◌, inl, inr, ⊎_elim}
use mathlib.Core.Option.{none, some}
use Prim.Native.Nat.{ℕ, zero, suc, ◌+◌, ◌*◌, ◌≤◌, ◌<◌}
use native.Mathlib.Nat.{zero-mul, suc-mul}
use native.Mathlib.Omega.{arith}
use lib.Dec.{leb, ltb}
use lib.ListN.{length, length-append}
use borrow.Author.Tests.{leb-true, le-leb, ltb-true, lt-ltb, le-ltb}
use Rattle.endian.proofs.Order.{two, absurdly, not-both, both}
use Rattle.writes.specs.Sets.{ByteWrite, write, writes_at}
use Rattle.writes.specs.Elements.{Element, below, from, splice, splice_all, net_effect}
use Rattle.writes.proofs.Runs.{length-writes_at}
use Rattle.writes.specs.Elements.{covers, covers_some, share_byte, shares_with, overlap_from, first_overlap}

-- ---- sums of tests

pub or-true : (a b : Bool) → b ≡ true → a || b ≡ true
or-true true b e = refl
or-true false b e = e

pub or-one : (a b : Bool) → a || b ≡ true → (a ≡ true) ⊎ (b ≡ true)
or-one true b e = inl refl
or-one false b e = inr e

-- ---- two elements

-- an address among n from x on that e writes
pub record Common (e : Element) (x n : ℕ) : Type 0 where
  pub at : ℕ
  pub low : x ≤ at
  pub high : at < x + n
  pub from : e.address ≤ at
  pub upto : at < e.address + length e.bytes

pub common-true : (e : Element) (x n : ℕ) → Common e x n → covers_some e x n ≡ true
unfolding covers_some
common-true e x zero c = absurd (omega (arith, c.low, c.high))
common-true e x (suc n) c =
    two x c.at
    (λ h.
    or-true (covers e x) (covers_some e (suc x) n)
    (common-true e (suc x) n
    (record { at = c.at; low = omega arith; high = omega (arith, c.high); from = c.from; upto = c.upto })))
    (λ h.
    ap (λ (b : Bool). b || covers_some e (suc x) n)
    (ap₂ ◌&&◌ (le-leb e.address x (omega (arith, c.low, c.from)))
    (lt-ltb x (e.address + length e.bytes) (omega (arith, c.low, c.upto)))))

pub true-common : (e : Element) (x n : ℕ) → covers_some e x n ≡ true → Common e x n
unfolding covers_some
true-common e x zero q = absurdly cc
true-common e x (suc n) q =
    ⊎_elim
    (λ h.
    let b = both (leb e.address x) (ltb x (e.address + length e.bytes)) h in
    record {
      at = x;
      low = omega arith;
      high = omega arith;
      from = leb-true e.address x b.0;
      upto = ltb-true x (e.address + length e.bytes) b.1;
    })
    (λ h.
    let c = true-common e (suc x) n h in
    record { at = c.at; low = omega (arith, c.low); high = omega (arith, c.high); from = c.from; upto = c.upto })
    (or-one (covers e x) (covers_some e (suc x) n) q)

-- one ends before the other starts
abbrev pub Apart : Element → Element → Type 0
Apart x y = (x.address + length x.bytes ≤ y.address) ⊎ (y.address + length y.bytes ≤ x.address)

pub apart-false : (x y : Element) → Apart x y → share_byte x y ≡ false
apart-false x y o = go (share_byte x y) refl
  where
    go : (b : Bool) → share_byte x y ≡ b → b ≡ false
    go false q = refl
    go true q =
        let c = true-common y x.address (length x.bytes) q in
        absurd (⊎_elim (λ h. omega (arith, h, c.high, c.from)) (λ h. omega (arith, h, c.low, c.upto)) o)

-- two that aren't apart and have bytes share one
pub meeting-true : (x y : Element) → 0 < length x.bytes → 0 < length y.bytes → x.address < y.address + length y.bytes
    → y.address < x.address + length x.bytes → share_byte x y ≡ true
meeting-true x y p q h k =
    common-true y x.address (length x.bytes)
    (two x.address y.address
    (λ l. record { at = y.address; low = omega arith; high = k; from = omega arith; upto = omega arith })
    (λ l. record { at = x.address; low = omega arith; high = omega arith; from = l; upto = h }))

-- ---- lists of which no two elements share a byte

abbrev pub ApartFrom : Element → List Element → Type 0
ApartFrom x [] = Unit {0}
ApartFrom x (y ∷ ys) = Apart x y × ApartFrom x ys

abbrev pub EachApart : List Element → Type 0
EachApart [] = Unit {0}
EachApart (x ∷ xs) = ApartFrom x xs × EachApart xs

apart_none : (x : Element) (ys : List Element) → ApartFrom x ys → shares_with x ys ≡ false
unfolding shares_with
apart_none x [] a = refl
apart_none x (y ∷ ys) a = ap₂ ◌||◌ (apart-false x y a.0) (apart_none x ys a.1)

swap : (x y : Element) → Apart x y → Apart y x
swap x y o = ⊎_elim (λ h. inr h) (λ h. inl h) o

-- each of the elements is apart from the lower ones
abbrev Above : List Element → List Element → Type 0
Above lower [] = Unit {0}
Above lower (x ∷ xs) = ApartFrom x lower × Above lower xs

above-none : (xs : List Element) → Above [] xs
above-none [] = tt
above-none (x ∷ xs) = (tt, above-none xs)

above_more : (x : Element) (lower xs : List Element) → ApartFrom x xs → Above lower xs → Above (x ∷ lower) xs
above_more x lower [] a b = tt
above_more x lower (y ∷ ys) a b = ((swap x y a.0, b.0), above_more x lower ys a.1 b.1)

apart_from : (lower es : List Element) → Above lower es → EachApart es → overlap_from lower es ≡ none
unfolding overlap_from
apart_from lower [] a e = refl
apart_from lower (x ∷ xs) a e =
    ap (λ (b : Bool). cond b (some x) (overlap_from (x ∷ lower) xs)) (apart_none x lower a.0)
    ∙ apart_from (x ∷ lower) xs (above_more x lower xs e.0 a.1) e.1

pub apart-no-overlap : (es : List Element) → EachApart es → first_overlap es ≡ none
apart-no-overlap es e = apart_from [] es (above-none es) e

-- ---- and the other way round, of elements that have bytes

abbrev pub Full : ℕ → List Element → Type 0
Full size [] = Unit {0}
Full size (x ∷ xs) = (length x.bytes ≡ size) × Full size xs

module _ (size : ℕ) (p : 0 < size) where
  none_apart : (x : Element) (ys : List Element) → length x.bytes ≡ size → Full size ys → shares_with x ys ≡ false → ApartFrom x ys
  unfolding shares_with
  none_apart x [] l f q = tt
  none_apart x (y ∷ ys) l f q = go (share_byte x y) refl q (none_apart x ys l f.1)
    where
      go : (b : Bool) → share_byte x y ≡ b → b || shares_with x ys ≡ false → (shares_with x ys ≡ false → ApartFrom x ys)
          → ApartFrom x (y ∷ ys)
      go true i r rest = absurdly cc
      go false i r rest =
          let f0 : length y.bytes ≡ size = f.0 in (
            two x.address (y.address + length y.bytes)
                (λ h.
                two y.address (x.address + length x.bytes)
                (λ k. not-both (share_byte x y) (meeting-true x y (omega arith) (omega arith) h k) i) (λ k. inl k)) (λ h. inr h),
            rest r,
          )

  -- those behind x are apart from it, since they are from all lower ones
  behind : (x : Element) (lower xs : List Element) → Above (x ∷ lower) xs → ApartFrom x xs × Above lower xs
  behind x lower [] a = (tt, tt)
  behind x lower (y ∷ ys) a = let r = behind x lower ys a.1 in ((swap y x a.0.0, r.0), (a.0.1, r.1))

  from-apart : (lower es : List Element) → Full size lower → Full size es → overlap_from lower es ≡ none → EachApart es × Above lower es
  unfolding overlap_from
  from-apart lower [] g f q = (tt, tt)
  from-apart lower (x ∷ xs) g f q = go (shares_with x lower) refl q (from-apart (x ∷ lower) xs (f.0, g) f.1)
    where
      go : (b : Bool) → shares_with x lower ≡ b → cond b (some x) (overlap_from (x ∷ lower) xs) ≡ none
          → (overlap_from (x ∷ lower) xs ≡ none → EachApart xs × Above (x ∷ lower) xs)
          → EachApart (x ∷ xs) × Above lower (x ∷ xs)
      go true i r rest = absurdly cc
      go false i r rest =
          let t = rest r in
          let u = behind x lower xs t.1 in
          ((u.0, t.0), (none_apart x lower f.0 g i, u.1))

  pub no-overlap-apart : (es : List Element) → Full size es → first_overlap es ≡ none → EachApart es
  no-overlap-apart es f q = (from-apart [] es tt f q).0

-- ---- elements of which no two share a byte write as many addresses as they have bytes

-- none of the set's addresses is one of the n from s on
abbrev Clear : ℕ → ℕ → List ByteWrite → Type 0
Clear s n [] = Unit {0}
Clear s n (write a b ∷ S) = ((a < s) ⊎ (s + n ≤ a)) × Clear s n S

length-parts : (s n : ℕ) (S : List ByteWrite) → Clear s n S → length (below s S) + length (from (s + n) S) ≡ length S
unfolding below from
length-parts s n [] c = refl
length-parts s n (write a b ∷ S) c =
    let rest = length-parts s n S c.1 in
    let lower : Bool → ℕ = λ t. length (cond t (write a b ∷ below s S) (below s S)) in
    let upper : Bool → ℕ = λ t. length (cond t (from (s + n) S) (write a b ∷ from (s + n) S)) in
    ⊎_elim
    (λ h. omega (arith, ap lower (lt-ltb a s h), ap upper (lt-ltb a (s + n) (omega arith)), rest))
    (λ h. omega (arith, ap lower (le-ltb a s (omega arith)), ap upper (le-ltb a (s + n) h), rest))
    c.0

length-splice : (s : ℕ) (p : List ℕ) (S : List ByteWrite) → Clear s (length p) S → length (splice s p S) ≡ length p + length S
unfolding splice
length-splice s p S c =
    omega (
      arith,
      length-append (below s S) (writes_at s p ++ from (s + length p) S),
      length-append (writes_at s p) (from (s + length p) S),
      length-writes_at s p,
      length-parts s (length p) S c,
    )

-- ---- what stays clear

module _ (t k : ℕ) where
  clear-append : (S T : List ByteWrite) → Clear t k S → Clear t k T → Clear t k (S ++ T)
  clear-append [] T c d = d
  clear-append (write a b ∷ S) T c d = (c.0, clear-append S T c.1 d)

  clear-below : (s : ℕ) (S : List ByteWrite) → Clear t k S → Clear t k (below s S)
  unfolding below
  clear-below s [] c = tt
  clear-below s (write a b ∷ S) c = go (ltb a s) (clear-below s S c.1)
    where
      go : (u : Bool) → Clear t k (below s S) → Clear t k (cond u (write a b ∷ below s S) (below s S))
      go true r = (c.0, r)
      go false r = r

  clear-from : (s : ℕ) (S : List ByteWrite) → Clear t k S → Clear t k (from s S)
  unfolding from
  clear-from s [] c = tt
  clear-from s (write a b ∷ S) c = go (ltb a s) (clear-from s S c.1)
    where
      go : (u : Bool) → Clear t k (from s S) → Clear t k (cond u (from s S) (write a b ∷ from s S))
      go true r = r
      go false r = (c.0, r)

  clear-writes : (s : ℕ) (p : List ℕ) → (s + length p ≤ t) ⊎ (t + k ≤ s) → Clear t k (writes_at s p)
  unfolding writes_at
  clear-writes s [] o = tt
  clear-writes s (b ∷ p) o =
      (⊎_elim (λ h. inl (omega arith)) (λ h. inr h) o, clear-writes (suc s) p (⊎_elim (λ h. inl (omega arith)) (λ h. inr (omega arith)) o))

  clear-splice : (s : ℕ) (p : List ℕ) (S : List ByteWrite) → (s + length p ≤ t) ⊎ (t + k ≤ s) → Clear t k S → Clear t k (splice s p S)
  unfolding splice
  clear-splice s p S o c =
      clear-append (below s S) (writes_at s p ++ from (s + length p) S) (clear-below s S c)
      (clear-append (writes_at s p) (from (s + length p) S) (clear-writes s p o) (clear-from (s + length p) S c))

abbrev ClearOf : List Element → List ByteWrite → Type 0
ClearOf [] S = Unit {0}
ClearOf (x ∷ xs) S = Clear x.address (length x.bytes) S × ClearOf xs S

clear-of-none : (es : List Element) → ClearOf es []
clear-of-none [] = tt
clear-of-none (x ∷ xs) = (tt, clear-of-none xs)

clear_behind : (x : Element) (xs : List Element) (S : List ByteWrite) → ApartFrom x xs → ClearOf xs S
    → ClearOf xs (splice x.address x.bytes S)
clear_behind x [] S a c = tt
clear_behind x (y ∷ ys) S a c =
    (clear-splice y.address (length y.bytes) x.address x.bytes S a.0 c.0, clear_behind x ys S a.1 c.1)

length-all : (size : ℕ) (S : List ByteWrite) (es : List Element) → Full size es → EachApart es → ClearOf es S
    → length (splice_all S es) ≡ length es * size + length S
unfolding splice_all
length-all size S [] f a c = omega (arith, zero-mul size)
length-all size S (x ∷ xs) f a c =
    let f0 : length x.bytes ≡ size = f.0 in
    omega (
      arith,
      length-all size (splice x.address x.bytes S) xs f.1 a.1 (clear_behind x xs S a.0 c.1),
      length-splice x.address x.bytes S c.0,
      suc-mul (length xs) size,
    )

pub length-once : (size : ℕ) (es : List Element) → Full size es → EachApart es → length (net_effect es) ≡ length es * size
length-once size es f a = omega (arith, length-all size [] es f a (clear-of-none es))
