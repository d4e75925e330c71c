-- Keys share a byte just where their elements do. Assumes nothing.
use mathlib.Core.Path.{◌≡◌, refl, sym, ap, ap₂, ◌∙◌, subst}
use Prim.Native.Nat.{ℕ, suc, ◌+◌, ◌-◌, ◌*◌, ◌≤◌, ◌<◌}
use mathlib.Core.Bool.{Bool, true, false, not, cond, ◌||◌}
use mathlib.Core.List.{List, [], ◌∷◌}
use mathlib.Core.Logic.{inl, inr}
use mathlib.Core.Option.{Option, none, some}
use native.Mathlib.Omega.{arith}
use lib.ListN.{length}
use Rattle.std.specs.Prelude.{is_some, Some, None}
use Rattle.std.specs.Prelude.{Option as RustOption}
use Rattle.endian.proofs.Order.{two, absurdly}
use Rattle.writes.specs.Elements.{Element, share_byte, shares_with, overlap_from, first_overlap}
use Rattle.writes.proofs.Sharing.{apart-false, meeting-true}
use Rattle.ordering.specs.Keys.{number_of, sorted}
use Rattle.stretches.specs.Stretches.{start_of, end_of, Seen, key_of, keys_of, joined}
use Rattle.stretches.proofs.Keying.{key-start, key-bytes, key-number, keys-sized, length-keys, stretches-rising}
use Rattle.overlapping.specs.Overlaps.{parted, meets, meets_any, meeting_from, first_meeting}
use Rattle.overlapping.proofs.Meeting.{meets-yes, meets-left, meets-right, parted-keys}

module _ (W L size : ℕ) (o : 1 ≤ size) (w : size ≤ 256) where
  -- what a key keeps of an element
  pub record Lies (x : Element) : Type 0 where
    pub few : x.number < 256
    pub low : W ≤ x.address
    pub high : x.address + size ≤ W + L
    pub long : length x.bytes ≡ size

  abbrev AllLie : List Element → Type 0
  AllLie [] = Unit {0}
  AllLie (x ∷ xs) = Lies x × AllLie xs

  seen-lie : (f : ℕ) (es : List Element) → Seen W L size f es → AllLie es
  seen-lie f [] s = tt
  seen-lie f (x ∷ xs) s = (record { few = s.1; low = s.2; high = s.3; long = s.4 }, seen-lie (suc x.number) xs s.5)

  abbrev key : Element → ℕ
  key x = key_of (x.address - W) size x.number

  -- ---- two of them

  meets-shares : (x y : Element) → Lies x → Lies y
      → meets (start_of (key x)) (end_of (key x)) (start_of (key y)) (end_of (key y)) ≡ share_byte x y
  meets-shares x y l k =
      go (start_of (key x)) (end_of (key x)) (start_of (key y)) (end_of (key y)) (key-start (x.address - W) size x.number o w l.few)
      (omega (arith, key-bytes (x.address - W) size x.number o w l.few, key-start (x.address - W) size x.number o w l.few))
      (key-start (y.address - W) size y.number o w k.few)
      (omega (arith, key-bytes (y.address - W) size y.number o w k.few, key-start (y.address - W) size y.number o w k.few))
    where
      go : (a b c d : ℕ) → a ≡ x.address - W → b ≡ x.address - W + size → c ≡ y.address - W → d ≡ y.address - W + size
          → meets a b c d ≡ share_byte x y
      go a b c d p q r s =
          two a d
          (λ h.
          two c b
          (λ i.
          meets-yes a b c d h i
          ∙ sym (meeting-true x y (omega (arith, l.long)) (omega (arith, k.long)) (omega (arith, l.low, k.low, k.long))
          (omega (arith, l.low, k.low, l.long))))
          (λ i. meets-right a b c d i ∙ sym (apart-false x y (inl (omega (arith, l.low, k.low, l.long))))))
          (λ h. meets-left a b c d h ∙ sym (apart-false x y (inr (omega (arith, l.low, k.low, k.long)))))

  any-shares : (x : Element) (ys : List Element) → Lies x → AllLie ys
      → meets_any (start_of (key x)) (end_of (key x)) (keys_of W size ys) ≡ shares_with x ys
  unfolding keys_of meets_any shares_with
  any-shares x [] l k = refl
  any-shares x (y ∷ ys) l k = ap₂ ◌||◌ (meets-shares x y l k.0) (any-shares x ys l k.1)

  -- ---- the first that shares a byte with a lower one

  abbrev keyed : Option Element → RustOption ℕ
  keyed none = None
  keyed (some x) = Some (key x)

  meeting-keyed : (lower es : List Element) → AllLie lower → AllLie es
      → meeting_from (keys_of W size lower) (keys_of W size es) ≡ keyed (overlap_from lower es)
  unfolding keys_of meeting_from overlap_from
  meeting-keyed lower [] k l = refl
  meeting-keyed lower (x ∷ xs) k l =
      ap (λ (b : Bool). cond b (Some (key x)) (meeting_from (key x ∷ keys_of W size lower) (keys_of W size xs))) (any-shares x lower l.0 k)
      ∙ go (shares_with x lower) (meeting-keyed (x ∷ lower) xs (l.0, k) l.1)
    where
      go : (b : Bool) → meeting_from (key x ∷ keys_of W size lower) (keys_of W size xs) ≡ keyed (overlap_from (x ∷ lower) xs)
          → cond b (Some (key x)) (meeting_from (key x ∷ keys_of W size lower) (keys_of W size xs))
          ≡ keyed (cond b (some x) (overlap_from (x ∷ lower) xs))
      go true e = refl
      go false e = e

  found-lies : (lower es : List Element) (x : Element) → AllLie es → overlap_from lower es ≡ some x → Lies x
  unfolding overlap_from
  found-lies lower [] x l e = absurdly cc
  found-lies lower (y ∷ ys) x l e = go (shares_with y lower) e (found-lies (y ∷ lower) ys x l.1)
    where
      go : (b : Bool) → cond b (some y) (overlap_from (y ∷ lower) ys) ≡ some x → (overlap_from (y ∷ lower) ys ≡ some x → Lies x) → Lies x
      go true e f = let q : y ≡ x = cc in subst (λ (z : Element). Lies z) q l.0
      go false e f = f e

  -- ---- of a store's elements

  module _ (es : List Element) (s : Seen W L size 0 es) where
    first-keyed : first_meeting (keys_of W size es) ≡ keyed (first_overlap es)
    unfolding keys_of
    first-keyed = meeting-keyed [] es tt (seen-lie 0 es s)

    -- no key: no element
    pub none_shared : is_some (first_meeting (keys_of W size es)) ≡ false → first_overlap es ≡ none
    none_shared q = go (first_overlap es) (ap is_some (sym first-keyed) ∙ q)
      where
        go : (p : Option Element) → is_some (keyed p) ≡ false → p ≡ none
        go none e = refl
        go (some x) e = absurdly cc

    -- and a key names its element
    pub key-names : (k : ℕ) → first_meeting (keys_of W size es) ≡ Some k
        → (x : Element) × (first_overlap es ≡ some x) × (number_of k ≡ x.number) × (W + start_of k ≡ x.address)
        × (x.address + size ≤ W + L)
    key-names k q = go (first_overlap es) refl (sym first-keyed ∙ q)
      where
        go : (p : Option Element) → first_overlap es ≡ p → keyed p ≡ Some k
            → (x : Element) × (first_overlap es ≡ some x) × (number_of k ≡ x.number) × (W + start_of k ≡ x.address)
            × (x.address + size ≤ W + L)
        go none e r = absurdly cc
        go (some x) e r =
            let l = found-lies [] es x (seen-lie 0 es s) e in
            let i : key x ≡ k = cc in (
              x,
              e,
              ap number_of (sym i) ∙ key-number (x.address - W) size x.number o w l.few,
              ap (λ (j : ℕ). W + start_of j) (sym i)
                  ∙ omega (arith, key-start (x.address - W) size x.number o w l.few, l.low),
              l.high,
            )

    -- what a pass over the stretches in order tells
    pub stretches-shared : length es * size ≤ 256
        → not (parted 0 (sorted (joined size (keys_of W size es)))) ≡ is_some (first_meeting (keys_of W size es))
    stretches-shared few =
        parted-keys L size (keys_of W size es) (keys-sized W L size o w 0 es s)
        (subst (λ (z : ℕ). z * size ≤ 256) (sym (length-keys W L size o w es)) few) (stretches-rising W L size o w es s few)
