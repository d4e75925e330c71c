-- The loops over stretches and keys. Assumes nothing.
use mathlib.Core.Path.{◌≡◌, refl, sym, ap, ◌∙◌}
use Prim.Native.Nat.{ℕ, suc, ◌+◌, ◌/◌, ◌≤◌, ◌<◌}
use mathlib.Core.Bool.{Bool, true, false, cond, ◌||◌}
use mathlib.Core.List.{List, [], ◌∷◌, reverse}
use native.Mathlib.Omega.{arith}
use borrow.Author.Tests.{lt-ltb, le-ltb}
use lib.ListN.{length, get_or, take, drop}
use Rattle.std.specs.Prelude.{Some, None, SomeIndex}
use Rattle.std.proofs.lemmas.List.{take_more, drop_more, reverse-append}
use Rattle.std.proofs.lemmas.List.Folds.{list_any_at}
use Rattle.std.proofs.lemmas.List.Sorted.{list_any-IsPermutation, IsPermutation-reverse}
use Rattle.endian.proofs.Order.{absurdly}
use Rattle.stretches.specs.Stretches.{start_of, end_of}
use Rattle.overlapping.specs.Overlaps.{parted, meets, meets_any, meeting_from}

-- ---- stretches: those of `rest` are left, and have to start from `end` on

module _ (end k : ℕ) (K : List ℕ) where
  pub parted-on : end ≤ start_of k → parted end (k ∷ K) ≡ parted (end_of k) K
  unfolding parted
  parted-on h = simp (le-ltb (k / 65536) end h)

  pub parted-off : start_of k < end → parted end (k ∷ K) ≡ false
  unfolding parted
  parted-off h = simp (lt-ltb (k / 65536) end h)

pub parted-end : (end : ℕ) (K : List ℕ) → K ≡ [] → parted end K ≡ true
unfolding parted
parted-end end K e = ap (parted end) e

-- ---- one of the keys meets from a up to b, told by index

module _ (a b : ℕ) where
  abbrev At : List ℕ → ℕ → Type 0
  At K i = meets a b (start_of (get_or K i 0)) (end_of (get_or K i 0)) ≡ true

  any-index : (K : List ℕ) → meets_any a b K ≡ true → SomeIndex K (At K)
  unfolding meets_any
  any-index (k ∷ K) e = go (meets a b (start_of k) (end_of k)) refl e (any-index K)
    where
      go : (c : Bool) → meets a b (start_of k) (end_of k) ≡ c → c || meets_any a b K ≡ true → (meets_any a b K ≡ true → SomeIndex K (At K))
          → SomeIndex (k ∷ K) (At (k ∷ K))
      go true m e f = (0, omega arith, m)
      go false m e f = let i = f e in (suc i.0, omega (arith, i.1), i.2)
  any-index [] e = absurdly cc

  pub told-any : (K : List ℕ) (c : Bool) → (c ≡ true → SomeIndex K (At K)) → (SomeIndex K (At K) → c ≡ true) → c ≡ meets_any a b K
  unfolding meets_any
  told-any K true f g =
      let i = f refl in sym (list_any_at (λ k. meets a b (start_of k) (end_of k)) K i.0 0 i.1 i.2)
  told-any K false f g = go (meets_any a b K) refl
    where
      go : (t : Bool) → meets_any a b K ≡ t → false ≡ meets_any a b K
      go true e = let q = g (any-index K e) in absurdly cc
      go false e = sym e

  any-reverse : (K : List ℕ) → meets_any a b (reverse K) ≡ meets_any a b K
  unfolding meets_any
  any-reverse K = sym (list_any-IsPermutation (λ k. meets a b (start_of k) (end_of k)) K (reverse K) (IsPermutation-reverse K))

-- ---- keys: the first e are lower than those that are left

module _ (K : List ℕ) (e : ℕ) (h : e < length K) where
  abbrev k : ℕ
  k = get_or K e 0

  abbrev lower : List ℕ
  lower = reverse (take e K)

  abbrev left : List ℕ
  left = drop (e + 1) K

  step : (b : Bool) → meets_any (start_of k) (end_of k) (take e K) ≡ b
      → meeting_from lower (drop e K) ≡ cond b (Some k) (meeting_from (k ∷ lower) left)
  unfolding meeting_from
  step b q =
      ap (meeting_from lower) (drop_more K e 0 h)
      ∙ ap (λ (c : Bool). cond c (Some k) (meeting_from (k ∷ lower) left)) (any-reverse (start_of k) (end_of k) (take e K) ∙ q)

  pub meeting-on : meets_any (start_of k) (end_of k) (take e K) ≡ false
      → meeting_from (reverse (take (e + 1) K)) left ≡ meeting_from lower (drop e K)
  meeting-on q =
      ap (λ (X : List ℕ). meeting_from X left) (ap reverse (take_more K e 0 h) ∙ reverse-append (take e K) (k ∷ []))
      ∙ sym (step false q)

  pub meeting-met : meets_any (start_of k) (end_of k) (take e K) ≡ true → meeting_from lower (drop e K) ≡ Some k
  meeting-met q = step true q

pub meeting-none : (lower K : List ℕ) → K ≡ [] → meeting_from lower K ≡ None
unfolding meeting_from
meeting-none lower K e = ap (meeting_from lower) e
