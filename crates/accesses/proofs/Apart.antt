-- Elements whose addresses lie at least as far from each other as they are long: no two share a byte. Assumes nothing.
use mathlib.Core.Path.{◌≡◌}
use mathlib.Core.Bool.{Bool, true, false, cond}
use mathlib.Core.List.{List, ◌∷◌}
use mathlib.Core.Logic.{◌⊎◌, inl, inr, ⊎_elim}
use mathlib.Core.Option.{none}
use Prim.Native.Nat.{ℕ, zero, suc, ◌+◌, ◌-◌, ◌*◌, ◌/◌, ◌%◌, ◌^◌, ◌≤◌, ◌<◌}
use native.Mathlib.Nat.{suc-mul, mul-le-mul, mul-le-mul_right, mul_assoc}
use native.Mathlib.Omega.{arith}
use lib.ListN.{length, drop, length-take}
use Rattle.endian.proofs.Order.{two}
use Rattle.writes.specs.Elements.{Element, first_overlap}
use Rattle.writes.proofs.Sharing.{Apart, ApartFrom, EachApart, apart-no-overlap}
use Rattle.elements.specs.Machine.{register}
use Rattle.elements.specs.Elements.{actives}
use Rattle.elements.specs.Accesses.{StridedSound, between, strided_address, strided_element, strided_elements}
use Rattle.elements.specs.declared.StridedAccess.{StridedAccess}

-- ---- two addresses by their numbers

-- the i-th and the j-th of addresses `gap` apart, modulo 2^64, none of them round the whole address space
pub gap-apart : (start gap size i j : ℕ) → size ≤ gap → i < j → (j + 1) * gap ≤ 2 ^ 64
    → ((start + i * gap) % 2 ^ 64 + size ≤ (start + j * gap) % 2 ^ 64) ⊎ ((start + j * gap) % 2 ^ 64 + size ≤ (start + i * gap) % 2 ^ 64)
gap-apart start gap size i j w h top =
    let f : suc i * gap ≤ j * gap = mul-le-mul_right gap h in
    around (start + i * gap) (j * gap - i * gap) (start + j * gap) (omega (arith, suc-mul i gap)) (omega (arith, suc-mul i gap))
    (omega (arith, suc-mul j gap, suc-mul i gap))
  where
    around : (x d y : ℕ) → y ≡ x + d → size ≤ d → d + size ≤ 2 ^ 64 → (x % 2 ^ 64 + size ≤ y % 2 ^ 64) ⊎ (y % 2 ^ 64 + size ≤ x % 2 ^ 64)
    around x d y e l m = two (x % 2 ^ 64 + d) (2 ^ 64) (λ k. inl (omega arith)) (λ k. inr (omega arith))

-- ---- the active ones

module _ (on : ℕ → Bool) (el : ℕ → Element) where
  apart_from : (x : Element) (n e : ℕ) → ((j : ℕ) → e ≤ j → j < e + n → Apart x (el j)) → ApartFrom x (actives on el n e)
  unfolding actives
  apart_from x zero e f = tt
  apart_from x (suc n) e f = go (on e) (apart_from x n (suc e) (λ j a b. f j (omega arith) (omega arith)))
    where
      go : (b : Bool) → ApartFrom x (actives on el n (suc e))
          → ApartFrom x (cond b (el e ∷ actives on el n (suc e)) (actives on el n (suc e)))
      go true r = (f e (omega arith) (omega arith), r)
      go false r = r

  pub actives-apart : (n e : ℕ) → ((i j : ℕ) → e ≤ i → i < j → j < e + n → Apart (el i) (el j)) → EachApart (actives on el n e)
  unfolding actives
  actives-apart zero e f = tt
  actives-apart (suc n) e f =
      go (on e) (apart_from (el e) n (suc e) (λ j a b. f e j (omega arith) (omega arith) (omega arith)))
      (actives-apart n (suc e) (λ i j a b d. f i j (omega arith) b (omega arith)))
    where
      go : (b : Bool) → ApartFrom (el e) (actives on el n (suc e)) → EachApart (actives on el n (suc e))
          → EachApart (cond b (el e ∷ actives on el n (suc e)) (actives on el n (suc e)))
      go true a r = (a, r)
      go false a r = r

-- ---- strided stores

module _ (s : StridedAccess) (vb : ℕ) (o : StridedSound s vb) (z : List ℕ) where
  short : (i : ℕ) → length (strided_element s vb z i).bytes ≤ s.size
  unfolding strided_element
  short i = omega (arith, length-take s.size (drop (i % s.per * s.gap) (register vb z (s.first + i / s.per * s.stride))))

  -- the last ends within 1,024 bytes of the first's start
  far : (j : ℕ) → j < s.nreg * s.per → (j + 1) * s.gap ≤ 1024
  far j h =
      let h' : j + 1 ≤ s.nreg * s.per = omega arith in
      let k : s.per * s.gap ≤ 256 = omega (arith, o.whole, o.high) in
      let b : s.nreg * (s.per * s.gap) ≤ 4 * 256 = mul-le-mul o.nreg k in
      omega (arith, mul-le-mul_right s.gap h', b, mul_assoc s.nreg s.per s.gap)

  strided-two : (i j : ℕ) → i < j → j < s.nreg * s.per → Apart (strided_element s vb z i) (strided_element s vb z j)
  unfolding strided_element strided_address
  strided-two i j h k =
      ⊎_elim (λ l. inl (omega (arith, l, short i))) (λ l. inr (omega (arith, l, short j)))
      (gap-apart s.start s.gap s.size i j o.size h (omega (arith, far j k)))

  pub strided-apart : EachApart (strided_elements s vb z)
  unfolding strided_elements
  strided-apart =
      actives-apart (between s) (strided_element s vb z) (s.nreg * s.per) 0 (λ i j a b c. strided-two i j b (omega arith))

  pub strided-no-overlap : first_overlap (strided_elements s vb z) ≡ none
  strided-no-overlap = apart-no-overlap (strided_elements s vb z) strided-apart
