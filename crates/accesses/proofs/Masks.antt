-- Elements under a counter, at a distance of 2^g bytes that is no smaller than the counter's unit: those of n whose mask bits are set are
-- those from `low_of` up to `high_of`. Assumes nothing.
use mathlib.Core.Path.{◌≡◌, sym, ap, ap₂, ◌∙◌}
use mathlib.Core.Bool.{Bool, true, false, not, cond, ◌&&◌, and-false}
use Prim.Native.Nat.{ℕ, suc, ◌+◌, ◌-◌, ◌*◌, ◌/◌, ◌%◌, ◌^◌, ◌≤◌, ◌<◌}
use native.Mathlib.Nat.{suc-mul, mul_assoc, mul-le-mul_right, mul-mod_left, mul-div_cancel, le-div_iff_mul-le, div-lt_iff_lt-mul}
use native.Mathlib.Omega.{arith}
use lib.Dec.{eqb, ltb, leb}
use lib.Pow.{pow_pos, pow-add}
use borrow.Author.Tests.{eq-eqb, ne_eqb, lt-ltb, le-ltb, lt-leb, le-leb}
use Rattle.endian.proofs.Order.{two}
use Rattle.elements.specs.Counter.{lowest_set, unit_of, count_in, mask_bit}
use Rattle.elements.specs.Accesses.{spacing, border_of, low_of, high_of}

-- one power of 2 is a multiple of a lower one
pub multiple : (i j : ℕ) → i ≤ j → 2 ^ j ≡ 2 ^ (j - i) * 2 ^ i
multiple i j h = let w : j ≡ (j - i) + i = omega arith in ap (λ (k : ℕ). 2 ^ k) w ∙ pow-add 2 (j - i) i

-- the k-th mask bit that can be set is below the count exactly when k is below the border
module _ (vb v g k : ℕ) (h : lowest_set v ≤ g) where
  abbrev units : ℕ
  units = 2 ^ (g - lowest_set v)

  in-units : k * 2 ^ g ≡ k * units * unit_of v
  in-units = ap (λ (n : ℕ). k * n) (multiple (lowest_set v) g h) ∙ sym (mul_assoc k units (unit_of v))

  pub whole : k * 2 ^ g % unit_of v ≡ 0
  whole = ap (λ (n : ℕ). n % unit_of v) in-units ∙ mul-mod_left (k * units) (unit_of v)

  quotient : k * 2 ^ g / unit_of v ≡ k * units
  quotient = ap (λ (n : ℕ). n / unit_of v) in-units ∙ mul-div_cancel (k * units) (pow_pos (lowest_set v))

  before-border : k * 2 ^ g / unit_of v < count_in vb v → k < border_of vb v g
  unfolding border_of
  before-border l =
      let m : suc (k * units) ≤ count_in vb v = omega (arith, quotient) in
      let b = mul-le-mul_right (unit_of v) m in
      (le-div_iff_mul-le (pow_pos g)).1
      (omega (arith, suc-mul k (2 ^ g), suc-mul (k * units) (unit_of v), in-units, pow_pos (lowest_set v), pow_pos g))

  from-border : count_in vb v ≤ k * 2 ^ g / unit_of v → border_of vb v g ≤ k
  unfolding border_of
  from-border l =
      let m : count_in vb v ≤ k * units = omega (arith, quotient) in
      let b = mul-le-mul_right (unit_of v) m in
      let u : (count_in vb v * unit_of v + (2 ^ g - 1)) / 2 ^ g < suc k =
      (div-lt_iff_lt-mul (pow_pos g)).1 (omega (arith, suc-mul k (2 ^ g), in-units, pow_pos g)) in
      omega arith

module _ (vb v g n : ℕ) where
  -- the border, or n where that is lower
  abbrev border : ℕ
  border = border_of vb v g - (border_of vb v g - n)

  pub range-order : low_of v (border_of vb v g) n ≤ high_of v (border_of vb v g) n
  unfolding low_of high_of
  range-order = go (eqb (v % 16) 0) (ltb v (2 ^ 15))
    where
      go : (a b : Bool) → cond a 0 (cond b 0 border) ≤ cond a 0 (cond b border n)
      go true b = omega arith
      go false true = omega arith
      go false false = omega arith

  pub range-most : high_of v (border_of vb v g) n ≤ n
  unfolding high_of
  range-most = go (eqb (v % 16) 0) (ltb v (2 ^ 15))
    where
      go : (a b : Bool) → cond a 0 (cond b border n) ≤ n
      go true b = omega arith
      go false true = omega arith
      go false false = omega arith

  -- the k-th mask bit, by which of the two ends is the border
  module _ (w : lowest_set v ≤ g) (k : ℕ) (h : k < n) where
    abbrev unit : ℕ
    unit = k * 2 ^ g / unit_of v

    is_whole : eqb (k * 2 ^ g % unit_of v) 0 ≡ true
    is_whole = eq-eqb (k * 2 ^ g % unit_of v) 0 (whole vb v g k w)

    up : leb 0 k && ltb k border ≡ eqb (k * 2 ^ g % unit_of v) 0 && ltb unit (count_in vb v)
    up =
        two unit (count_in vb v)
        (λ l.
        let b = before-border vb v g k w l in
        ap₂ ◌&&◌ (le-leb 0 k (omega arith)) (lt-ltb k border (omega arith)) ∙ sym (ap₂ ◌&&◌ is_whole (lt-ltb unit (count_in vb v) l)))
        (λ l.
        let b = from-border vb v g k w l in
        ap₂ ◌&&◌ (le-leb 0 k (omega arith)) (le-ltb k border (omega arith)) ∙ sym (ap₂ ◌&&◌ is_whole (le-ltb unit (count_in vb v) l)))

    down : leb border k && ltb k n ≡ eqb (k * 2 ^ g % unit_of v) 0 && leb (count_in vb v) unit
    down =
        two unit (count_in vb v)
        (λ l.
        let b = before-border vb v g k w l in
        ap₂ ◌&&◌ (lt-leb border k (omega arith)) (lt-ltb k n h) ∙ sym (ap₂ ◌&&◌ is_whole (lt-leb (count_in vb v) unit l)))
        (λ l.
        let b = from-border vb v g k w l in
        ap₂ ◌&&◌ (le-leb border k (omega arith)) (lt-ltb k n h) ∙ sym (ap₂ ◌&&◌ is_whole (le-leb (count_in vb v) unit l)))

    pub range-is : leb (low_of v (border_of vb v g) n) k && ltb k (high_of v (border_of vb v g) n) ≡ mask_bit vb v (k * 2 ^ g)
    unfolding low_of high_of mask_bit
    range-is = go (eqb (v % 16) 0) (ltb v (2 ^ 15))
      where
        go : (a b : Bool)
            → leb (cond a 0 (cond b 0 border)) k && ltb k (cond a 0 (cond b border n))
            ≡ not a && (eqb (k * 2 ^ g % unit_of v) 0 && cond b (ltb unit (count_in vb v)) (leb (count_in vb v) unit))
        go true b = ap₂ ◌&&◌ (le-leb 0 k (omega arith)) (le-ltb k 0 (omega arith))
        go false true = up
        go false false = down

-- an element of 2^x bytes between the distances isn't active: the distance is then the counter's unit
pub mask-off : (vb v x e : ℕ) → (e * 2 ^ x % 2 ^ spacing x v ≡ 0 → ⊥) → mask_bit vb v (e * 2 ^ x) ≡ false
unfolding mask_bit
mask-off vb v x e f =
    two x (lowest_set v)
    (λ l.
    let w : spacing x v ≡ lowest_set v = omega arith in
    let i = e * 2 ^ x in
    let r = cond (ltb v (2 ^ 15)) (ltb (i / unit_of v) (count_in vb v)) (leb (count_in vb v) (i / unit_of v)) in
    let o : eqb (i % unit_of v) 0 ≡ false = ne_eqb (i % unit_of v) 0 (λ q. f (ap (λ (n : ℕ). i % 2 ^ n) w ∙ q)) in
    ap (λ (b : Bool). not (eqb (v % 16) 0) && (b && r)) o ∙ and-false (not (eqb (v % 16) 0)))
    (λ l.
    let w : spacing x v ≡ x = omega arith in
    absurd (f (ap (λ (n : ℕ). e * 2 ^ x % 2 ^ n) w ∙ mul-mod_left e (2 ^ x))))
