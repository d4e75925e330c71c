-- The highest bit of a counter's count, over every vector length. Assumes nothing.
use Rattle.std.proofs.Common.{◌≡◌, ℕ, zero, suc, ◌+◌, ◌-◌, ◌*◌, ◌/◌, ◌%◌, ◌^◌, ◌<◌, ◌≤◌, Bool, cond, not, ◌&&◌, eqb, ltb, leb, sym, ap, ◌∙◌, subst, pow-suc, arith, le→leb, leb→le, pow_mono, pow-add, le-ltb, lt-ltb}
use lib.Pow.{pow-lt, mod-mod-pow}
use Rattle.encoding.proofs.Search.{lowest-at, lowest-holds, lowest-below}
use Rattle.endian.proofs.Order.{two}
use Rattle.elements.specs.Counter.{lowest_set, highest, count_in, mask_bit}
use Rattle.elements.specs.Statements.{HighestBit}

-- ---- the least power of two from 4·VB on

below_power : (n : ℕ) → n < 2 ^ n
below_power zero = omega arith
below_power (suc n) = omega (arith, below_power n, pow-suc 2 n)

pub four-times : (k : ℕ) → 2 ^ (k + 2) ≡ 4 * 2 ^ k
four-times k = omega (arith, pow-add 2 k 2)

module _ (vb : ℕ) where
  abbrev reached : ℕ → Bool
  reached i = leb (4 * vb) (2 ^ i)

  pub highest-reaches : 4 * vb ≤ 2 ^ highest vb
  unfolding highest
  highest-reaches =
      two (highest vb) (vb + 2)
      (λ l. leb→le (4 * vb) (2 ^ highest vb) (lowest-holds reached (vb + 2) l))
      (λ l. omega (arith, four-times vb, below_power vb, pow_mono l))

  pub highest-least : (i : ℕ) → i < highest vb → 2 ^ i < 4 * vb
  unfolding highest
  highest-least i h =
      two (2 ^ i) (4 * vb) (λ l. l) (λ l. absurd (lowest-below reached (vb + 2) i h (le→leb (4 * vb) (2 ^ i) l)))

pub highest-power : (k : ℕ) → highest (2 ^ k) ≡ k + 2
unfolding highest
highest-power k =
    lowest-at (reached (2 ^ k)) (2 ^ k + 2) (k + 2) (omega (arith, below_power k))
    (le→leb (4 * 2 ^ k) (2 ^ (k + 2)) (omega (arith, four-times k)))
    (λ j l t. omega (arith, leb→le (4 * 2 ^ k) (2 ^ j) t, pow-lt l, four-times k))

-- ---- the bits above it

-- what agrees up to a bit agrees up to each lower one
up_to : (v w n k : ℕ) → k ≤ n → v % 2 ^ n ≡ w % 2 ^ n → v % 2 ^ k ≡ w % 2 ^ k
up_to v w n k h q = sym (fewer v) ∙ ap (λ (x : ℕ). x % 2 ^ k) q ∙ fewer w
  where
    fewer : (x : ℕ) → x % 2 ^ n % 2 ^ k ≡ x % 2 ^ k
    fewer x = subst (λ (y : ℕ). x % 2 ^ y % 2 ^ k ≡ x % 2 ^ k) (omega arith) (mod-mod-pow x (n - k) k)

inverted : (v w : ℕ) → v / 2 ^ 15 ≡ w / 2 ^ 15 → ltb v (2 ^ 15) ≡ ltb w (2 ^ 15)
inverted v w q =
    two v (2 ^ 15)
    (λ l. lt-ltb v (2 ^ 15) l ∙ sym (lt-ltb w (2 ^ 15) (omega arith)))
    (λ l. le-ltb v (2 ^ 15) l ∙ sym (le-ltb w (2 ^ 15) (omega arith)))

from-four : (vb : ℕ) → 16 ≤ vb → 4 ≤ highest vb
from-four vb h = two (highest vb) 4 (λ l. omega (arith, highest-reaches vb, pow-lt l)) (λ l. l)

module _ (vb v w : ℕ) (h : 16 ≤ vb) (q : v % 2 ^ (highest vb + 1) ≡ w % 2 ^ (highest vb + 1)) (r : v / 2 ^ 15 ≡ w / 2 ^ 15) where
  low : (k : ℕ) → k ≤ 4 → v % 2 ^ k ≡ w % 2 ^ k
  low k l = up_to v w (highest vb + 1) k (omega (arith, from-four vb h)) q

  lowest-same : lowest_set v ≡ lowest_set w
  unfolding lowest_set
  lowest-same =
      let a : v % 2 ≡ w % 2 = low 1 (omega arith) in
      let b : v % 4 ≡ w % 4 = low 2 (omega arith) in
      let c : v % 8 ≡ w % 8 = low 3 (omega arith) in
      λ i. cond (eqb (a i) 1) 0 (cond (eqb (b i) 2) 1 (cond (eqb (c i) 4) 2 3))

  pub above-ignored : (i : ℕ) → mask_bit vb v i ≡ mask_bit vb w i
  unfolding mask_bit count_in
  above-ignored i =
      let a : v % 16 ≡ w % 16 = low 4 (omega arith) in
      let s = lowest-same in
      let b = inverted v w r in
      λ j.
      not (eqb (a j) 0)
      && (eqb (i % 2 ^ s j) 0 && cond (b j) (ltb (i / 2 ^ s j) (q j / 2 ^ (s j + 1))) (leb (q j / 2 ^ (s j + 1)) (i / 2 ^ s j)))

pub highest-bit : HighestBit
highest-bit =
    record {
      reaches = highest-reaches;
      least = highest-least;
      power = highest-power;
      shortest = highest-power 4;
      longest = highest-power 8;
      ignored = λ vb v w i h q r. above-ignored vb v w h q r i;
    }
