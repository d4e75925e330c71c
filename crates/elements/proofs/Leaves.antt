-- A counter's lowest set bit, and its count by a mask. Assumes nothing.
use Rattle.std.proofs.Common.{◌≡◌, ℕ, ◌+◌, ◌-◌, ◌*◌, ◌/◌, ◌%◌, ◌^◌, Bool, true, false, cond, eqb, ap, ◌∙◌, ap₂, pow-suc, add-one, arith}
use lib.Bits.{bit_and, and_mask}
use Rattle.elements.specs.Counter.{lowest_set, highest, count_in}

-- what holds at each of the four bits holds at a counter's lowest set bit
pub at-lowest : (P : ℕ → Type 0) → P 0 → P 1 → P 2 → P 3 → (v : ℕ) → P (lowest_set v)
unfolding lowest_set
at-lowest P p q r s v = go (eqb (v % 2) 1) (eqb (v % 4) 2) (eqb (v % 8) 4)
  where
    go : (a b d : Bool) → P (cond a 0 (cond b 1 (cond d 2 3)))
    go true b d = p
    go false true d = q
    go false false true = r
    go false false false = s

pub twice : (k : ℕ) → 2 ^ (k + 1) ≡ 2 ^ k * 2
twice k = ap (λ (n : ℕ). 2 ^ n) (add-one k) ∙ pow-suc 2 k

-- a mask takes the bits up to the highest
pub counted_is : (vb v s m : ℕ) → 4 * vb ≡ 2 ^ highest vb → s ≡ lowest_set v → m ≡ 8 * vb - 1 → bit_and v m / 2 ^ (s + 1) ≡ count_in vb v
unfolding count_in
counted_is vb v s m w e q =
    let o : m ≡ 2 ^ (highest vb + 1) - 1 = omega (arith, twice (highest vb)) in
    ap₂ (λ (x k : ℕ). x / 2 ^ (k + 1)) (ap (bit_and v) o ∙ and_mask v (highest vb + 1)) e
