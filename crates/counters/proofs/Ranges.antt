-- Elements under a counter: the border, and the two ends of the range of those that are active. Assumes nothing.
use mathlib.Core.Path.{◌≡◌, ap, ap₂, ◌∙◌}
use Prim.Native.Nat.{ℕ, ◌+◌, ◌-◌, ◌*◌, ◌/◌, ◌%◌, ◌^◌, ◌≤◌, ◌<◌}
use native.Mathlib.Nat.{mod-lt}
use native.Mathlib.Omega.{arith}
use lib.Pow.{pow_pos, pow_mono}
use Rattle.elements.specs.Counter.{lowest_set, unit_of, highest, count_in}
use Rattle.elements.specs.Accesses.{border_of, low_of, high_of, range_of}
use Rattle.elements.specs.declared.Range.{Range}
use Rattle.elements.proofs.Leaves.{at-lowest, twice}

-- ---- the border

-- a count in units is below 2^15
count_small : (vb v : ℕ) → 4 * vb ≡ 2 ^ highest vb → vb ≤ 256 → count_in vb v * unit_of v < 2 ^ 15
unfolding count_in
count_small vb v w h =
    let l : v % 2 ^ (highest vb + 1) < 2 ^ 15 = omega (arith, twice (highest vb), mod-lt v (pow_pos (highest vb + 1))) in
    at-lowest (λ (s : ℕ). v % 2 ^ (highest vb + 1) / 2 ^ (s + 1) * 2 ^ s < 2 ^ 15)
    (omega arith) (omega arith) (omega arith) (omega arith) v

-- what was counted and scaled, in gaps, rounded up
pub border-is : (vb v g s k y : ℕ) → 4 * vb ≡ 2 ^ highest vb → vb ≤ 256 → s ≡ lowest_set v → k ≡ count_in vb v → y ≡ (k * 2 ^ s) % 2 ^ 64
    → ((y + (2 ^ g - 1)) / 2 ^ g ≡ border_of vb v g) × (y < 2 ^ 15)
unfolding border_of
border-is vb v g s k y w h p q r =
    let e : k * 2 ^ s ≡ count_in vb v * unit_of v = ap₂ (λ (a b : ℕ). a * 2 ^ b) q p in
    let l : y ≡ count_in vb v * unit_of v = omega (arith, count_small vb v w h) in
    (ap (λ (a : ℕ). (a + (2 ^ g - 1)) / 2 ^ g) l, omega (arith, count_small vb v w h))

-- 2^g, for a g below 4
pub power_small : (g : ℕ) → g < 4 → (1 ≤ 2 ^ g) × (2 ^ g ≤ 8)
power_small g h = let l : g ≤ 3 = omega arith in (pow_pos g, pow_mono l)

-- ---- together

pub range-is : (vb v g n b k l h : ℕ) → b ≡ border_of vb v g → k ≡ 2 ^ g → l ≡ low_of v b (n * (vb / 2 ^ g)) → h ≡ high_of v b (n * (vb / 2 ^ g))
    → ◌≡◌ {A = Range} (record { low = l; high = h; gap = k; per = vb / 2 ^ g }) (range_of vb v g n)
unfolding range_of
range-is vb v g n b k l h e q el eh =
    let low = el ∙ ap (λ (x : ℕ). low_of v x (n * (vb / 2 ^ g))) e in
    let high = eh ∙ ap (λ (x : ℕ). high_of v x (n * (vb / 2 ^ g))) e in
    λ i. record { low = low i; high = high i; gap = q i; per = vb / 2 ^ g }
