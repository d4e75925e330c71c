-- Which of a counter's bits its count takes: document 02 (iii). Assumes nothing.
use Rattle.std.specs.Prelude.{◌≡◌, ℕ, ◌+◌, ◌*◌, ◌/◌, ◌%◌, ◌^◌, ◌<◌, ◌≤◌}
use Rattle.elements.specs.Counter.{highest, mask_bit}

pub record HighestBit : Type 0 where
  -- "bit log2(4·VB) as the count's highest", rounded up: 4·VB is at most that power of two, and above those before it
  pub reaches : (vb : ℕ) → 4 * vb ≤ 2 ^ highest vb
  pub least : (vb i : ℕ) → i < highest vb → 2 ^ i < 4 * vb
  -- where VB is a power of two, there is nothing to round
  pub power : (k : ℕ) → highest (2 ^ k) ≡ k + 2
  -- "which is bit 6 at VB 16 and bit 10 at VB 256"
  pub shortest : highest 16 ≡ 6
  pub longest : highest 256 ≡ 10
  -- "the bits above it up to 14 are ignored": counters with the same bits up to it, and the same bit 15, have the same mask
  pub ignored : (vb v w i : ℕ) → 16 ≤ vb → v % 2 ^ (highest vb + 1) ≡ w % 2 ^ (highest vb + 1) → v / 2 ^ 15 ≡ w / 2 ^ 15
      → mask_bit vb v i ≡ mask_bit vb w i
