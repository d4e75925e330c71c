-- The patch's length: a bound, and run by run. Assumes nothing.
use mathlib.Core.Path.{◌≡◌, ap}
use Prim.Native.Nat.{ℕ, ◌+◌, ◌-◌, ◌*◌, ◌≤◌, max}
use mathlib.Core.Bool.{true}
use mathlib.Core.List.{List, [], ◌∷◌}
use native.Mathlib.Omega.{arith}
use lib.Dec.{leb}
use lib.ListN.{length}
use borrow.Author.Tests.{le-leb}
use Rattle.std.proofs.lemmas.List.{nil_from_length}
use Rattle.endian.proofs.Order.{two}
use Rattle.stretches.specs.Intervals.{total}
use Rattle.stretches.specs.Stretches.{start_of, end_of, merged_from, merged, sum, Grew}
use Rattle.stretches.proofs.Growing.{merged-apart, merged-join}

-- ---- at most a head for each stretch, and the bytes of all

most-from : (a b : ℕ) (K : List ℕ) → a ≤ b → total (merged_from a b K) ≤ 12 + (b - a) + (12 * length K + sum K)
unfolding merged_from merged total sum
most-from a b [] h = omega arith
most-from a b (k ∷ K) h =
    two b (start_of k)
    (λ w. omega (arith, ap total (merged-apart a b k K w), most-from (start_of k) (end_of k) K (omega arith)))
    (λ w. omega (arith, ap total (merged-join a b k K w), most-from a (max b (end_of k)) K (omega arith)))

merged-most : (K : List ℕ) → total (merged K) ≤ 12 * length K + sum K
unfolding merged total sum
merged-most [] = omega arith
merged-most (k ∷ K) = omega (arith, most-from (start_of k) (end_of k) K (omega arith))

pub room-enough : (S : List ℕ) (bytes room : ℕ) → sum S ≤ bytes → length S * 12 + bytes + 4 ≤ room → leb (total (merged S) + 4) room ≡ true
room-enough S bytes room h r = le-leb (total (merged S) + 4) room (omega (arith, merged-most S))

-- ---- run by run: those of the stretches that are left are to come

pub record Measuring (S : List ℕ) (to : ℕ) (left : List ℕ) : Type 0 where
  pub small : to + length left * 65805 ≤ length S * 65805
  pub same : to + total (merged left) ≡ total (merged S)

pub measuring-next : {S left K rest : List ℕ} {k to start end : ℕ} → Measuring S to left → left ≡ k ∷ K → Grew (k ∷ K) start end rest
    → Measuring S (to + (12 + (end - start))) rest
unfolding total
measuring-next m r g =
    record {
      small = omega (arith, m.small, g.fewer, g.small, ap length r);
      same = omega (arith, m.same, ap (λ (X : List ℕ). total (merged X)) r, ap total g.same);
    }

pub measuring-done : {S left : List ℕ} {to : ℕ} → Measuring S to left → length left ≡ 0 → to ≡ total (merged S)
unfolding merged total
measuring-done {left = left} m h = omega (arith, m.same, ap (λ (K : List ℕ). total (merged K)) (nil_from_length left h))
