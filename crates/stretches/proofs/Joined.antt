-- What joined keys keep: the addresses, the bytes, the window. Assumes nothing.
use mathlib.Core.Path.{◌≡◌, refl, sym, ap, ap₂, ◌∙◌, subst}
use Prim.Native.Nat.{ℕ, ◌+◌, ◌-◌, ◌*◌, ◌≤◌}
use mathlib.Core.Bool.{Bool}
use mathlib.Core.List.{List, [], ◌∷◌}
use native.Mathlib.Omega.{arith}
use lib.ListN.{length}
use Rattle.endian.proofs.Order.{two}
use Rattle.ordering.specs.Keys.{filed, sorted, Each}
use Rattle.ordering.proofs.Sorting.{Asc, filed-past, filed-here, sorted-each, sorted_asc}
use Rattle.stretches.proofs.Covering.{among, or, hull, or_assoc, or_swap}
use Rattle.stretches.specs.Stretches.{start_of, bytes_of, end_of, joined_from, joined, sum, Rising}
use Rattle.stretches.proofs.Merging.{some}
use Rattle.stretches.proofs.Joining.{grown-start, grown-bytes, joined-on, joined-new, same_or, Open, open-first, open-on, open-new, small, count-next}

-- ---- the bytes of all

module _ (size : ℕ) where
  sum-from : (s last : ℕ) (K : List ℕ) → Open size s last K → sum (joined_from size s last K) ≡ bytes_of s + length K * size
  unfolding joined_from sum
  sum-from s last [] o = omega arith
  sum-from s last (k ∷ K) o =
      let e0 : bytes_of k ≡ size = o.each.0 in
      same_or (start_of last + size) (start_of k)
      (λ h.
      omega (
        arith,
        ap sum (joined-on size s last k K h),
        sum-from (s + size * 256) k K (open-on size k K s last o h),
        grown-bytes s size (small size k K s last o),
        count-next size k K,
      ))
      (λ h. omega (arith, ap sum (joined-new size s last k K h), sum-from k k K (open-new size k K s last o), count-next size k K))

  pub sum-joined : (K : List ℕ) → Each (λ k. bytes_of k ≡ size) K → length K * size ≤ 256 → sum (joined size K) ≡ length K * size
  unfolding joined sum
  sum-joined [] e h = omega arith
  sum-joined (k ∷ K) e h =
      let e0 : bytes_of k ≡ size = e.0 in
      omega (arith, sum-from k k K (open-first size k K e.0 e.1 h), count-next size k K)

-- ---- the window

module _ (size L : ℕ) where
  inside-from : (s last : ℕ) (K : List ℕ) → Open size s last K → end_of s ≤ L → Each (λ k. end_of k ≤ L) K
      → Each (λ k. end_of k ≤ L) (joined_from size s last K)
  unfolding joined_from
  inside-from s last [] o h e = (h, tt)
  inside-from s last (k ∷ K) o h e =
      let e0 : bytes_of k ≡ size = o.each.0 in
      let i : end_of k ≤ L = e.0 in
      same_or (start_of last + size) (start_of k)
      (λ q.
      subst (Each (λ k. end_of k ≤ L)) (sym (joined-on size s last k K q))
      (inside-from (s + size * 256) k K (open-on size k K s last o q) (omega (arith, (open-on size k K s last o q).end)) e.1))
      (λ q. subst (Each (λ k. end_of k ≤ L)) (sym (joined-new size s last k K q))
      (h, inside-from k k K (open-new size k K s last o) i e.1))

  pub inside-joined : (K : List ℕ) → Each (λ k. bytes_of k ≡ size) K → length K * size ≤ 256 → Each (λ k. end_of k ≤ L) K
      → Each (λ k. end_of k ≤ L) (joined size K)
  unfolding joined
  inside-joined [] e h i = tt
  inside-joined (k ∷ K) e h i = inside-from k k K (open-first size k K e.0 e.1 h) i.0 i.1

-- ---- the addresses

append-among : (W x a b n : ℕ) → 1 ≤ b → among (W + a) (b + n) x ≡ or (among (W + a) b x) (among (W + (a + b)) n x)
append-among W x a b n h =
    let e : a + b ≡ a + b = refl in
    let u : a ≡ a - (a - (a + b)) = omega arith in
    let v : b + n ≡ a + b + (a + b + n - (a + b)) - (a - (a - (a + b))) = omega arith in
    let w : a + b - a ≡ b = omega arith in
    ap₂ (λ (y z : ℕ). among (W + y) z x) u v ∙ hull W x a (a + b) (a + b) n (omega arith) (omega arith) (omega arith)
    ∙ ap (λ (z : ℕ). or (among (W + a) z x) (among (W + (a + b)) n x)) w

module _ (W size x : ℕ) where
  some-from : (s last : ℕ) (K : List ℕ) → Open size s last K
      → some W x (joined_from size s last K) ≡ or (among (W + start_of s) (bytes_of s) x) (some W x K)
  unfolding joined_from some
  some-from s last [] o = refl
  some-from s last (k ∷ K) o =
      let e0 : bytes_of k ≡ size = o.each.0 in
      let b : ℕ = bytes_of s in
      same_or (start_of last + size) (start_of k)
      (λ h.
      let s' : ℕ = s + size * 256 in
      let t : start_of s + b ≡ start_of k = omega (arith, o.end) in
      ap (some W x) (joined-on size s last k K h)
      ∙ some-from s' k K (open-on size k K s last o h)
      ∙ ap₂ (λ (y z : ℕ). or (among (W + y) z x) (some W x K)) (grown-start s size (small size k K s last o))
      (grown-bytes s size (small size k K s last o))
      ∙ ap (λ (t : Bool). or t (some W x K)) (append-among W x (start_of s) b size (omega arith))
      ∙ or_assoc (among (W + start_of s) b x) (among (W + (start_of s + b)) size x) (some W x K)
      ∙ ap₂ (λ (y z : ℕ). or (among (W + start_of s) b x) (or (among (W + y) z x) (some W x K))) t (sym e0))
      (λ h.
      ap (some W x) (joined-new size s last k K h) ∙ ap (or (among (W + start_of s) b x)) (some-from k k K (open-new size k K s last o)))

  pub some-joined : (K : List ℕ) → Each (λ k. bytes_of k ≡ size) K → length K * size ≤ 256 → some W x (joined size K) ≡ some W x K
  unfolding joined some
  some-joined [] e h = refl
  some-joined (k ∷ K) e h = some-from k k K (open-first size k K e.0 e.1 h)

-- ---- the order doesn't matter

module _ (W x : ℕ) where
  some-filed : (k : ℕ) (K : List ℕ) → some W x (filed k K) ≡ or (among (W + start_of k) (bytes_of k) x) (some W x K)
  unfolding filed some
  some-filed k [] = refl
  some-filed k (y ∷ K) =
      two y k
      (λ p.
      ap (some W x) (filed-past k y K p) ∙ ap (or (among (W + start_of y) (bytes_of y) x)) (some-filed k K)
      ∙ or_swap (among (W + start_of y) (bytes_of y) x) (among (W + start_of k) (bytes_of k) x) (some W x K))
      (λ p. ap (some W x) (filed-here k y K p))

  pub some-sorted : (K : List ℕ) → some W x (sorted K) ≡ some W x K
  unfolding sorted some
  some-sorted [] = refl
  some-sorted (k ∷ K) = some-filed k (sorted K) ∙ ap (or (among (W + start_of k) (bytes_of k) x)) (some-sorted K)

sum-filed : (k : ℕ) (K : List ℕ) → sum (filed k K) ≡ bytes_of k + sum K
unfolding filed sum
sum-filed k [] = refl
sum-filed k (y ∷ K) =
    two y k (λ p. omega (arith, ap sum (filed-past k y K p), sum-filed k K)) (λ p. ap sum (filed-here k y K p))

pub sum-sorted : (K : List ℕ) → sum (sorted K) ≡ sum K
unfolding sorted sum
sum-sorted [] = refl
sum-sorted (k ∷ K) = sum-filed k (sorted K) ∙ ap (λ (z : ℕ). bytes_of k + z) (sum-sorted K)

rising-up : (L f p : ℕ) (K : List ℕ) → p ≤ start_of f → Each (λ k. end_of k ≤ L) K → Asc f K → Rising L p K
rising-up L f p [] h i u = tt
rising-up L f p (k ∷ K) h i u =
    let u0 : f ≤ k = u.0 in
    (omega arith, i.0, rising-up L k (start_of k) K (omega arith) i.1 u.1)

pub rising-sorted : (L : ℕ) (K : List ℕ) → Each (λ k. end_of k ≤ L) K → Rising L 0 (sorted K)
rising-sorted L K i = rising-up L 0 0 (sorted K) (omega arith) (sorted-each (λ k. end_of k ≤ L) K i) (sorted_asc K)
