-- What stretches by ascending start make: separate intervals that cover no other address. Assumes nothing.
use mathlib.Core.Path.{◌≡◌, refl, sym, ap, ap₂, ◌∙◌, subst}
use Prim.Native.Nat.{ℕ, ◌+◌, ◌-◌, ◌≤◌, ◌<◌, max}
use mathlib.Core.Bool.{Bool, false}
use mathlib.Core.List.{List, [], ◌∷◌}
use native.Mathlib.Omega.{arith}
use Rattle.endian.proofs.Order.{two}
use Rattle.stretches.specs.Intervals.{Separate}
use Rattle.stretches.proofs.Covering.{among, or, covered, hull, or_assoc}
use Rattle.stretches.specs.Stretches.{start_of, end_of, bytes_of, merged_from, merged, Rising}
use Rattle.stretches.proofs.Growing.{merged-apart, merged-join}

module _ (L : ℕ) where
  separate-from : (f a b : ℕ) (K : List ℕ) → f ≤ a → a < b → b ≤ L → Rising L a K → Separate L f (merged_from a b K)
  unfolding merged_from merged
  separate-from f a b [] h l m r = (h, omega arith, omega arith, tt)
  separate-from f a b (k ∷ K) h l m r =
      let r0 : a ≤ start_of k = r.0 in
      let r1 : end_of k ≤ L = r.1 in
      two b (start_of k)
      (λ p.
      subst (Separate L f) (sym (merged-apart a b k K p))
      (h, omega arith, omega arith, separate-from (a + (b - a) + 1) (start_of k) (end_of k) K (omega arith) (omega arith) r1 r.2))
      (λ p.
      subst (Separate L f) (sym (merged-join a b k K p))
      (separate-from f a (max b (end_of k)) K h (omega arith) (omega arith) (rising-less (start_of k) a K r0 r.2)))
    where
      rising-less : (p q : ℕ) (K : List ℕ) → q ≤ p → Rising L p K → Rising L q K
      rising-less p q [] h r = tt
      rising-less p q (k ∷ K) h r = let r0 : p ≤ start_of k = r.0 in (omega arith, r.1, r.2)

  pub separate-merged : (K : List ℕ) → Rising L 0 K → Separate L 0 (merged K)
  unfolding merged
  separate-merged [] r = tt
  separate-merged (k ∷ K) r = separate-from 0 (start_of k) (end_of k) K (omega arith) (omega arith) r.1 r.2

-- address x is one of the bytes of a stretch
unfoldable pub some : ℕ → ℕ → List ℕ → Bool
some W x [] = false
some W x (k ∷ K) = or (among (W + start_of k) (bytes_of k) x) (some W x K)

module _ (W L x : ℕ) where
  covered-from : (a b p : ℕ) (K : List ℕ) → a < b → a ≤ p → Rising L p K
      → covered W x (merged_from a b K) ≡ or (among (W + a) (b - a) x) (some W x K)
  unfolding merged_from merged covered some
  covered-from a b p [] l h r = refl
  covered-from a b p (k ∷ K) l h r =
      let s : ℕ = start_of k in
      let n : ℕ = bytes_of k in
      let r0 : p ≤ s = r.0 in
      let v : s + n - s ≡ n = omega arith in
      two b s
      (λ w.
      ap (covered W x) (merged-apart a b k K w)
      ∙ ap (or (among (W + a) (b - a) x))
      (covered-from s (s + n) s K (omega arith) (omega arith) r.2 ∙ ap (λ (z : ℕ). or (among (W + s) z x) (some W x K)) v))
      (λ w.
      let e : a ≡ a - (a - s) = omega arith in
      let f : max b (s + n) - a ≡ b + (s + n - b) - (a - (a - s)) = omega arith in
      ap (covered W x) (merged-join a b k K w)
      ∙ covered-from a (max b (s + n)) s K (omega arith) (omega arith) r.2
      ∙ ap₂ (λ (y z : ℕ). or (among (W + y) z x) (some W x K)) e f
      ∙ ap (λ (t : Bool). or t (some W x K)) (hull W x a b s n l (omega arith) w)
      ∙ or_assoc (among (W + a) (b - a) x) (among (W + s) n x) (some W x K))

  pub covered-merged : (K : List ℕ) → Rising L 0 K → covered W x (merged K) ≡ some W x K
  unfolding covered some merged
  covered-merged [] r = refl
  covered-merged (k ∷ K) r =
      let s : ℕ = start_of k in
      let n : ℕ = bytes_of k in
      let v : s + n - s ≡ n = omega arith in
      covered-from s (s + n) s K (omega arith) (omega arith) r.2 ∙ ap (λ (z : ℕ). or (among (W + s) z x) (some W x K)) v
