-- Stretches that make one run. Assumes nothing.
use mathlib.Core.Path.{◌≡◌, refl, sym, ap, ap₂, ◌∙◌}
use Prim.Native.Nat.{ℕ, ◌-◌, ◌/◌, ◌≤◌, ◌<◌, max}
use mathlib.Core.List.{List, [], ◌∷◌, ◌++◌}
use Rattle.std.proofs.Common.{append_assoc}
use native.Mathlib.Omega.{arith}
use lib.ListN.{length}
use borrow.Author.Tests.{lt-ltb, le-ltb}
use Rattle.std.proofs.lemmas.List.{nil_from_length}
use Rattle.stretches.specs.Intervals.{interval}
use Rattle.stretches.specs.Stretches.{start_of, end_of, merged_from, merged, Grew}

-- ---- the two ways of a step

module _ (a b k : ℕ) (K : List ℕ) where
  pub merged-apart : b < start_of k → merged_from a b (k ∷ K) ≡ interval a (b - a) ∷ merged (k ∷ K)
  unfolding merged merged_from
  merged-apart h = simp (lt-ltb b (k / 65536) h)

  pub merged-join : start_of k ≤ b → merged_from a b (k ∷ K) ≡ merged_from a (max b (end_of k)) K
  unfolding merged_from
  merged-join h = simp (le-ltb b (k / 65536) h)

-- ---- the run that the first of the stretches starts, grown by those in front of `rest`

pub record Growing (S : List ℕ) (start end : ℕ) (rest : List ℕ) : Type 0 where
  pub taken : List ℕ
  pub left : S ≡ taken ++ rest
  pub fewer : length rest < length S
  pub some : start < end
  pub small : end < 65793
  pub same : merged S ≡ merged_from start end rest

pub growing-first : (k : ℕ) (K : List ℕ) (a e : ℕ) → a ≡ start_of k → (e ≡ end_of k) × (e < 65793) → Growing (k ∷ K) a e K
unfolding merged
growing-first k K a e qa q =
    let q0 : e ≡ end_of k = q.0 in
    record { taken = k ∷ []; left = refl; fewer = omega arith; some = omega arith; small = q.1; same = ap₂ (λ (y z : ℕ). merged_from y z K) (sym qa) (sym q0) }

module _ {S : List ℕ} {a end : ℕ} {rest : List ℕ} (g : Growing S a end rest) where
  -- what is left stays as it is
  ended : merged_from a end rest ≡ interval a (end - a) ∷ merged rest → Grew S a end rest
  ended e = record { taken = g.taken; left = g.left; fewer = g.fewer; some = g.some; small = g.small; same = g.same ∙ e }

  pub growing-done : length rest ≡ 0 → Grew S a end rest
  unfolding merged merged_from
  growing-done h =
      let e = nil_from_length rest h in
      ended (ap (merged_from a end) e ∙ ap (λ (K : List ℕ). interval a (end - a) ∷ merged K) (sym e))

  module _ {k : ℕ} {K : List ℕ} (r : rest ≡ k ∷ K) where
    pub growing-more : (end' : ℕ) → start_of k ≤ end → end' ≡ max end (end_of k) → end_of k < 65793 → Growing S a end' K
    growing-more end' c w l =
        record {
          taken = g.taken ++ k ∷ [];
          left = g.left ∙ ap (λ (X : List ℕ). g.taken ++ X) r ∙ sym (append_assoc g.taken (k ∷ []) K);
          fewer = omega (arith, g.fewer, ap length r);
          some = omega (arith, g.some);
          small = omega (arith, g.small);
          same = g.same ∙ ap (merged_from a end) r ∙ merged-join a end k K c ∙ ap (λ (z : ℕ). merged_from a z K) (sym w);
        }

    pub growing-apart : end < start_of k → Grew S a end rest
    growing-apart c =
        ended
        (ap (merged_from a end) r ∙ merged-apart a end k K c ∙ ap (λ (X : List ℕ). interval a (end - a) ∷ merged X) (sym r))
