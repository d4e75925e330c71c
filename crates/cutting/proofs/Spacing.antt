-- Intervals that lie apart, one after another. Assumes nothing.
use mathlib.Core.Path.{◌≡◌, sym, ap, ◌∙◌}
use Prim.Native.Nat.{ℕ, zero, suc, ◌+◌, ◌-◌, ◌*◌, ◌≤◌, ◌<◌}
use mathlib.Core.List.{[], ◌∷◌}
use native.Mathlib.Nat.{suc-mul}
use native.Mathlib.Omega.{arith}
use Rattle.stretches.specs.Intervals.{interval, Separate, total}
use Rattle.cutting.specs.Cutting.{spaced}

module _ (gap size : ℕ) where
  pub spaced-next : (p p' n t : ℕ) → t < n → p' ≡ p + gap
      → spaced p gap size (n - t) ≡ interval p size ∷ spaced p' gap size (n - (t + 1))
  unfolding spaced
  spaced-next p p' n t h e =
      let w : n - t ≡ suc (n - (t + 1)) = omega arith in
      ap (spaced p gap size) w ∙ ap (λ (q : ℕ). interval p size ∷ spaced q gap size (n - (t + 1))) (sym e)

  pub spaced-none : (p n t : ℕ) → n ≤ t → spaced p gap size (n - t) ≡ []
  unfolding spaced
  spaced-none p n t h = let w : n - t ≡ 0 = omega arith in ap (spaced p gap size) w

  pub spaced-all : (p n : ℕ) → spaced p gap size (n - 0) ≡ spaced p gap size n
  spaced-all p n = let w : n - 0 ≡ n = omega arith in ap (spaced p gap size) w

  -- none, and one
  pub spaced-zero : (p n : ℕ) → n ≡ 0 → spaced p gap size n ≡ []
  unfolding spaced
  spaced-zero p n e = ap (spaced p gap size) e

  pub spaced-one : (p n : ℕ) → n ≡ 1 → spaced p gap size n ≡ interval p size ∷ []
  unfolding spaced
  spaced-one p n e = ap (spaced p gap size) e

  pub total-one : (p n : ℕ) → n ≡ 1 → total (spaced p gap size n) ≡ 12 + size
  unfolding total
  total-one p n e = omega (arith, ap total (spaced-one p n e))

  -- the first lies in the window
  pub spaced-in : (L f p n : ℕ) → 1 ≤ n → Separate L f (spaced p gap size n) → p + size ≤ L
  unfolding spaced
  spaced-in L f p zero o a = absurd (omega arith)
  spaced-in L f p (suc n) o a = a.2

  -- they are separate where a byte lies between each two, and the last ends in the window
  pub spaced-separate : (L f p n : ℕ) → 1 ≤ size → size < gap → f ≤ p → p + n * gap ≤ L + (gap - size) → Separate L f (spaced p gap size n)
  unfolding spaced
  spaced-separate L f p zero o g h k = tt
  spaced-separate L f p (suc n) o g h k =
      let m = suc-mul n gap in
      (h, o, omega arith, spaced-separate L (p + size + 1) (p + gap) n o g (omega arith) (omega arith))
