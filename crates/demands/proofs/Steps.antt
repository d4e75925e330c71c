-- Document 02 (iv): the steps of a store. Assumes nothing.
use mathlib.Core.Path.{◌≡◌, refl, ap, ◌∙◌}
use mathlib.Core.Option.{none}
use Prim.Native.Nat.{ℕ, zero, suc, ◌+◌, ◌≤◌, ◌<◌}
use mathlib.Core.Bool.{Bool, false}
use mathlib.Core.List.{List, []}
use native.Mathlib.Omega.{arith}
use Rattle.writes.specs.Elements.{Element, steps_from, steps_of}
use Rattle.writes.proofs.Counting.{steps-length}
use Rattle.elements.specs.Stores.{count_of}
use Rattle.elements.specs.Elements.{active_at, element_at, actives, elements}
use Rattle.accesses.proofs.Actives.{actives-off}
use Rattle.accesses.proofs.Spacing.{listed, Consecutive, actives-listed, steps-listed}
use Rattle.demands.specs.Steps.{StepsCounted}
use Rattle.demands.proofs.Effects.{runs-within}

one_of : (el : ℕ → Element) (n : ℕ) → 0 < n → Consecutive el n 0 → steps_of (listed el n 0) ≡ 1
one_of el zero h c = absurd (omega arith)
one_of el (suc n) h c = steps-listed el n 0 c

actives-none : (on : ℕ → Bool) (el : ℕ → Element) (n e : ℕ) → ((i : ℕ) → e ≤ i → i < e + n → on i ≡ false) → actives on el n e ≡ []
unfolding actives
actives-none on el zero e f = refl
actives-none on el (suc n) e f =
    actives-off on el n e (f e (omega arith) (omega arith)) ∙ actives-none on el n (suc e) (λ i a b. f i (omega arith) (omega arith))

pub steps-counted : StepsCounted
unfolding elements steps_from
steps-counted =
    record {
      one =
          λ m s h on c.
          ap (λ (l : List Element). steps_of l)
          (actives-listed (element_at m s) (active_at m s) (count_of m s) 0 (λ i a b. on i (omega arith)))
          ∙ one_of (element_at m s) (count_of m s) h (λ i a b. c i (omega arith));
      none =
          λ m s off.
          ap (λ (l : List Element). steps_of l)
          (actives-none (active_at m s) (element_at m s) (count_of m s) 0 (λ i a b. off i (omega arith)));
      most = λ m s. steps-length none (elements m s);
      runs = runs-within;
    }
