-- The active ones among n elements. Assumes nothing.
use mathlib.Core.Path.{◌≡◌, refl, sym, ap, ◌∙◌, subst}
use Prim.Native.Nat.{ℕ, zero, suc, ◌+◌, ◌-◌, ◌*◌, ◌≤◌, ◌<◌}
use mathlib.Core.List.{[], ◌∷◌}
use mathlib.Core.Bool.{Bool, true, false, true≢false, cond}
use native.Mathlib.Nat.{zero-mul, suc-mul}
use native.Mathlib.Omega.{arith}
use lib.ListN.{length}
use Rattle.endian.specs.LittleEndian.{Bytes}
use Rattle.writes.specs.Elements.{Element, InWindow}
use Rattle.endian.proofs.Order.{three}
use Rattle.writes.proofs.Counting.{OfSize}
use Rattle.elements.specs.Elements.{actives}

module _ (on : ℕ → Bool) (el : ℕ → Element) where
  pub actives-on : (n e : ℕ) → on e ≡ true → actives on el (suc n) e ≡ el e ∷ actives on el n (suc e)
  unfolding actives
  actives-on n e h = ap (λ (t : Bool). cond t (el e ∷ actives on el n (suc e)) (actives on el n (suc e))) h

  pub actives-off : (n e : ℕ) → on e ≡ false → actives on el (suc n) e ≡ actives on el n (suc e)
  unfolding actives
  actives-off n e h = ap (λ (t : Bool). cond t (el e ∷ actives on el n (suc e)) (actives on el n (suc e))) h

  either : {X : Type 0} (e : ℕ) → (on e ≡ true → X) → (on e ≡ false → X) → X
  either {X} e f g = go (on e) refl
    where
      go : (t : Bool) → on e ≡ t → X
      go true q = f q
      go false q = g q

  pub actives-length : (n e : ℕ) → length (actives on el n e) ≤ n
  unfolding actives
  actives-length zero e = omega arith
  actives-length (suc n) e =
      either e
      (λ h. omega (arith, ap length (actives-on n e h), actives-length n (suc e)))
      (λ h. omega (arith, ap length (actives-off n e h), actives-length n (suc e)))

  pub actives-sized : (k n e : ℕ) → ((i : ℕ) → i < e + n → (length (el i).bytes ≡ k) × Bytes (el i).bytes) → OfSize k (actives on el n e)
  unfolding actives
  actives-sized k zero e f = tt
  actives-sized k (suc n) e f =
      let r : OfSize k (actives on el n (suc e)) = actives-sized k n (suc e) (λ i h. f i (omega arith)) in
      let x = f e (omega arith) in
      either e
      (λ h. subst (OfSize k) (sym (actives-on n e h)) (x.0, x.1, r))
      (λ h. subst (OfSize k) (sym (actives-off n e h)) r)

  -- an active one of a list that lies in the window
  pub active-in : (W L n e : ℕ) → InWindow W L (actives on el n e) → (i : ℕ) → e ≤ i → i < e + n → on i ≡ true
      → (W ≤ (el i).address) × ((el i).address + length (el i).bytes ≤ W + L)
  unfolding actives
  active-in W L zero e f i a b h = absurd (omega arith)
  active-in W L (suc n) e f i a b h =
      either e
      (λ q.
      let g : InWindow W L (el e ∷ actives on el n (suc e)) = subst (InWindow W L) (actives-on n e q) f in
      three e i
      (λ l. active-in W L n (suc e) g.2 i (omega arith) (omega arith) h)
      (λ l. subst (λ (z : ℕ). (W ≤ (el z).address) × ((el z).address + length (el z).bytes ≤ W + L)) l (g.0, g.1))
      (λ l. absurd (omega arith)))
      (λ q.
      let g : InWindow W L (actives on el n (suc e)) = subst (InWindow W L) (actives-off n e q) f in
      three e i
      (λ l. active-in W L n (suc e) g i (omega arith) (omega arith) h)
      (λ l. absurd (true≢false (sym h ∙ ap on (sym l) ∙ q)))
      (λ l. absurd (omega arith)))

  -- none from e on
  pub none_left : (n e : ℕ) → ((j : ℕ) → e ≤ j → on j ≡ false) → actives on el n e ≡ []
  unfolding actives
  none_left zero e h = refl
  none_left (suc n) e h = actives-off n e (h e (omega arith)) ∙ none_left n (suc e) (λ j k. h j (omega arith))

  -- off up to e + d, and then n more
  pub skipped : (d n e : ℕ) → ((i : ℕ) → e ≤ i → i < e + d → on i ≡ false) → actives on el (d + n) e ≡ actives on el n (e + d)
  skipped zero n e f =
      let w : 0 + n ≡ n = omega arith in let v : e ≡ e + 0 = omega arith in λ i. actives on el (w i) (v i)
  skipped (suc d) n e f =
      let w : suc d + n ≡ suc (d + n) = omega arith in
      let v : suc e + d ≡ e + suc d = omega arith in
      ap (λ (k : ℕ). actives on el k e) w
      ∙ actives-off (d + n) e (f e (omega arith) (omega arith))
      ∙ skipped d n (suc e) (λ i a b. f i (omega arith) (omega arith))
      ∙ ap (actives on el n) v

  -- where only multiples of d + 1 can be on
  pub thinned : (d : ℕ) → ((k i : ℕ) → i < d → on (suc (k * suc d + i)) ≡ false)
      → (n k : ℕ) → actives on el (n * suc d) (k * suc d) ≡ actives (λ j. on (j * suc d)) (λ j. el (j * suc d)) n k
  unfolding actives
  thinned d f zero k = ap (λ (j : ℕ). actives on el j (k * suc d)) (zero-mul (suc d))
  thinned d f (suc n) k =
      let w : suc n * suc d ≡ suc (d + n * suc d) = omega (arith, suc-mul n (suc d)) in
      let v : suc (k * suc d) + d ≡ suc k * suc d = omega (arith, suc-mul k (suc d)) in
      let rest : actives on el (d + n * suc d) (suc (k * suc d)) ≡ actives (λ j. on (j * suc d)) (λ j. el (j * suc d)) n (suc k) =
      skipped d (n * suc d) (suc (k * suc d))
      (λ i a b.
      let u : suc (k * suc d + (i - suc (k * suc d))) ≡ i = omega arith in
      ap on (sym u) ∙ f k (i - suc (k * suc d)) (omega arith))
      ∙ ap (actives on el (n * suc d)) v ∙ thinned d f n (suc k) in
      ap (λ (j : ℕ). actives on el j (k * suc d)) w ∙ (λ i. cond (on (k * suc d)) (el (k * suc d) ∷ rest i) (rest i))
