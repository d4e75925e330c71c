-- A list of active elements walked by number: what a loop has passed. Over any activity and any element. Assumes nothing.
use mathlib.Core.Path.{◌≡◌, refl, sym, ap, ◌∙◌}
use mathlib.Core.Bool.{Bool, true, false, not, cond, ◌&&◌}
use mathlib.Core.List.{List, [], ◌∷◌}
use mathlib.Core.Option.{none, some}
use Prim.Native.Nat.{ℕ, ◌+◌, ◌-◌, ◌≤◌, ◌<◌}
use native.Mathlib.Nat.{sub-zero}
use native.Mathlib.Omega.{arith}
use lib.ListN.{length}
use Rattle.writes.specs.Elements.{Element, InWindow}
use Rattle.window.specs.Window.{in_window}
use Rattle.endian.proofs.Order.{absurdly}
use Rattle.window.proofs.Windows.{in-window-inv}
use Rattle.elements.specs.Elements.{actives}
use Rattle.accesses.proofs.Listing.{active-more, inactive-more, active-none}
use Rattle.verdicts.specs.Verdicts.{some_active, first_outside}

module _ (on : ℕ → Bool) (el : ℕ → Element) (n : ℕ) where
  -- what a question on the list of the active elements says of those from e on is what it says of all
  pub record Walked {A : Type 0} (ask : List Element → A) (e : ℕ) : Type 0 where
    pub most : e ≤ n
    pub same : ask (actives on el (n - e) e) ≡ ask (actives on el n 0)

  module _ {A : Type 0} (ask : List Element → A) where
    pub walked-first : Walked ask 0
    walked-first = record { most = omega arith; same = ap (λ (j : ℕ). ask (actives on el j 0)) (sub-zero n) }

    pub walked-off : (e : ℕ) → e < n → Walked ask e → on e ≡ false → Walked ask (e + 1)
    walked-off e h s f = record { most = omega arith; same = ap ask (sym (inactive-more on el n e h f)) ∙ s.same }

  -- ---- the active elements below e lie in the window

  module _ (W L : ℕ) where
    module _ (e : ℕ) (h : e < n) (s : Walked (first_outside W L) e) where
      abbrev inside : Bool
      inside = in_window W L (el e).address (length (el e).bytes)

      -- what an active element says
      active-next : on e ≡ true → cond inside (first_outside W L (actives on el (n - (e + 1)) (e + 1))) (some (el e))
          ≡ first_outside W L (actives on el n 0)
      unfolding first_outside
      active-next t = ap (first_outside W L) (sym (active-more on el n e h t)) ∙ s.same

      by-test : (b : Bool) → on e ≡ true → inside ≡ b
          → cond b (first_outside W L (actives on el (n - (e + 1)) (e + 1))) (some (el e)) ≡ first_outside W L (actives on el n 0)
      by-test b t i =
          sym (ap (λ (b : Bool). cond b (first_outside W L (actives on el (n - (e + 1)) (e + 1))) (some (el e))) i) ∙ active-next t

      -- activity and window in one test
      pub walked-past : (on e && not inside) ≡ false → Walked (first_outside W L) (e + 1)
      walked-past q = go (on e) refl inside refl q
        where
          go : (a : Bool) → on e ≡ a → (b : Bool) → inside ≡ b → (a && not b) ≡ false → Walked (first_outside W L) (e + 1)
          go false p b r k = walked-off (first_outside W L) e h s p
          go true p true r k = record { most = omega arith; same = by-test true p r }
          go true p false r k = absurdly cc

      pub walked-found : (on e && not inside) ≡ true → some (el e) ≡ first_outside W L (actives on el n 0)
      walked-found q = go (on e) refl inside refl q
        where
          go : (a : Bool) → on e ≡ a → (b : Bool) → inside ≡ b → (a && not b) ≡ true → some (el e) ≡ first_outside W L (actives on el n 0)
          go false p b r k = absurdly cc
          go true p true r k = absurdly cc
          go true p false r k = by-test false p r

    pub walked-done : (e : ℕ) → n ≤ e → Walked (first_outside W L) e → none ≡ first_outside W L (actives on el n 0)
    unfolding first_outside
    walked-done e h s = sym (ap (first_outside W L) (active-none on el n e h)) ∙ s.same

  -- ---- no element below e is active

  pub sought-found : (e : ℕ) → e < n → Walked some_active e → on e ≡ true → true ≡ some_active (actives on el n 0)
  sought-found e h s t = sym (ap some_active (active-more on el n e h t)) ∙ s.same

  pub sought-none : (e : ℕ) → n ≤ e → Walked some_active e → false ≡ some_active (actives on el n 0)
  sought-none e h s = sym (ap some_active (active-none on el n e h)) ∙ s.same

-- ---- no element outside

pub inside-all : (W L : ℕ) (es : List Element) → first_outside W L es ≡ none → InWindow W L es
unfolding first_outside
inside-all W L [] e = tt
inside-all W L (x ∷ xs) e = go (in_window W L x.address (length x.bytes)) refl e (λ q. inside-all W L xs q)
  where
    go : (b : Bool) → in_window W L x.address (length x.bytes) ≡ b → cond b (first_outside W L xs) (some x) ≡ none
        → (first_outside W L xs ≡ none → InWindow W L xs) → InWindow W L (x ∷ xs)
    go true i q rest = let w = in-window-inv W L x.address (length x.bytes) i in (w.0, w.1, rest q)
    go false i q rest = absurdly cc
