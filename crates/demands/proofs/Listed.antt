-- A store's list of active elements: what it has, and the first of it outside a window. Assumes nothing.
use mathlib.Core.Path.{◌≡◌, refl, sym, subst}
use mathlib.Core.Bool.{Bool, true, false, cond}
use mathlib.Core.List.{List, ◌∷◌}
use mathlib.Core.Option.{some}
use Prim.Native.Nat.{ℕ, zero, suc, ◌+◌, ◌≤◌, ◌<◌}
use native.Mathlib.Omega.{arith}
use lib.ListN.{length}
use Rattle.endian.proofs.Order.{two, absurdly}
use Rattle.writes.specs.Elements.{Element}
use Rattle.window.specs.Window.{in_window}
use Rattle.elements.specs.Elements.{actives}
use Rattle.verdicts.specs.Verdicts.{first_outside}
use Rattle.verdicts.specs.Statements.{Listed, here, there}

-- the first of a list, or one of the others
split : {X : Type 0} (x y : Element) (ys : List Element) → Listed x (y ∷ ys) → (x ≡ y → X) → (Listed x ys → X) → X
split x y ys here f g = f refl
split x y ys (there r) f g = g r

module _ (on : ℕ → Bool) (el : ℕ → Element) where
  -- x is the element of a number from k on, below k + n, that is on
  pub record Among (k n : ℕ) (x : Element) : Type 0 where
    pub at : ℕ
    pub from : k ≤ at
    pub below : at < k + n
    pub is-on : on at ≡ true
    pub is : x ≡ el at

  unfoldable pub further : (k n : ℕ) (x : Element) → Among (suc k) n x → Among k (suc n) x
  further k n x a = record { at = a.at; from = omega (arith, a.from); below = omega (arith, a.below); is-on = a.is-on; is = a.is }

  pub listed-among : (n k : ℕ) (x : Element) → Listed x (actives on el n k) → Among k n x
  unfolding actives
  listed-among (suc n) k x l = go (on k) refl l (listed-among n (suc k) x)
    where
      go : (b : Bool) → on k ≡ b → Listed x (cond b (el k ∷ actives on el n (suc k)) (actives on el n (suc k)))
          → (Listed x (actives on el n (suc k)) → Among (suc k) n x) → Among k (suc n) x
      go true q r f =
          split x (el k) (actives on el n (suc k)) r
          (λ p. record { at = k; from = omega arith; below = omega arith; is-on = q; is = p })
          (λ u. further k n x (f u))
      go false q r f = further k n x (f r)
  listed-among zero k x l = elim l [ ]

  -- the element of number k + d
  pub among-listed : (n k d : ℕ) → d < n → on (k + d) ≡ true → Listed (el (k + d)) (actives on el n k)
  unfolding actives
  among-listed zero k d h q = absurd (omega arith)
  among-listed (suc n) k zero h q =
      let w : k + 0 ≡ k = omega arith in
      subst (λ (e : ℕ). Listed (el e) (cond (on k) (el k ∷ actives on el n (suc k)) (actives on el n (suc k)))) (sym w)
      (go (on k) (subst (λ (e : ℕ). on e ≡ true) w q))
    where
      go : (b : Bool) → b ≡ true → Listed (el k) (cond b (el k ∷ actives on el n (suc k)) (actives on el n (suc k)))
      go true p = here
      go false p = absurdly cc
  among-listed (suc n) k (suc d) h q =
      let w : k + suc d ≡ suc k + d = omega arith in
      subst (λ (e : ℕ). Listed (el e) (cond (on k) (el k ∷ actives on el n (suc k)) (actives on el n (suc k)))) (sym w)
      (go (on k) (among-listed n (suc k) d (omega arith) (subst (λ (e : ℕ). on e ≡ true) w q)))
    where
      go : (b : Bool) → Listed (el (suc k + d)) (actives on el n (suc k))
          → Listed (el (suc k + d)) (cond b (el k ∷ actives on el n (suc k)) (actives on el n (suc k)))
      go true l = there l
      go false l = l

  pub listed_at : (n e : ℕ) → e < n → on e ≡ true → Listed (el e) (actives on el n 0)
  listed_at n e h q =
      let w : 0 + e ≡ e = omega arith in
      subst (λ (y : ℕ). Listed (el y) (actives on el n 0)) w (among-listed n 0 e h (subst (λ (y : ℕ). on y ≡ true) (sym w) q))

  module _ (W L : ℕ) where
    abbrev pub lies : ℕ → Bool
    lies e = in_window W L (el e).address (length (el e).bytes)

    -- the first of them outside the window, those before it being inside
    pub record Lowest (k n : ℕ) (x : Element) : Type 0 where
      pub among : Among k n x
      pub out : lies among.at ≡ false
      pub before : (d : ℕ) → k ≤ d → d < among.at → on d ≡ true → lies d ≡ true

    past : (k n : ℕ) (x : Element) → (on k ≡ true → lies k ≡ true) → Lowest (suc k) n x → Lowest k (suc n) x
    unfolding further
    past k n x i l =
        record {
          among = further k n x l.among;
          out = l.out;
          before = λ d h j q.
              two k d (λ g. l.before d g j q)
              (λ g. let w : d ≡ k = omega arith in subst (λ (y : ℕ). lies y ≡ true) (sym w) (i (subst (λ (y : ℕ). on y ≡ true) w q)));
        }

    pub first-outside : (n k : ℕ) (x : Element) → first_outside W L (actives on el n k) ≡ some x → Lowest k n x
    unfolding actives first_outside
    first-outside zero k x e = absurdly cc
    first-outside (suc n) k x e = go (on k) refl e (first-outside n (suc k) x)
      where
        out : (b : Bool) → lies k ≡ b → on k ≡ true → (first_outside W L (actives on el n (suc k)) ≡ some x → Lowest (suc k) n x)
            → cond b (first_outside W L (actives on el n (suc k))) (some (el k)) ≡ some x → Lowest k (suc n) x
        out true i q f p = past k n x (λ _. i) (f p)
        out false i q f p =
            record {
              among = record { at = k; from = omega arith; below = omega arith; is-on = q; is = cc };
              out = i;
              before = λ d h j r. absurd (omega arith);
            }

        go : (b : Bool) → on k ≡ b → first_outside W L (cond b (el k ∷ actives on el n (suc k)) (actives on el n (suc k))) ≡ some x
            → (first_outside W L (actives on el n (suc k)) ≡ some x → Lowest (suc k) n x) → Lowest k (suc n) x
        go true q p f = out (lies k) refl q f p
        go false q p f = past k n x (λ r. absurdly cc) (f p)
