-- The first class that passes a test, and the lowest number that does. Assumes nothing.
use mathlib.Core.Path.{◌≡◌, refl, sym, ap, ◌∙◌, subst}
use mathlib.Core.Bool.{Bool, true, false, cond}
use mathlib.Core.List.{List, [], ◌∷◌}
use mathlib.Core.Logic.{⊎_elim}
use Prim.Native.Nat.{ℕ, zero, suc, ◌<◌}
use native.Mathlib.Nat.{not-suc-le-zero, le_of_suc-le-suc, eq-or-lt_of_le, zero-lt-suc}
use native.Mathlib.Omega.{arith}
use lib.Dec.{T, ltb, ltb→lt, lt→ltb}
use borrow.Author.Tests.{ltb-false}
use lib.ListN.{length, get_or}
use Rattle.encoding.specs.Classes.{Class, position}
use Rattle.encoding.specs.Encoding.{lowest}
use Rattle.encoding.proofs.Tests.{cond-true, cond-false}

-- ---- in a list of classes

module _ (p : Class → Bool) (d : Class) where
  pub position-none : (cs : List Class) → ((j : ℕ) → j < length cs → T (p (get_or cs j d)) → ⊥) → position p cs ≡ length cs
  unfolding position
  position-none [] f = refl
  position-none (c ∷ cs) f =
      cond-false (p c) 0 (suc (position p cs)) (f 0 (zero-lt-suc (length cs)))
      ∙ ap suc (position-none cs (λ j h. f (suc j) (omega arith)))

  pub position_at : (cs : List Class) (k : ℕ) → k < length cs → T (p (get_or cs k d)) → ((j : ℕ) → j < k → T (p (get_or cs j d)) → ⊥)
      → position p cs ≡ k
  unfolding position
  position_at [] k h t f = absurd (not-suc-le-zero h)
  position_at (c ∷ cs) zero h t f = cond-true (p c) 0 (suc (position p cs)) t
  position_at (c ∷ cs) (suc k) h t f =
      cond-false (p c) 0 (suc (position p cs)) (f 0 (zero-lt-suc k))
      ∙ ap suc (position_at cs k (le_of_suc-le-suc h) t (λ j l. f (suc j) (omega arith)))

  -- where one class alone passes
  pub position-only : (cs : List Class) (k : ℕ) → k < length cs → T (p (get_or cs k d))
      → ((j : ℕ) → j < length cs → T (p (get_or cs j d)) → j ≡ k) → position p cs ≡ k
  position-only cs k h t f = position_at cs k h t (λ j l u. let e = f j (omega arith) u in omega arith)

  pub position-holds : (cs : List Class) → position p cs < length cs → T (p (get_or cs (position p cs) d))
  unfolding position
  position-holds [] h = absurd (not-suc-le-zero h)
  position-holds (c ∷ cs) h = go (p c) refl (λ l. position-holds cs l) h
    where
      go : (b : Bool) → p c ≡ b → (position p cs < length cs → T (p (get_or cs (position p cs) d)))
          → cond b 0 (suc (position p cs)) < suc (length cs) → T (p (get_or (c ∷ cs) (cond b 0 (suc (position p cs))) d))
      go true e rest l = subst T (sym e) tt
      go false e rest l = rest (le_of_suc-le-suc l)

-- ---- among numbers

module _ (p : ℕ → Bool) where
  pub lowest-none : (n : ℕ) → ((j : ℕ) → j < n → T (p j) → ⊥) → lowest p n ≡ n
  unfolding lowest
  lowest-none zero f = refl
  lowest-none (suc n) f =
      let e = lowest-none n (λ j h. f j (omega arith)) in
      cond-false (ltb (lowest p n) n) (lowest p n) (cond (p n) n (suc n)) (λ t. omega (arith, ltb→lt (lowest p n) n t))
      ∙ cond-false (p n) n (suc n) (f n (omega arith))

  pub lowest-at : (n k : ℕ) → k < n → T (p k) → ((j : ℕ) → j < k → T (p j) → ⊥) → lowest p n ≡ k
  unfolding lowest
  lowest-at zero k h t f = absurd (not-suc-le-zero h)
  lowest-at (suc n) k h t f =
      ⊎_elim
      (λ e.
      cond-false (ltb (lowest p n) n) (lowest p n) (cond (p n) n (suc n))
      (λ u. omega (arith, ltb→lt (lowest p n) n u, lowest-none n (λ j l. f j (omega arith))))
      ∙ cond-true (p n) n (suc n) (subst (λ (j : ℕ). T (p j)) e t)
      ∙ sym e)
      (λ l.
      let e = lowest-at n k l t f in
      cond-true (ltb (lowest p n) n) (lowest p n) (cond (p n) n (suc n)) (lt→ltb (lowest p n) n (omega arith)) ∙ e)
      (eq-or-lt_of_le (le_of_suc-le-suc h))

  pub lowest-only : (n k : ℕ) → k < n → T (p k) → ((j : ℕ) → j < n → T (p j) → j ≡ k) → lowest p n ≡ k
  lowest-only n k h t f = lowest-at n k h t (λ j l u. let e = f j (omega arith) u in omega arith)

  passed : (b q : Bool) (x n : ℕ) → (T b → T (p x)) → (T q → T (p n)) → cond b x (cond q n (suc n)) < suc n
      → T (p (cond b x (cond q n (suc n))))
  passed true q x n f g h = f tt
  passed false true x n f g h = g tt
  passed false false x n f g h = absurd (omega arith)

  pub lowest-holds : (n : ℕ) → lowest p n < n → T (p (lowest p n))
  unfolding lowest
  lowest-holds zero h = absurd (not-suc-le-zero h)
  lowest-holds (suc n) h =
      passed (ltb (lowest p n) n) (p n) (lowest p n) n (λ t. lowest-holds n (ltb→lt (lowest p n) n t)) (λ t. t) h

  -- none before it passes
  pub lowest-below : (n j : ℕ) → j < lowest p n → T (p j) → ⊥
  unfolding lowest
  lowest-below zero j h t = not-suc-le-zero h
  lowest-below (suc n) j h t = go (ltb (lowest p n) n) (p n) refl refl (λ l. lowest-below n j l t) h
    where
      go : (b q : Bool) → ltb (lowest p n) n ≡ b → p n ≡ q → (j < lowest p n → ⊥) → j < cond b (lowest p n) (cond q n (suc n)) → ⊥
      go true q e f rest l = rest l
      go false true e f rest l = rest (omega (arith, ltb-false (lowest p n) n e))
      go false false e f rest l =
          ⊎_elim (λ k. subst T (ap p k ∙ f) t) (λ k. rest (omega (arith, ltb-false (lowest p n) n e)))
          (eq-or-lt_of_le (le_of_suc-le-suc l))
