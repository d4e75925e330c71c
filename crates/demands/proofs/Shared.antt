-- A store's list of active elements: which stands before which, and the first that shares a byte with a lower one. Assumes nothing.
use mathlib.Core.Path.{◌≡◌, refl, sym, ap, ◌∙◌, subst}
use mathlib.Core.Bool.{Bool, true, false, cond}
use mathlib.Core.List.{List, [], ◌∷◌}
use mathlib.Core.Option.{some}
use Prim.Native.Nat.{ℕ, zero, suc, ◌+◌, ◌≤◌, ◌<◌}
use native.Mathlib.Omega.{arith}
use Rattle.endian.proofs.Order.{two, absurdly}
use Rattle.writes.specs.Elements.{Element, shares_with, overlap_from}
use Rattle.elements.specs.Elements.{actives}
use Rattle.verdicts.specs.Statements.{Listed, here, there, StandsBefore, first, later}
use Rattle.demands.proofs.Listed.{Among, further, listed-among, among-listed}

module _ (on : ℕ → Bool) (el : ℕ → Element) where
  -- ---- which stands before which

  -- y and x are the elements of two numbers, the first the lower
  pub record Two (k n : ℕ) (y x : Element) : Type 0 where
    pub low : ℕ
    pub high : ℕ
    pub from : k ≤ low
    pub up : low < high
    pub below : high < k + n
    pub low-on : on low ≡ true
    pub high-on : on high ≡ true
    pub low-is : y ≡ el low
    pub high_is : x ≡ el high

  two-further : (k n : ℕ) (y x : Element) → Two (suc k) n y x → Two k (suc n) y x
  two-further k n y x t =
      record {
        low = t.low;
        high = t.high;
        from = omega (arith, t.from);
        up = t.up;
        below = omega (arith, t.below);
        low-on = t.low-on;
        high-on = t.high-on;
        low-is = t.low-is;
        high_is = t.high_is;
      }

  pub stands-two : (n k : ℕ) (y x : Element) → StandsBefore y x (actives on el n k) → Two k n y x
  unfolding actives
  stands-two (suc n) k y x b =
      go (on k) refl b (λ r. listed-among on el n (suc k) x r) (stands-two n (suc k) y x)
    where
      split : (z : Element) (zs : List Element) → z ≡ el k → on k ≡ true → StandsBefore y x (z ∷ zs)
          → (Listed x zs → Among on el (suc k) n x) → (StandsBefore y x zs → Two (suc k) n y x) → Two k (suc n) y x
      split z zs i q (first l) f g =
          let a = f l in
          record {
            low = k;
            high = a.at;
            from = omega arith;
            up = omega (arith, a.from);
            below = omega (arith, a.below);
            low-on = q;
            high-on = a.is-on;
            low-is = i;
            high_is = a.is;
          }
      split z zs i q (later r) f g = two-further k n y x (g r)

      go : (b : Bool) → on k ≡ b → StandsBefore y x (cond b (el k ∷ actives on el n (suc k)) (actives on el n (suc k)))
          → (Listed x (actives on el n (suc k)) → Among on el (suc k) n x)
          → (StandsBefore y x (actives on el n (suc k)) → Two (suc k) n y x) → Two k (suc n) y x
      go true q r f g = split (el k) (actives on el n (suc k)) refl q r f g
      go false q r f g = two-further k n y x (g r)
  stands-two zero k y x b = elim b [ ]

  -- the elements of numbers k + d and k + d + 1 + c
  pub two-stands : (n k d c : ℕ) → d + suc c < n → on (k + d) ≡ true → on (k + d + suc c) ≡ true
      → StandsBefore (el (k + d)) (el (k + d + suc c)) (actives on el n k)
  unfolding actives
  two-stands zero k d c h p q = absurd (omega arith)
  two-stands (suc n) k zero c h p q =
      let w : k + 0 ≡ k = omega arith in
      let v : k + 0 + suc c ≡ suc k + c = omega arith in
      let u : suc k + c ≡ k + 0 + suc c = omega arith in
      subst (λ (i : ℕ). StandsBefore (el i) (el (k + 0 + suc c)) (cond (on k) (el k ∷ actives on el n (suc k)) (actives on el n (suc k))))
      (sym w)
      (subst (λ (i : ℕ). StandsBefore (el k) (el i) (cond (on k) (el k ∷ actives on el n (suc k)) (actives on el n (suc k)))) u
      (go (on k) (subst (λ (i : ℕ). on i ≡ true) w p)
      (among-listed on el n (suc k) c (omega arith) (subst (λ (i : ℕ). on i ≡ true) v q))))
    where
      go : (b : Bool) → b ≡ true → Listed (el (suc k + c)) (actives on el n (suc k))
          → StandsBefore (el k) (el (suc k + c)) (cond b (el k ∷ actives on el n (suc k)) (actives on el n (suc k)))
      go true e l = first l
      go false e l = absurdly cc
  two-stands (suc n) k (suc d) c h p q =
      let w : k + suc d ≡ suc k + d = omega arith in
      let v : k + suc d + suc c ≡ suc k + d + suc c = omega arith in
      subst
      (λ (i : ℕ). StandsBefore (el i) (el (k + suc d + suc c)) (cond (on k) (el k ∷ actives on el n (suc k)) (actives on el n (suc k))))
      (sym w)
      (subst (λ (i : ℕ). StandsBefore (el (suc k + d)) (el i) (cond (on k) (el k ∷ actives on el n (suc k)) (actives on el n (suc k))))
      (sym v)
      (go (on k)
      (two-stands n (suc k) d c (omega arith) (subst (λ (i : ℕ). on i ≡ true) w p) (subst (λ (i : ℕ). on i ≡ true) v q))))
    where
      go : (b : Bool) → StandsBefore (el (suc k + d)) (el (suc k + d + suc c)) (actives on el n (suc k))
          → StandsBefore (el (suc k + d)) (el (suc k + d + suc c)) (cond b (el k ∷ actives on el n (suc k)) (actives on el n (suc k)))
      go true s = later s
      go false s = s

  -- ---- the active ones below k, the highest first

  unfoldable pub lower_of : ℕ → List Element
  lower_of zero = []
  lower_of (suc k) = cond (on k) (el k ∷ lower_of k) (lower_of k)

  pub listed-lower : (k : ℕ) (y : Element) → Listed y (lower_of k) → (d : ℕ) × (d < k) × (on d ≡ true) × (y ≡ el d)
  unfolding lower_of
  listed-lower (suc k) y l = go (on k) refl l (listed-lower k y)
    where
      split : (z : Element) (zs : List Element) → z ≡ el k → on k ≡ true → Listed y (z ∷ zs)
          → (Listed y zs → (d : ℕ) × (d < k) × (on d ≡ true) × (y ≡ el d)) → (d : ℕ) × (d < suc k) × (on d ≡ true) × (y ≡ el d)
      split z zs i q here f = (k, omega arith, q, i)
      split z zs i q (there r) f = let t = f r in (t.0, omega (arith, t.1), t.2, t.3)

      go : (b : Bool) → on k ≡ b → Listed y (cond b (el k ∷ lower_of k) (lower_of k))
          → (Listed y (lower_of k) → (d : ℕ) × (d < k) × (on d ≡ true) × (y ≡ el d)) → (d : ℕ) × (d < suc k) × (on d ≡ true) × (y ≡ el d)
      go true q r f = split (el k) (lower_of k) refl q r f
      go false q r f = let t = f r in (t.0, omega (arith, t.1), t.2, t.3)
  listed-lower zero y l = elim l [ ]

  pub lower-listed : (k d : ℕ) → d < k → on d ≡ true → Listed (el d) (lower_of k)
  unfolding lower_of
  lower-listed zero d h q = absurd (omega arith)
  lower-listed (suc k) d h q = two d k (λ l. behind (on k) (lower-listed k d l q)) (λ l. front (omega arith))
    where
      behind : (b : Bool) → Listed (el d) (lower_of k) → Listed (el d) (cond b (el k ∷ lower_of k) (lower_of k))
      behind true l = there l
      behind false l = l

      front : d ≡ k → Listed (el d) (cond (on k) (el k ∷ lower_of k) (lower_of k))
      front e =
          subst (λ (i : ℕ). Listed (el i) (cond (on k) (el k ∷ lower_of k) (lower_of k))) (sym e)
          (subst (λ (b : Bool). Listed (el k) (cond b (el k ∷ lower_of k) (lower_of k))) (sym (subst (λ (i : ℕ). on i ≡ true) e q)) here)

  -- ---- the first that shares a byte with a lower one; those before it don't

  pub record Lowest (k n : ℕ) (x : Element) : Type 0 where
    pub among : Among on el k n x
    pub shares : shares_with (el among.at) (lower_of among.at) ≡ true
    pub before : (c : ℕ) → k ≤ c → c < among.at → on c ≡ true → shares_with (el c) (lower_of c) ≡ false

  past : (k n : ℕ) (x : Element) → (on k ≡ true → shares_with (el k) (lower_of k) ≡ false) → Lowest (suc k) n x → Lowest k (suc n) x
  unfolding further
  past k n x i l =
      record {
        among = further on el k n x l.among;
        shares = l.shares;
        before = λ c h j q.
            two k c (λ g. l.before c g j q)
            (λ g.
            let w : c ≡ k = omega arith in
            subst (λ (y : ℕ). shares_with (el y) (lower_of y) ≡ false) (sym w) (i (subst (λ (y : ℕ). on y ≡ true) w q)));
      }

  pub first-overlap : (n k : ℕ) (x : Element) → overlap_from (lower_of k) (actives on el n k) ≡ some x → Lowest k n x
  unfolding actives overlap_from lower_of
  first-overlap zero k x e = absurdly cc
  first-overlap (suc n) k x e = go (on k) refl e (first-overlap n (suc k) x)
    where
      rest : List Element
      rest = actives on el n (suc k)

      met : (b : Bool) → shares_with (el k) (lower_of k) ≡ b → on k ≡ true
          → cond b (some (el k)) (overlap_from (el k ∷ lower_of k) rest) ≡ some x
          → (overlap_from (el k ∷ lower_of k) rest ≡ some x → Lowest (suc k) n x) → Lowest k (suc n) x
      met true i q p f =
          record {
            among = record { at = k; from = omega arith; below = omega arith; is-on = q; is = cc };
            shares = i;
            before = λ c h j r. absurd (omega arith);
          }
      met false i q p f = past k n x (λ _. i) (f p)

      go : (b : Bool) → on k ≡ b → overlap_from (lower_of k) (cond b (el k ∷ rest) rest) ≡ some x
          → (overlap_from (cond (on k) (el k ∷ lower_of k) (lower_of k)) rest ≡ some x → Lowest (suc k) n x) → Lowest k (suc n) x
      go true q p f =
          met (shares_with (el k) (lower_of k)) refl q p
          (λ r. f (ap (λ (b : Bool). overlap_from (cond b (el k ∷ lower_of k) (lower_of k)) rest) q ∙ r))
      go false q p f =
          past k n x (λ r. absurdly cc) (f (ap (λ (b : Bool). overlap_from (cond b (el k ∷ lower_of k) (lower_of k)) rest) q ∙ p))
