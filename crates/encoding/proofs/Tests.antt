-- Tests: choices by a test, a test at some element, at every number below n. Assumes nothing.
use mathlib.Core.Path.{◌≡◌, refl, sym, subst}
use mathlib.Core.Bool.{Bool, true, false, cond, ◌&&◌}
use mathlib.Core.List.{List, [], ◌∷◌}
use Prim.Native.Nat.{ℕ, zero, suc, ◌<◌}
use native.Mathlib.Nat.{not-suc-le-zero, le_of_suc-le-suc}
use native.Mathlib.Omega.{arith}
use lib.Dec.{T}
use lib.Ieee.Fits.{and_i, and_l, and_r}
use lib.ListN.{length, get_or}
use borrow.Author.Count.{below_more}
use Rattle.encoding.specs.Classes.{every_below}

pub yes : (b : Bool) → T b → b ≡ true
yes true t = refl
yes false t = absurd t

pub no : (b : Bool) → (T b → ⊥) → b ≡ false
no true f = absurd (f tt)
no false f = refl

pub holds : {b : Bool} → b ≡ true → T b
holds e = subst T (sym e) tt

pub fails : {b : Bool} → b ≡ false → T b → ⊥
fails e t = subst T e t

-- 0 is not 1
pub absurdly : {A : Type 0} → ◌≡◌ {A = ℕ} 0 1 → A
absurdly e = absurd (omega (arith, e))

-- ---- tests one after the other

abbrev pub all : List Bool → Bool
all [] = true
all (b ∷ bs) = b && all bs

abbrev pub Facts : List Bool → Type 0
Facts [] = Unit {0}
Facts (b ∷ bs) = T b × Facts bs

pub facts : (bs : List Bool) → T (all bs) → Facts bs
facts [] t = tt
facts (b ∷ bs) t = (and_l b (all bs) t, facts bs (and_r b (all bs) t))

pub made : (bs : List Bool) → Facts bs → T (all bs)
made [] f = tt
made (b ∷ bs) f = and_i b (all bs) f.0 (made bs f.1)

-- in the order in which `a && b && c` is read
abbrev pub all_of : Bool → List Bool → Bool
all_of a [] = a
all_of a (b ∷ bs) = all_of (a && b) bs

pub told : (a : Bool) (bs : List Bool) → T (all_of a bs) → Facts (a ∷ bs)
told a [] t = (t, tt)
told a (b ∷ bs) t =
    let r = told (a && b) bs t in
    (and_l a b r.0, (and_r a b r.0, r.1))

pub telling : (a : Bool) (bs : List Bool) → Facts (a ∷ bs) → T (all_of a bs)
telling a [] f = f.0
telling a (b ∷ bs) f = telling (a && b) bs (and_i a b f.0 f.1.0, f.1.1)

module _ {ℓ} {A : Type ℓ} where
  pub cond-true : (b : Bool) (x y : A) → T b → cond b x y ≡ x
  cond-true true x y t = refl
  cond-true false x y t = absurd t

  pub cond-false : (b : Bool) (x y : A) → (T b → ⊥) → cond b x y ≡ y
  cond-false true x y f = absurd (f tt)
  cond-false false x y f = refl

-- ---- a test at every element of a list

unfoldable pub every : {A : Type 0} → (A → Bool) → List A → Bool
every p [] = true
every p (x ∷ l) = p x && every p l

pub every-at : {A : Type 0} (p : A → Bool) (l : List A) (d : A) → T (every p l) → (k : ℕ) → k < length l → T (p (get_or l k d))
unfolding every
every-at p [] d t k h = absurd (not-suc-le-zero h)
every-at p (x ∷ l) d t zero h = and_l (p x) (every p l) t
every-at p (x ∷ l) d t (suc k) h = every-at p l d (and_r (p x) (every p l) t) k (le_of_suc-le-suc h)

-- ---- a test at every number below n

pub below_at : (n : ℕ) (p : ℕ → Bool) → T (every_below n p) → (i : ℕ) → i < n → T (p i)
unfolding every_below
below_at zero p t i h = absurd (not-suc-le-zero h)
below_at (suc n) p t i h =
    below_more (λ (k : ℕ). T (p k)) n (below_at n p (and_r (p n) (every_below n p) t)) (and_l (p n) (every_below n p) t) i (omega arith)

pub below_all : (n : ℕ) (p : ℕ → Bool) → ((i : ℕ) → i < n → T (p i)) → T (every_below n p)
unfolding every_below
below_all zero p f = tt
below_all (suc n) p f = and_i (p n) (every_below n p) (f n (omega arith)) (below_all n p (λ i h. f i (omega arith)))
