-- Laws over any lines of a table. Assumes nothing.
use Rattle.std.specs.Prelude.{Ok, Err}
use mathlib.Core.Path.{◌≡◌, refl, sym, ap, ◌∙◌}
use mathlib.Core.Bool.{Bool, true, false, not, cond, ◌&&◌, ◌||◌}
use mathlib.Core.List.{List, [], ◌∷◌}
use mathlib.Core.Logic.{◌↔◌, inl, inr}
use Prim.Native.Nat.{ℕ}
use lib.Dec.{eqb}
use borrow.Author.Tests.{eqb-true, eqb-false, eq-eqb}
use Rattle.endian.proofs.Order.{absurdly, both}
use Rattle.verdicts.specs.Verdicts.{Row, decided, number, Verdict, done}
use Rattle.verdicts.specs.Statements.{Given, NoneGiven, Decides, before, without, Numbered}
use Rattle.verdicts.specs.declared.Done.{Done}

-- ---- what a done store reports

-- zeros for a refusal
abbrev reported : Verdict → Done
reported (Ok d) = d
reported (Err r) = record { elements = 0; bytes = 0; length = 0; steps = 0 }

pub done-same : {n b k s n' b' k' s' : ℕ} → done n b k s ≡ done n' b' k' s' → (n ≡ n') × (b ≡ b') × (k ≡ k') × (s ≡ s')
done-same e = (
  ap (λ (v : Verdict). (reported v).elements) e,
  ap (λ (v : Verdict). (reported v).bytes) e,
  ap (λ (v : Verdict). (reported v).length) e,
  ap (λ (v : Verdict). (reported v).steps) e,
)

-- ---- which decides

pub none_done : (rs : List Row) (done : Verdict) → NoneGiven rs → decided rs done ≡ done
unfolding decided
none_done [] done h = refl
none_done (r ∷ rs) done h =
    ap (λ (b : Bool). cond b (Err r.returned) (decided rs done)) h.0 ∙ none_done rs done h.1

module _ (done : Verdict) (zero : number done ≡ 0) where
  pub done_none : (rs : List Row) → Numbered rs → number (decided rs done) ≡ 0 → NoneGiven rs
  unfolding decided
  done_none [] u e = tt
  done_none (r ∷ rs) u e = go r.given refl e (done_none rs u.1)
    where
      go : (b : Bool) → r.given ≡ b → number (cond b (Err r.returned) (decided rs done)) ≡ 0
          → (number (decided rs done) ≡ 0 → NoneGiven rs) → NoneGiven (r ∷ rs)
      go true g q f = absurd (u.0.some (sym u.0.same ∙ q))
      go false g q f = (g, f q)

  pub number-decides : (rs : List Row) → Numbered rs → (n : ℕ) → (n ≡ 0 → ⊥) → number (decided rs done) ≡ n → Decides n rs
  unfolding decided
  number-decides [] u n h e = absurd (h (sym e ∙ zero))
  number-decides (r ∷ rs) u n h e = go r.given refl e (number-decides rs u.1 n h)
    where
      go : (b : Bool) → r.given ≡ b → number (cond b (Err r.returned) (decided rs done)) ≡ n
          → (number (decided rs done) ≡ n → Decides n rs) → Decides n (r ∷ rs)
      go true g q f = inl (sym u.0.same ∙ q, g)
      go false g q f = inr (g, f q)

  pub decides-number : (rs : List Row) → Numbered rs → (n : ℕ) → Decides n rs → number (decided rs done) ≡ n
  unfolding decided
  decides-number (r ∷ rs) u n (inl x) =
      ap (λ (b : Bool). number (cond b (Err r.returned) (decided rs done))) x.1 ∙ u.0.same ∙ x.0
  decides-number (r ∷ rs) u n (inr x) =
      ap (λ (b : Bool). number (cond b (Err r.returned) (decided rs done))) x.0 ∙ decides-number rs u.1 n x.1
  decides-number [] u n x = elim x [ ]

-- ---- the line of number n, where no two have one number

abbrev occurs : ℕ → List Row → Bool
occurs n [] = false
occurs n (r ∷ rs) = eqb r.number n || occurs n rs

abbrev pub distinct : List Row → Bool
distinct [] = true
distinct (r ∷ rs) = not (occurs r.number rs) && distinct rs

-- whether it is given
abbrev pub given_at : ℕ → List Row → Bool
given_at n [] = false
given_at n (r ∷ rs) = cond (eqb r.number n) r.given (given_at n rs)

given-occurs : (n : ℕ) (rs : List Row) → Given n rs → occurs n rs ≡ true
given-occurs n (r ∷ rs) (inl x) = ap (λ (b : Bool). b || occurs n rs) (eq-eqb r.number n x.0)
given-occurs n (r ∷ rs) (inr x) = go (eqb r.number n) (given-occurs n rs x)
  where
    go : (b : Bool) → occurs n rs ≡ true → b || occurs n rs ≡ true
    go true e = refl
    go false e = e
given-occurs n [] x = elim x [ ]

given-at : (n : ℕ) (rs : List Row) → distinct rs ≡ true → Given n rs → given_at n rs ≡ true
given-at n (r ∷ rs) t x = go (eqb r.number n) refl x (given-at n rs u.1)
  where
    u : (not (occurs r.number rs) ≡ true) × (distinct rs ≡ true)
    u = both (not (occurs r.number rs)) (distinct rs) t

    go : (b : Bool) → eqb r.number n ≡ b → Given n (r ∷ rs) → (Given n rs → given_at n rs ≡ true)
        → cond b r.given (given_at n rs) ≡ true
    go true q (inl x) f = x.1
    go true q (inr x) f =
        let e = ap (λ (k : ℕ). occurs k rs) (eqb-true r.number n q) ∙ given-occurs n rs x in
        absurdly cc
    go false q (inl x) f = absurd (eqb-false r.number n q x.0)
    go false q (inr x) f = f x
given-at n [] t x = elim x [ ]

at-given : (n : ℕ) (rs : List Row) → given_at n rs ≡ true → Given n rs
at-given n [] e = absurdly cc
at-given n (r ∷ rs) e = go (eqb r.number n) refl e (at-given n rs)
  where
    go : (b : Bool) → eqb r.number n ≡ b → cond b r.given (given_at n rs) ≡ true → (given_at n rs ≡ true → Given n rs)
        → Given n (r ∷ rs)
    go true q e f = inl (eqb-true r.number n q, e)
    go false q e f = inr (f e)

pub given_is : (n : ℕ) (rs : List Row) → distinct rs ≡ true → Given n rs ↔ (given_at n rs ≡ true)
given_is n rs t = (given-at n rs t, at-given n rs)

-- ---- the lines before that of number n, and those from it on

abbrev pub from : ℕ → List Row → List Row
from n [] = []
from n (r ∷ rs) = cond (eqb r.number n) (r ∷ rs) (from n rs)

pub decides-given : (n : ℕ) (rs : List Row) → Decides n rs → Given n rs
decides-given n (r ∷ rs) (inl x) = inl x
decides-given n (r ∷ rs) (inr x) = inr (decides-given n rs x.1)
decides-given n [] x = elim x [ ]

pub decides-before : (n : ℕ) (rs : List Row) → Decides n rs → NoneGiven (before n rs)
decides-before n (r ∷ rs) d = go (eqb r.number n) refl d (decides-before n rs)
  where
    go : (b : Bool) → eqb r.number n ≡ b → Decides n (r ∷ rs) → (Decides n rs → NoneGiven (before n rs))
        → NoneGiven (cond b [] (r ∷ before n rs))
    go true q x f = tt
    go false q (inl x) f = absurd (eqb-false r.number n q x.0)
    go false q (inr x) f = (x.0, f x.1)
decides-before n [] d = elim d [ ]

pub before-decides : (n : ℕ) (rs : List Row) → NoneGiven (before n rs) → given_at n rs ≡ true → Decides n rs
before-decides n [] h g = absurdly cc
before-decides n (r ∷ rs) h g = go (eqb r.number n) refl h g (before-decides n rs)
  where
    go : (b : Bool) → eqb r.number n ≡ b → NoneGiven (cond b [] (r ∷ before n rs)) → cond b r.given (given_at n rs) ≡ true
        → (NoneGiven (before n rs) → given_at n rs ≡ true → Decides n rs) → Decides n (r ∷ rs)
    go true q h g f = inl (eqb-true r.number n q, g)
    go false q h g f = inr (h.0, f h.1 g)

pub before-decided : (n : ℕ) (rs : List Row) (done : Verdict) → NoneGiven (before n rs) → decided rs done ≡ decided (from n rs) done
unfolding decided
before-decided n [] done h = refl
before-decided n (r ∷ rs) done h = go (eqb r.number n) h (before-decided n rs done)
  where
    go : (b : Bool) → NoneGiven (cond b [] (r ∷ before n rs)) → (NoneGiven (before n rs) → decided rs done ≡ decided (from n rs) done)
        → decided (r ∷ rs) done ≡ decided (cond b (r ∷ rs) (from n rs)) done
    go true h f = refl
    go false h f = ap (λ (b : Bool). cond b (Err r.returned) (decided rs done)) h.0 ∙ f h.1

pub none-parted : (n : ℕ) (rs : List Row) → NoneGiven rs → NoneGiven (before n rs) × NoneGiven (from n rs)
none-parted n [] h = (tt, tt)
none-parted n (r ∷ rs) h = go (eqb r.number n) (none-parted n rs h.1)
  where
    go : (b : Bool) → NoneGiven (before n rs) × NoneGiven (from n rs)
        → NoneGiven (cond b [] (r ∷ before n rs)) × NoneGiven (cond b (r ∷ rs) (from n rs))
    go true x = (tt, h)
    go false x = ((h.0, x.0), x.1)

pub none-joined : (n : ℕ) (rs : List Row) → NoneGiven (before n rs) → NoneGiven (from n rs) → NoneGiven rs
none-joined n [] h k = tt
none-joined n (r ∷ rs) h k = go (eqb r.number n) h k (none-joined n rs)
  where
    go : (b : Bool) → NoneGiven (cond b [] (r ∷ before n rs)) → NoneGiven (cond b (r ∷ rs) (from n rs))
        → (NoneGiven (before n rs) → NoneGiven (from n rs) → NoneGiven rs) → NoneGiven (r ∷ rs)
    go true h k f = k
    go false h k f = (h.0, f h.1 k)

-- ---- a line taken out

-- where it isn't given
pub without-undue : (n : ℕ) (rs : List Row) (done : Verdict) → (Given n rs → ⊥) → decided rs done ≡ decided (without n rs) done
unfolding decided
without-undue n [] done h = refl
without-undue n (r ∷ rs) done h = go (eqb r.number n) refl r.given refl (without-undue n rs done (λ g. h (inr g)))
  where
    go : (t : Bool) → eqb r.number n ≡ t → (b : Bool) → r.given ≡ b → decided rs done ≡ decided (without n rs) done
        → cond b (Err r.returned) (decided rs done) ≡ decided (cond t (without n rs) (r ∷ without n rs)) done
    go true q true g e = absurd (h (inl (eqb-true r.number n q, g)))
    go true q false g e = e
    go false q b g e = (λ i. cond (sym g i) (Err r.returned) (e i))

-- where it doesn't decide
pub without-undecided : (n : ℕ) (rs : List Row) (done : Verdict) → Numbered rs → (number (decided rs done) ≡ n → ⊥)
    → decided rs done ≡ decided (without n rs) done
unfolding decided
without-undecided n [] done u h = refl
without-undecided n (r ∷ rs) done u h = go (eqb r.number n) refl r.given refl h (without-undecided n rs done u.1)
  where
    go : (t : Bool) → eqb r.number n ≡ t → (b : Bool) → r.given ≡ b
        → (number (cond b (Err r.returned) (decided rs done)) ≡ n → ⊥)
        → ((number (decided rs done) ≡ n → ⊥) → decided rs done ≡ decided (without n rs) done)
        → cond b (Err r.returned) (decided rs done) ≡ decided (cond t (without n rs) (r ∷ without n rs)) done
    go true q true g k e = absurd (k (u.0.same ∙ eqb-true r.number n q))
    go true q false g k e = e k
    go false q true g k e = (λ i. cond (sym g i) (Err r.returned) (decided (without n rs) done))
    go false q false g k e = e k ∙ (λ i. cond (sym g i) (Err r.returned) (decided (without n rs) done))
