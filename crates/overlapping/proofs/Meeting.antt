-- Stretches that share a byte, joined and in order, are just those of keys that do: one pass over the stretches tells. Assumes nothing.
use mathlib.Core.Path.{◌≡◌, refl, sym, ap, ap₂, ◌∙◌}
use Prim.Native.Nat.{ℕ, ◌+◌, ◌*◌, ◌≤◌, ◌<◌}
use mathlib.Core.Bool.{Bool, true, false, not, cond, ◌||◌}
use mathlib.Core.List.{List, [], ◌∷◌}
use native.Mathlib.Omega.{arith}
use lib.ListN.{length}
use borrow.Author.Tests.{lt-ltb, le-ltb}
use Rattle.std.specs.Prelude.{is_some, Some}
use Rattle.endian.proofs.Order.{two}
use Rattle.ordering.specs.Keys.{filed, sorted, Each}
use Rattle.ordering.proofs.Sorting.{filed-past, filed-here}
use Rattle.stretches.specs.Stretches.{start_of, bytes_of, end_of, joined_from, joined, Rising}
use Rattle.stretches.proofs.Joining.{grown-start, grown-bytes, joined-on, joined-new, same_or, Open, open-first, open-on, open-new, small}
use Rattle.overlapping.specs.Overlaps.{parted, meets, meets_any, meeting_from, first_meeting}

-- two of the stretches meet
unfoldable pub clash : List ℕ → Bool
unfolding meets_any
clash [] = false
clash (k ∷ K) = meets_any (start_of k) (end_of k) K || clash K

-- ---- two intervals

module _ (a b c d : ℕ) where
  pub meets-yes : a < d → c < b → meets a b c d ≡ true
  unfolding meets
  meets-yes h k = simp (lt-ltb a d h, lt-ltb c b k)

  pub meets-left : d ≤ a → meets a b c d ≡ false
  unfolding meets
  meets-left h = simp (le-ltb a d h)

  pub meets-right : b ≤ c → meets a b c d ≡ false
  unfolding meets
  meets-right h = two a d (λ k. simp (lt-ltb a d k, le-ltb c b h)) (λ k. meets-left k)

meets-swap : (a b c d : ℕ) → meets a b c d ≡ meets c d a b
meets-swap a b c d =
    two a d
    (λ h. two c b (λ k. meets-yes a b c d h k ∙ sym (meets-yes c d a b k h)) (λ k. meets-right a b c d k ∙ sym (meets-left c d a b k)))
    (λ h. meets-left a b c d h ∙ sym (meets-right c d a b h))

-- one that ends where the other starts, and both as one
meets-join : (a b c d e : ℕ) → a < b → c < d → d < e → meets a b c e ≡ meets a b c d || meets a b d e
meets-join a b c d e h k l =
    let r : Bool → Bool = λ t. t || meets a b d e in
    two a d
    (λ p.
    two c b
    (λ q. meets-yes a b c e (omega arith) q ∙ sym (ap r (meets-yes a b c d p q)))
    (λ q. meets-right a b c e q ∙ sym (ap r (meets-right a b c d q) ∙ meets-right a b d e (omega arith))))
    (λ p.
    two a e
    (λ q. meets-yes a b c e q (omega arith) ∙ sym (ap r (meets-left a b c d p) ∙ meets-yes a b d e q (omega arith)))
    (λ q. meets-left a b c e q ∙ sym (ap r (meets-left a b c d p) ∙ meets-left a b d e q)))

-- ---- sums of tests

or_assoc : (a b c : Bool) → (a || b) || c ≡ a || (b || c)
or_assoc true b c = refl
or_assoc false b c = refl

or_swap : (a b c : Bool) → a || (b || c) ≡ b || (a || c)
or_swap true true c = refl
or_swap true false c = refl
or_swap false true c = refl
or_swap false false c = refl

exchange : (a b c d : Bool) → (a || b) || (c || d) ≡ (a || c) || (b || d)
exchange a b c d =
    or_assoc a b (c || d) ∙ ap (λ (t : Bool). a || t) (or_swap b c d) ∙ sym (or_assoc a c (b || d))

-- ---- the order doesn't matter

meets_any-filed : (a b k : ℕ) (K : List ℕ) → meets_any a b (filed k K) ≡ meets a b (start_of k) (end_of k) || meets_any a b K
unfolding filed meets_any
meets_any-filed a b k [] = refl
meets_any-filed a b k (x ∷ K) =
    two x k
    (λ p.
    ap (meets_any a b) (filed-past k x K p) ∙ ap (λ (t : Bool). meets a b (start_of x) (end_of x) || t) (meets_any-filed a b k K)
    ∙ or_swap (meets a b (start_of x) (end_of x)) (meets a b (start_of k) (end_of k)) (meets_any a b K))
    (λ p. ap (meets_any a b) (filed-here k x K p))

clash-filed : (k : ℕ) (K : List ℕ) → clash (filed k K) ≡ clash (k ∷ K)
unfolding filed meets_any clash
clash-filed k [] = refl
clash-filed k (x ∷ K) =
    let a : ℕ = start_of k in
    let b : ℕ = end_of k in
    let c : ℕ = start_of x in
    let d : ℕ = end_of x in
    two x k
    (λ p.
    ap clash (filed-past k x K p)
    ∙ ap₂ ◌||◌ (meets_any-filed c d k K ∙ ap (λ (t : Bool). t || meets_any c d K) (meets-swap c d a b)) (clash-filed k K)
    ∙ exchange (meets a b c d) (meets_any c d K) (meets_any a b K) (clash K))
    (λ p. ap clash (filed-here k x K p))

pub clash-sorted : (K : List ℕ) → clash (sorted K) ≡ clash K
unfolding sorted clash meets_any
clash-sorted [] = refl
clash-sorted (k ∷ K) = clash-filed k (sorted K) ∙ ap₂ ◌||◌ (any-sorted K) (clash-sorted K)
  where
    any-sorted : (K : List ℕ) → meets_any (start_of k) (end_of k) (sorted K) ≡ meets_any (start_of k) (end_of k) K
    any-sorted [] = refl
    any-sorted (x ∷ K) =
        meets_any-filed (start_of k) (end_of k) x (sorted K)
        ∙ ap (λ (t : Bool). meets (start_of k) (end_of k) (start_of x) (end_of x) || t) (any-sorted K)

-- ---- joined keys

-- from c up to d and from there up to e, as one
any-join : (c d e : ℕ) (K : List ℕ) → c < d → d < e → meets_any c e K ≡ meets_any c d K || meets_any d e K
unfolding meets_any
any-join c d e [] h l = refl
any-join c d e (x ∷ K) h l =
    let a : ℕ = start_of x in
    let b : ℕ = end_of x in
    ap₂ ◌||◌
    (meets-swap c e a b ∙ meets-join a b c d e (omega arith) h l ∙ ap₂ ◌||◌ (meets-swap a b c d) (meets-swap a b d e))
    (any-join c d e K h l)
    ∙ exchange (meets c d a b) (meets d e a b) (meets_any c d K) (meets_any d e K)

module _ (size : ℕ) where
  any-from : (a b s last : ℕ) (K : List ℕ) → a < b → Open size s last K
      → meets_any a b (joined_from size s last K) ≡ meets a b (start_of s) (end_of s) || meets_any a b K
  unfolding joined_from meets_any
  any-from a b s last [] h o = refl
  any-from a b s last (k ∷ K) h o =
      let e0 : bytes_of k ≡ size = o.each.0 in
      same_or (start_of last + size) (start_of k)
      (λ q.
      let s' : ℕ = s + size * 256 in
      let g = grown-start s size (small size k K s last o) in
      let f = grown-bytes s size (small size k K s last o) in
      let u : end_of s ≡ start_of k = omega (arith, o.end) in
      let v : end_of s' ≡ end_of k = omega (arith, o.end) in
      ap (meets_any a b) (joined-on size s last k K q) ∙ any-from a b s' k K h (open-on size k K s last o q)
      ∙ ap (λ (t : Bool). t || meets_any a b K)
      (ap₂ (λ (y z : ℕ). meets a b y z) g v ∙ meets-join a b (start_of s) (end_of s) (end_of k) h (omega arith) (omega arith)
      ∙ ap (λ (y : ℕ). meets a b (start_of s) (end_of s) || meets a b y (end_of k)) u)
      ∙ or_assoc (meets a b (start_of s) (end_of s)) (meets a b (start_of k) (end_of k)) (meets_any a b K))
      (λ q.
      ap (meets_any a b) (joined-new size s last k K q)
      ∙ ap (λ (t : Bool). meets a b (start_of s) (end_of s) || t) (any-from a b k k K h (open-new size k K s last o)))

  clash-from : (s last : ℕ) (K : List ℕ) → Open size s last K → clash (joined_from size s last K) ≡ clash (s ∷ K)
  unfolding joined_from clash meets_any
  clash-from s last [] o = refl
  clash-from s last (k ∷ K) o =
      let e0 : bytes_of k ≡ size = o.each.0 in
      let a : ℕ = start_of s in
      let b : ℕ = end_of s in
      let c : ℕ = start_of k in
      let d : ℕ = end_of k in
      same_or (start_of last + size) (start_of k)
      (λ q.
      let s' : ℕ = s + size * 256 in
      let g = grown-start s size (small size k K s last o) in
      let f = grown-bytes s size (small size k K s last o) in
      let u : b ≡ c = omega (arith, o.end) in
      let v : end_of s' ≡ d = omega (arith, o.end) in
      ap clash (joined-on size s last k K q) ∙ clash-from s' k K (open-on size k K s last o q)
      ∙ ap (λ (t : Bool). t || clash K)
      (ap₂ (λ (y z : ℕ). meets_any y z K) g v ∙ any-join a b d K (omega arith) (omega arith)
      ∙ ap (λ (y : ℕ). meets_any a b K || meets_any y d K) u)
      ∙ or_assoc (meets_any a b K) (meets_any c d K) (clash K)
      ∙ ap (λ (t : Bool). (t || meets_any a b K) || (meets_any c d K || clash K)) (sym (meets-right a b c d (omega arith))))
      (λ q.
      ap clash (joined-new size s last k K q)
      ∙ ap₂ ◌||◌ (any-from a b k k K (omega arith) (open-new size k K s last o)) (clash-from k k K (open-new size k K s last o)))

  pub clash-joined : (K : List ℕ) → Each (λ k. bytes_of k ≡ size) K → length K * size ≤ 256 → clash (joined size K) ≡ clash K
  unfolding joined clash
  clash-joined [] e h = refl
  clash-joined (k ∷ K) e h = clash-from k k K (open-first size k K e.0 e.1 h)

-- ---- ascending stretches: the neighbours decide

module _ (L : ℕ) where
  none-beyond : (a f q : ℕ) (K : List ℕ) → f ≤ q → Rising L q K → meets_any a f K ≡ false
  unfolding meets_any
  none-beyond a f q [] h r = refl
  none-beyond a f q (k ∷ K) h r =
      let r0 : q ≤ start_of k = r.0 in
      ap₂ ◌||◌ (meets-right a f (start_of k) (end_of k) (omega arith)) (none-beyond a f (start_of k) K (omega arith) r.2)

  parted-from : (p f : ℕ) (K : List ℕ) → p < f → Rising L p K → not (parted f K) ≡ meets_any p f K || clash K
  unfolding parted clash meets_any
  parted-from p f [] h r = refl
  parted-from p f (k ∷ K) h r =
      let r0 : p ≤ start_of k = r.0 in
      let rest : Bool = parted (end_of k) K in
      two (start_of k) f
      (λ l.
      ap (λ (t : Bool). not (cond t false rest)) (lt-ltb (start_of k) f l)
      ∙ sym (ap (λ (t : Bool). (t || meets_any p f K) || (meets_any (start_of k) (end_of k) K || clash K))
      (meets-yes p f (start_of k) (end_of k) (omega arith) l)))
      (λ l.
      ap (λ (t : Bool). not (cond t false rest)) (le-ltb (start_of k) f l)
      ∙ parted-from (start_of k) (end_of k) K (omega arith) r.2
      ∙ sym (ap₂ (λ (t u : Bool). (t || u) || (meets_any (start_of k) (end_of k) K || clash K))
      (meets-right p f (start_of k) (end_of k) l) (none-beyond p f (start_of k) K l r.2)))

  pub parted-clash : (K : List ℕ) → Rising L 0 K → not (parted 0 K) ≡ clash K
  unfolding parted clash
  parted-clash [] r = refl
  parted-clash (k ∷ K) r =
      ap (λ (t : Bool). not (cond t false (parted (end_of k) K))) (le-ltb (start_of k) 0 (omega arith))
      ∙ parted-from (start_of k) (end_of k) K (omega arith) r.2

-- ---- keys: one meets a lower one just where two meet

-- one of the keys meets a lower one, of those that stand before them all
unfoldable met_by : List ℕ → List ℕ → Bool
met_by lower [] = false
met_by lower (k ∷ K) = meets_any (start_of k) (end_of k) lower || met_by lower K

met-none : (K : List ℕ) → met_by [] K ≡ false
unfolding met_by meets_any
met-none [] = refl
met-none (k ∷ K) = met-none K

met-more : (x : ℕ) (lower K : List ℕ) → met_by (x ∷ lower) K ≡ meets_any (start_of x) (end_of x) K || met_by lower K
unfolding met_by meets_any
met-more x lower [] = refl
met-more x lower (k ∷ K) =
    let a : ℕ = start_of x in
    let b : ℕ = end_of x in
    let c : ℕ = start_of k in
    let d : ℕ = end_of k in
    ap₂ ◌||◌ (ap (λ (t : Bool). t || meets_any c d lower) (meets-swap c d a b)) (met-more x lower K)
    ∙ exchange (meets a b c d) (meets_any c d lower) (meets_any a b K) (met_by lower K)

found_from : (lower K : List ℕ) → is_some (meeting_from lower K) ≡ met_by lower K || clash K
unfolding meeting_from met_by clash
found_from lower [] = refl
found_from lower (k ∷ K) =
    let a : ℕ = start_of k in
    let b : ℕ = end_of k in
    go (meets_any a b lower) (is_some (meeting_from (k ∷ lower) K))
    ∙ ap (λ (t : Bool). meets_any a b lower || t)
    (found_from (k ∷ lower) K ∙ ap (λ (t : Bool). t || clash K) (met-more k lower K ∙ or-flip (meets_any a b K) (met_by lower K))
    ∙ or_assoc (met_by lower K) (meets_any a b K) (clash K))
    ∙ sym (or_assoc (meets_any a b lower) (met_by lower K) (meets_any a b K || clash K))
  where
    go : (t u : Bool) → is_some (cond t (Some k) (meeting_from (k ∷ lower) K)) ≡ t || is_some (meeting_from (k ∷ lower) K)
    go true u = refl
    go false u = refl

    or-flip : (t u : Bool) → t || u ≡ u || t
    or-flip true true = refl
    or-flip true false = refl
    or-flip false true = refl
    or-flip false false = refl

pub found-clash : (K : List ℕ) → is_some (first_meeting K) ≡ clash K
found-clash K = found_from [] K ∙ ap (λ (t : Bool). t || clash K) (met-none K)

-- what a pass over the stretches in order tells of the keys
pub parted-keys : (L size : ℕ) (K : List ℕ) → Each (λ k. bytes_of k ≡ size) K → length K * size ≤ 256 → Rising L 0 (sorted (joined size K))
    → not (parted 0 (sorted (joined size K))) ≡ is_some (first_meeting K)
parted-keys L size K e few r =
    parted-clash L (sorted (joined size K)) r ∙ clash-sorted (joined size K) ∙ clash-joined size K e few ∙ sym (found-clash K)
