-- Keys joined, one after another. Assumes nothing.
use mathlib.Core.Path.{◌≡◌, refl, sym, ap, ap₂, ◌∙◌, subst}
use mathlib.Core.Bool.{Bool, true, false, cond, ◌&&◌}
use Prim.Native.Nat.{ℕ, zero, suc, ◌+◌, ◌-◌, ◌*◌, ◌/◌, ◌≤◌, ◌<◌}
use mathlib.Core.List.{List, [], ◌∷◌, ◌++◌, append_assoc}
use native.Mathlib.Nat.{suc-mul}
use native.Mathlib.Omega.{arith}
use lib.Dec.{eqb, ltb}
use lib.ListN.{length, get_or, set, take}
use lib.Seq.{get_or-set_same}
use borrow.Author.Tests.{eq-eqb, ne_eqb, ltb-true}
use Rattle.std.proofs.lemmas.List.{take-set, take_more}
use Rattle.endian.proofs.Order.{both, three}
use Rattle.ordering.specs.Keys.{number_of, sorted, Each}
use Rattle.ordering.proofs.Sorting.{Asc, asc-sorted}
use Rattle.stretches.specs.Stretches.{start_of, bytes_of, joined_from, joined, ascends_from, ascends, Sized}

-- ---- the digits of a stretch that grows

module _ (s size : ℕ) (h : bytes_of s + size ≤ 256) where
  pub grown-start : start_of (s + size * 256) ≡ start_of s
  grown-start = omega arith

  pub grown-bytes : bytes_of (s + size * 256) ≡ bytes_of s + size
  grown-bytes = omega arith

  pub grown-number : number_of (s + size * 256) ≡ number_of s
  grown-number = omega arith

-- ---- the two ways of a step

module _ (size s last k : ℕ) (K : List ℕ) where
  pub joined-on : start_of last + size ≡ start_of k → joined_from size s last (k ∷ K) ≡ joined_from size (s + size * 256) k K
  unfolding joined_from
  joined-on h = simp (eq-eqb (last / 65536 + size) (k / 65536) h)

  pub joined-new : (start_of last + size ≡ start_of k → ⊥) → joined_from size s last (k ∷ K) ≡ s ∷ joined_from size k k K
  unfolding joined_from
  joined-new h = simp (ne_eqb (last / 65536 + size) (k / 65536) h)

pub same_or : {X : Type 0} (a b : ℕ) → (a ≡ b → X) → ((a ≡ b → ⊥) → X) → X
same_or a b f g = three a b (λ l. g (λ e. omega arith)) f (λ l. g (λ e. omega arith))

-- ---- stretch s ends with the key `last`, and has room for the keys to come

pub record Open (size s last : ℕ) (K : List ℕ) : Type 0 where
  pub end : start_of s + bytes_of s ≡ start_of last + size
  pub fit : bytes_of s + length K * size ≤ 256
  pub each : Each (λ k. bytes_of k ≡ size) K

module _ (size k : ℕ) (K : List ℕ) where
  pub count-next : suc (length K) * size ≡ length K * size + size
  count-next = suc-mul (length K) size

  pub open-first : bytes_of k ≡ size → Each (λ k. bytes_of k ≡ size) K → suc (length K) * size ≤ 256 → Open size k k K
  open-first b e h = record { end = omega arith; fit = omega (arith, count-next); each = e }

  module _ (s last : ℕ) (o : Open size s last (k ∷ K)) where
    pub small : bytes_of s + size ≤ 256
    small = omega (arith, o.fit, count-next)

    pub open-on : start_of last + size ≡ start_of k → Open size (s + size * 256) k K
    open-on h =
        let e0 : bytes_of k ≡ size = o.each.0 in
        record {
          end = omega (arith, grown-start s size small, grown-bytes s size small, o.end);
          fit = omega (arith, grown-bytes s size small, o.fit, count-next);
          each = o.each.1;
        }

    pub open-new : Open size k k K
    open-new = open-first o.each.0 o.each.1 (omega (arith, o.fit))

-- ---- how many stretches there are

-- that doesn't depend on how far the open one has grown
pub open-length : (size s s' last : ℕ) (K : List ℕ) → length (joined_from size s last K) ≡ length (joined_from size s' last K)
unfolding joined_from
open-length size s s' last [] = refl
open-length size s s' last (k ∷ K) =
    go (eqb (start_of last + size) (start_of k)) (open-length size (s + size * 256) (s' + size * 256) k K)
  where
    go : (b : Bool) → length (joined_from size (s + size * 256) k K) ≡ length (joined_from size (s' + size * 256) k K)
        → length (cond b (joined_from size (s + size * 256) k K) (s ∷ joined_from size k k K))
        ≡ length (cond b (joined_from size (s' + size * 256) k K) (s' ∷ joined_from size k k K))
    go true e = e
    go false e = refl

pub open-some : (size s last : ℕ) (K : List ℕ) → 1 ≤ length (joined_from size s last K)
unfolding joined_from
open-some size s last [] = omega arith
open-some size s last (k ∷ K) = go (eqb (start_of last + size) (start_of k)) (open-some size (s + size * 256) k K)
  where
    go : (b : Bool) → 1 ≤ length (joined_from size (s + size * 256) k K)
        → 1 ≤ length (cond b (joined_from size (s + size * 256) k K) (s ∷ joined_from size k k K))
    go true h = h
    go false h = omega arith

-- one stretch is the first key, with the bytes of all
pub open-one : (size s last : ℕ) (K : List ℕ) → length (joined_from size s last K) ≡ 1
    → joined_from size s last K ≡ (s + length K * size * 256) ∷ []
unfolding joined_from
open-one size s last [] e = ap (λ (z : ℕ). z ∷ []) (let w : s ≡ s + 0 * size * 256 = omega arith in w)
open-one size s last (k ∷ K) e = go (eqb (start_of last + size) (start_of k)) (open-one size (s + size * 256) k K) e
  where
    go : (b : Bool)
        → (length (joined_from size (s + size * 256) k K) ≡ 1
        → joined_from size (s + size * 256) k K ≡ (s + size * 256 + length K * size * 256) ∷ [])
        → length (cond b (joined_from size (s + size * 256) k K) (s ∷ joined_from size k k K)) ≡ 1
        → cond b (joined_from size (s + size * 256) k K) (s ∷ joined_from size k k K) ≡ (s + suc (length K) * size * 256) ∷ []
    go true f e =
        f e
        ∙ ap (λ (z : ℕ). z ∷ [])
        (let w : s + size * 256 + length K * size * 256 ≡ s + suc (length K) * size * 256 = omega (arith, suc-mul (length K) size) in w)
    go false f e = absurd (omega (arith, open-some size k k K))

-- ---- keys that are one stretch: each starts where the one before ends

abbrev pub Touching : ℕ → List ℕ → Type 0
Touching size K = (i : ℕ) → i + 1 < length K → start_of (get_or K i 0) + size ≡ start_of (get_or K (i + 1) 0)

touching-behind : (size k : ℕ) (K : List ℕ) → Touching size (k ∷ K) → Touching size K
touching-behind size k K t i h =
    let w : suc i + 1 ≡ suc (i + 1) = omega arith in
    subst (λ (n : ℕ). start_of (get_or (k ∷ K) (suc i) 0) + size ≡ start_of (get_or (k ∷ K) n 0)) w (t (suc i) (omega arith))

touching-one : (size s k : ℕ) (K : List ℕ) → Touching size (k ∷ K) → length (joined_from size s k K) ≡ 1
unfolding joined_from
touching-one size s k [] t = refl
touching-one size s k (x ∷ K) t =
    ap length (joined-on size s k x K (t 0 (omega arith)))
    ∙ touching-one size (s + size * 256) x K (touching-behind size k (x ∷ K) t)

one-touching : (size s k : ℕ) (K : List ℕ) → length (joined_from size s k K) ≡ 1 → Touching size (k ∷ K)
unfolding joined_from
one-touching size s k [] e i h = absurd (omega arith)
one-touching size s k (x ∷ K) e zero h =
    same_or (start_of k + size) (start_of x) (λ q. q)
    (λ q. absurd (omega (arith, e, ap length (joined-new size s k x K q), open-some size x x K)))
one-touching size s k (x ∷ K) e (suc i) h =
    let w : suc (i + 1) ≡ suc i + 1 = omega arith in
    same_or (start_of k + size) (start_of x)
    (λ q.
    subst (λ (n : ℕ). start_of (get_or (x ∷ K) i 0) + size ≡ start_of (get_or (k ∷ x ∷ K) n 0)) w
    (one-touching size (s + size * 256) x K (ap length (sym (joined-on size s k x K q)) ∙ e) i (omega arith)))
    (λ q. absurd (omega (arith, e, ap length (joined-new size s k x K q), open-some size x x K)))

pub told-one : (size : ℕ) (K : List ℕ) (b : Bool) → 0 < length K → (b ≡ true → Touching size K) → (Touching size K → b ≡ true)
    → b ≡ eqb (length (joined size K)) 1
unfolding joined
told-one size [] b h f g = absurd (omega arith)
told-one size (k ∷ K) true h f g = sym (eq-eqb (length (joined_from size k k K)) 1 (touching-one size k k K (f refl)))
told-one size (k ∷ K) false h f g =
    sym (ne_eqb (length (joined_from size k k K)) 1 (λ e. let q = g (one-touching size k k K e) in cc))

pub told-none : (size : ℕ) (K : List ℕ) → length K ≡ 0 → false ≡ eqb (length (joined size K)) 1
unfolding joined
told-none size [] h = refl
told-none size (k ∷ K) h = absurd (omega arith)

-- ---- the stretches so far, of which the last, s, can grow; the keys of `rest` are left

pub record Joining (K : List ℕ) (size : ℕ) (B : List ℕ) (s last m : ℕ) (ascending : Bool) (rest : List ℕ) : Type 0 where
  pub some : 0 < m
  pub few : m + length rest ≤ length K
  pub can : Open size s last rest
  pub here : get_or B (m - 1) 0 ≡ s
  pub same : take (m - 1) B ++ joined_from size s last rest ≡ joined size K
  pub told : ascending && ascends_from size s last rest ≡ ascends size K

pub joining-first : {K R : List ℕ} {size k : ℕ} (B : List ℕ) → K ≡ k ∷ R → Sized K size → length K ≤ length B
    → Joining K size (set B 0 k) k k 1 true R
unfolding joined ascends
joining-first {K} {R} {size} {k} B r z l =
    let e : Each (λ x. bytes_of x ≡ size) (k ∷ R) = subst (Each (λ x. bytes_of x ≡ size)) r z.each in
    record {
      some = omega arith;
      few = omega (arith, ap length r);
      can = open-first size k R e.0 e.1 (subst (λ (X : List ℕ). length X * size ≤ 256) r z.few);
      here = get_or-set_same B 0 k 0 (omega (arith, ap length r));
      same = ap (joined size) (sym r);
      told = ap (ascends size) (sym r);
    }

and_assoc : (a b c : Bool) → (a && b) && c ≡ a && (b && c)
and_assoc true b c = refl
and_assoc false b c = refl

and-true : (b : Bool) → b && true ≡ b
and-true true = refl
and-true false = refl

module _ {K rest B : List ℕ} {size s last m : ℕ} {a : Bool} (j : Joining K size B s last m a rest) (l : length K ≤ length B) where
  -- the open stretch behind those before
  closed : take m B ≡ take (m - 1) B ++ (s ∷ [])
  closed =
      let w : m ≡ (m - 1) + 1 = omega (arith, j.some) in
      ap (λ (n : ℕ). take n B) w ∙ take_more B (m - 1) 0 (omega (arith, j.some, j.few))
      ∙ ap (λ (x : ℕ). take (m - 1) B ++ (x ∷ [])) j.here

  module _ {k : ℕ} {R : List ℕ} (r : rest ≡ k ∷ R) where
    can : Open size s last (k ∷ R)
    can = subst (Open size s last) r j.can

    pub joining-small : bytes_of s + size ≤ 256
    joining-small = small size k R s last can

    pub joining-on : (s' : ℕ) → start_of last + size ≡ start_of k → s' ≡ s + size * 256 → Joining K size (set B (m - 1) s') s' k m a R
    unfolding ascends_from
    joining-on s' h e =
        record {
          some = j.some;
          few = omega (arith, j.few, ap length r);
          can = subst (λ (x : ℕ). Open size x k R) (sym e) (open-on size k R s last can h);
          here = get_or-set_same B (m - 1) s' 0 (omega (arith, j.some, j.few));
          same = ap₂ (λ (X Y : List ℕ). X ++ Y) (take-set B (m - 1) s')
              (ap (λ (x : ℕ). joined_from size x k R) e ∙ sym (ap (joined_from size s last) r ∙ joined-on size s last k R h))
              ∙ j.same;
          told = ap (λ (x : ℕ). a && ascends_from size x k R) e
              ∙ ap (λ (b : Bool). a && cond b (ascends_from size (s + size * 256) k R) (ltb s k && ascends_from size k k R))
              (sym (eq-eqb (start_of last + size) (start_of k) h))
              ∙ ap (λ (X : List ℕ). a && ascends_from size s last X) (sym r) ∙ j.told;
        }

    pub joining-new : (start_of last + size ≡ start_of k → ⊥) → Joining K size (set B m k) k k (m + 1) (a && ltb s k) R
    unfolding ascends_from
    joining-new h =
        let w : (m + 1) - 1 ≡ m = omega arith in
        record {
          some = omega arith;
          few = omega (arith, j.few, ap length r);
          can = open-new size k R s last can;
          here = ap (λ (n : ℕ). get_or (set B m k) n 0) w ∙ get_or-set_same B m k 0 (omega (arith, j.few, ap length r));
          same = ap (λ (X : List ℕ). X ++ joined_from size k k R)
              (ap (λ (n : ℕ). take n (set B m k)) w ∙ take-set B m k ∙ closed)
              ∙ append_assoc (take (m - 1) B) (s ∷ []) (joined_from size k k R)
              ∙ ap (λ (X : List ℕ). take (m - 1) B ++ X) (sym (ap (joined_from size s last) r ∙ joined-new size s last k R h))
              ∙ j.same;
          told = and_assoc a (ltb s k) (ascends_from size k k R)
              ∙ ap (λ (b : Bool). a && cond b (ascends_from size (s + size * 256) k R) (ltb s k && ascends_from size k k R))
              (sym (ne_eqb (start_of last + size) (start_of k) h))
              ∙ ap (λ (X : List ℕ). a && ascends_from size s last X) (sym r) ∙ j.told;
        }

  pub joining-done : rest ≡ [] → (m ≤ length K) × (take m B ≡ joined size K) × (a ≡ ascends size K)
  unfolding joined_from ascends_from
  joining-done r = (
    omega (arith, j.few),
    closed ∙ ap (λ (X : List ℕ). take (m - 1) B ++ joined_from size s last X) (sym r) ∙ j.same,
    sym (and-true a) ∙ ap (λ (X : List ℕ). a && ascends_from size s last X) (sym r) ∙ j.told,
  )

pub joined-none : (K B : List ℕ) (size : ℕ) → length K ≡ 0 → (take 0 B ≡ joined size K) × (true ≡ ascends size K)
unfolding joined ascends
joined-none [] B size h = (refl, refl)
joined-none (k ∷ K) B size h = absurd (omega arith)

-- ---- stretches of which it is told that they ascend are in order
asc-from : (size f s last : ℕ) (K : List ℕ) → f ≤ s → ascends_from size s last K ≡ true → Asc f (joined_from size s last K)
unfolding ascends_from joined_from
asc-from size f s last [] h e = (h, tt)
asc-from size f s last (k ∷ K) h e =
    go (eqb (start_of last + size) (start_of k)) (asc-from size f (s + size * 256) k K (omega arith))
    (λ l. asc-from size s k k K (omega arith)) e
  where
    go : (b : Bool) → (ascends_from size (s + size * 256) k K ≡ true → Asc f (joined_from size (s + size * 256) k K))
        → (s < k → ascends_from size k k K ≡ true → Asc s (joined_from size k k K))
        → cond b (ascends_from size (s + size * 256) k K) (ltb s k && ascends_from size k k K) ≡ true
        → Asc f (cond b (joined_from size (s + size * 256) k K) (s ∷ joined_from size k k K))
    go true p q e = p e
    go false p q e = let r = both (ltb s k) (ascends_from size k k K) e in (h, q (ltb-true s k r.0) r.1)

pub ascends-sorted : (size : ℕ) (K : List ℕ) → ascends size K ≡ true → sorted (joined size K) ≡ joined size K
unfolding ascends joined sorted
ascends-sorted size [] e = refl
ascends-sorted size (k ∷ K) e = asc-sorted 0 (joined_from size k k K) (asc-from size 0 k k K (omega arith) e)
