-- Which addresses intervals cover. Assumes nothing.
use mathlib.Core.Path.{◌≡◌, refl, sym, ap, ◌∙◌}
use Prim.Native.Nat.{ℕ, ◌+◌, ◌-◌, ◌≤◌, ◌<◌}
use mathlib.Core.List.{List, [], ◌∷◌}
use mathlib.Core.Bool.{Bool, true, false, cond}
use mathlib.Core.Option.{Option, none, some, or_else}
use native.Mathlib.Omega.{arith}
use lib.ListN.{length}
use lib.Dec.{ltb}
use borrow.Author.Tests.{lt-ltb, le-ltb}
use Rattle.writes.specs.Sets.{lookup, writes_at}
use Rattle.endian.proofs.Order.{two}
use Rattle.writes.proofs.Lookup.{lookup-writes_at-below, lookup-writes_at-past, lookup-writes_at-at}
use Rattle.stretches.specs.Intervals.{Interval, interval}

-- x is one of the n addresses from s on
unfoldable pub among : ℕ → ℕ → ℕ → Bool
among s n x = cond (ltb x s) false (ltb x (s + n))

abbrev pub or : Bool → Bool → Bool
or true t = true
or false t = t

-- address x lies in one of the intervals of the window at W
unfoldable pub covered : ℕ → ℕ → List Interval → Bool
covered W x [] = false
covered W x (interval s n ∷ I) = or (among (W + s) n x) (covered W x I)

among-yes : (s n x : ℕ) → s ≤ x → x < s + n → among s n x ≡ true
unfolding among
among-yes s n x h k = simp (le-ltb x s h, lt-ltb x (s + n) k)

pub among-low : (s n x : ℕ) → x < s → among s n x ≡ false
unfolding among
among-low s n x h = simp (lt-ltb x s h)

pub among-high : (s n x : ℕ) → s + n ≤ x → among s n x ≡ false
unfolding among
among-high s n x h = simp (le-ltb x s (omega arith), le-ltb x (s + n) h)

pub or_swap : (a b t : Bool) → or a (or b t) ≡ or b (or a t)
or_swap true true t = refl
or_swap true false t = refl
or_swap false true t = refl
or_swap false false t = refl

pub or_assoc : (a b t : Bool) → or (or a b) t ≡ or a (or b t)
or_assoc true b t = refl
or_assoc false b t = refl

-- two that meet or touch together are one
pub hull : (W x s e a n : ℕ) → s < e → s ≤ a + n → a ≤ e
    → among (W + (s - (s - a))) (e + (a + n - e) - (s - (s - a))) x ≡ or (among (W + s) (e - s) x) (among (W + a) n x)
hull W x s e a n h k m =
    let t : ℕ = s - (s - a) in
    let l : ℕ = e + (a + n - e) - (s - (s - a)) in
    let second : Bool → Bool = λ u. or u (among (W + a) n x) in
    two x (W + s)
    (λ p.
    two x (W + a)
    (λ q. among-low (W + t) l x (omega arith) ∙ sym (ap second (among-low (W + s) (e - s) x p) ∙ among-low (W + a) n x q))
    (λ q.
    among-yes (W + t) l x (omega arith) (omega arith)
    ∙ sym (ap second (among-low (W + s) (e - s) x p) ∙ among-yes (W + a) n x q (omega arith))))
    (λ p.
    two x (W + e)
    (λ q. among-yes (W + t) l x (omega arith) (omega arith) ∙ sym (ap second (among-yes (W + s) (e - s) x p (omega arith))))
    (λ q.
    two x (W + a + n)
    (λ z.
    among-yes (W + t) l x (omega arith) (omega arith)
    ∙ sym (ap second (among-high (W + s) (e - s) x (omega arith)) ∙ among-yes (W + a) n x (omega arith) z))
    (λ z. among-high (W + t) l x (omega arith) ∙ sym (ap second (among-high (W + s) (e - s) x (omega arith)) ∙ among-high (W + a) n x z))))

-- ---- the addresses of a set

abbrev pub is_some : Option ℕ → Bool
is_some none = false
is_some (some b) = true

pub some-writes_at : (x s : ℕ) (p : List ℕ) → is_some (lookup x (writes_at s p)) ≡ among s (length p) x
some-writes_at x s p =
    two x s
    (λ h. ap is_some (lookup-writes_at-below x s p h) ∙ sym (among-low s (length p) x h))
    (λ h.
    two x (s + length p)
    (λ k.
    let w : x ≡ s + (x - s) = omega arith in
    ap is_some (ap (λ (z : ℕ). lookup z (writes_at s p)) w ∙ lookup-writes_at-at (x - s) s p (omega arith))
    ∙ sym (among-yes s (length p) x h k))
    (λ k. ap is_some (lookup-writes_at-past x s p k) ∙ sym (among-high s (length p) x k)))

pub some_or : (o o' : Option ℕ) → is_some (or_else o o') ≡ or (is_some o) (is_some o')
unfolding or_else
some_or none o' = refl
some_or (some b) o' = refl
