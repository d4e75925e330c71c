-- Two sets walked side by side: the next step of each kind, parts at once, and that what is found is what differs. Assumes nothing.
use mathlib.Core.Path.{◌≡◌, refl, sym, ap, ap₂, ◌∙◌, subst}
use Prim.Native.Nat.{ℕ, suc, ◌+◌, ◌≤◌}
use mathlib.Core.List.{List, [], ◌∷◌, ◌++◌}
use mathlib.Core.Bool.{Bool, true, false, cond}
use mathlib.Core.Option.{Option, none, some}
use native.Mathlib.Omega.{arith}
use lib.ListN.{length}
use lib.Dec.{eqb}
use borrow.Author.Tests.{lt-ltb, le-ltb, eq-eqb, ne_eqb, eqb-true, eqb-false}
use Rattle.writes.specs.Sets.{ByteWrite, write, Ascending, lookup, writes_at}
use Rattle.endian.proofs.Order.{three}
use Rattle.writes.proofs.Lookup.{lookup-here, lookup-there, lookup-below}
use Rattle.comparing.specs.Differences.{sides, Difference, differ, alike, unlike, Ascends, listed_at, Lists}
use Rattle.comparing.specs.Merging.{seconds, against, differences, zipped}

-- ---- one step

-- a set starts at x or above
abbrev pub From : ℕ → List ByteWrite → Type 0
From x [] = Unit {0}
From x (write c d ∷ T) = x ≤ c

from_less : (x y : ℕ) (T : List ByteWrite) → x ≤ y → From y T → From x T
from_less x y [] h g = tt
from_less x y (write c d ∷ T) h g = let k : y ≤ c = g in omega arith

pub first_alone : (a b : ℕ) (S T : List ByteWrite) → From (suc a) T
    → differences (write a b ∷ S) T ≡ differ a (some b) none ∷ differences S T
unfolding differences against
first_alone a b S [] h = refl
first_alone a b S (write c d ∷ T) h = let k : suc a ≤ c = h in simp (lt-ltb a c (omega arith))

pub second-alone : (c d : ℕ) (S T : List ByteWrite) → From (suc c) S
    → differences S (write c d ∷ T) ≡ differ c none (some d) ∷ differences S T
unfolding differences against seconds
second-alone c d [] T h = refl
second-alone c d (write a b ∷ S) T h = let k : suc c ≤ a = h in simp (le-ltb a c (omega arith), lt-ltb c a (omega arith))

both_at : (a b d : ℕ) (S T : List ByteWrite)
    → differences (write a b ∷ S) (write a d ∷ T)
    ≡ cond (eqb b d) (differences S T) (differ a (some b) (some d) ∷ differences S T)
unfolding differences against
both_at a b d S T = simp (le-ltb a a (omega arith))

-- ---- parts at once

pub first_part : (a : ℕ) (p : List ℕ) (S T : List ByteWrite) → From (a + length p) T
    → differences (writes_at a p ++ S) T ≡ zipped a p [] ++ differences S T
unfolding writes_at zipped
first_part a [] S T h = refl
first_part a (b ∷ p) S T h =
    let w : From (suc a + length p) T = from_less (suc a + length p) (a + suc (length p)) T (omega arith) h in
    first_alone a b (writes_at (suc a) p ++ S) T (from_less (suc a) (a + suc (length p)) T (omega arith) h)
    ∙ ap (λ (z : List Difference). differ a (some b) none ∷ z) (first_part (suc a) p S T w)

pub second-part : (a : ℕ) (q : List ℕ) (S T : List ByteWrite) → From (a + length q) S
    → differences S (writes_at a q ++ T) ≡ zipped a [] q ++ differences S T
unfolding writes_at zipped
second-part a [] S T h = refl
second-part a (d ∷ q) S T h =
    let w : From (suc a + length q) S = from_less (suc a + length q) (a + suc (length q)) S (omega arith) h in
    second-alone a d S (writes_at (suc a) q ++ T) (from_less (suc a) (a + suc (length q)) S (omega arith) h)
    ∙ ap (λ (z : List Difference). differ a none (some d) ∷ z) (second-part (suc a) q S T w)

pub both-part : (a : ℕ) (p q : List ℕ) (S T : List ByteWrite) → length p ≡ length q
    → differences (writes_at a p ++ S) (writes_at a q ++ T) ≡ zipped a p q ++ differences S T
unfolding writes_at zipped
both-part a [] [] S T h = refl
both-part a [] (d ∷ q) S T h = absurd (omega (arith, h))
both-part a (b ∷ p) [] S T h = absurd (omega (arith, h))
both-part a (b ∷ p) (d ∷ q) S T h =
    both_at a b d (writes_at (suc a) p ++ S) (writes_at (suc a) q ++ T)
    ∙ go (eqb b d) _ (zipped (suc a) p q) (both-part (suc a) p q S T (omega (arith, h)))
  where
    go : (t : Bool) (X Z : List Difference) → X ≡ Z ++ differences S T
        → cond t X (differ a (some b) (some d) ∷ X) ≡ cond t Z (differ a (some b) (some d) ∷ Z) ++ differences S T
    go true X Z e = e
    go false X Z e = ap (λ (z : List Difference). differ a (some b) (some d) ∷ z) e

-- ---- how the list comes about

pub data Merged : List ByteWrite → List ByteWrite → List Difference → Type 0 where
  neither : Merged [] [] []
  firsts : {a b : ℕ} {S T : List ByteWrite} {ds : List Difference} → From (suc a) T → Merged S T ds
      → Merged (write a b ∷ S) T (differ a (some b) none ∷ ds)
  others : {c d : ℕ} {S T : List ByteWrite} {ds : List Difference} → From (suc c) S → Merged S T ds
      → Merged S (write c d ∷ T) (differ c none (some d) ∷ ds)
  equals : {a b : ℕ} {S T : List ByteWrite} {ds : List Difference} → Merged S T ds → Merged (write a b ∷ S) (write a b ∷ T) ds
  unequal : {a b d : ℕ} {S T : List ByteWrite} {ds : List Difference} → (b ≡ d → ⊥) → Merged S T ds
      → Merged (write a b ∷ S) (write a d ∷ T) (differ a (some b) (some d) ∷ ds)

merged-seconds : (T : List ByteWrite) → Merged [] T (seconds T)
unfolding seconds
merged-seconds [] = neither
merged-seconds (write c d ∷ T) = others tt (merged-seconds T)

merged-both : (a b d : ℕ) (S T : List ByteWrite) → Merged S T (differences S T)
    → Merged (write a b ∷ S) (write a d ∷ T) (differences (write a b ∷ S) (write a d ∷ T))
merged-both a b d S T m =
    subst (λ (z : List Difference). Merged (write a b ∷ S) (write a d ∷ T) z) (sym (both_at a b d S T)) (go (eqb b d) refl)
  where
    go : (t : Bool) → eqb b d ≡ t
        → Merged (write a b ∷ S) (write a d ∷ T) (cond t (differences S T) (differ a (some b) (some d) ∷ differences S T))
    go true e =
        subst (λ (z : ℕ). Merged (write a b ∷ S) (write a z ∷ T) (differences S T)) (eqb-true b d e) (equals m)
    go false e = unequal (eqb-false b d e) m

merged-against : (a b : ℕ) (S : List ByteWrite) → ((T : List ByteWrite) → Merged S T (differences S T)) → (T : List ByteWrite)
    → Merged (write a b ∷ S) T (differences (write a b ∷ S) T)
merged-against a b S m [] =
    subst (λ (z : List Difference). Merged (write a b ∷ S) [] z) (sym (first_alone a b S [] tt)) (firsts tt (m []))
merged-against a b S m (write c d ∷ T) =
    three a c
    (λ l.
    let h : From (suc a) (write c d ∷ T) = omega arith in
    subst (λ (z : List Difference). Merged (write a b ∷ S) (write c d ∷ T) z) (sym (first_alone a b S (write c d ∷ T) h))
    (firsts h (m (write c d ∷ T))))
    (λ e.
    subst (λ (z : ℕ). Merged (write a b ∷ S) (write z d ∷ T) (differences (write a b ∷ S) (write z d ∷ T))) e
    (merged-both a b d S T (m T)))
    (λ l.
    let h : From (suc c) (write a b ∷ S) = omega arith in
    subst (λ (z : List Difference). Merged (write a b ∷ S) (write c d ∷ T) z) (sym (second-alone c d (write a b ∷ S) T h))
    (others h (merged-against a b S m T)))

pub merged : (S T : List ByteWrite) → Merged S T (differences S T)
unfolding differences
merged [] T = merged-seconds T
merged (write a b ∷ S) T = merged-against a b S (merged S) T

-- ---- it is what differs

pub merged-length : {S T : List ByteWrite} {ds : List Difference} → Merged S T ds → length ds ≤ length S + length T
merged-length neither = omega arith
merged-length (firsts h m) = omega (arith, merged-length m)
merged-length (others h m) = omega (arith, merged-length m)
merged-length (equals m) = omega (arith, merged-length m)
merged-length (unequal h m) = omega (arith, merged-length m)

raised : (x f : ℕ) (T : List ByteWrite) → From x T → Ascending f T → Ascending x T
raised x f [] h g = tt
raised x f (write c d ∷ T) h g = (h, g.1, g.2, g.3)

lower : (x y : ℕ) (ds : List Difference) → x ≤ y → Ascends y ds → Ascends x ds
lower x y [] h g = tt
lower x y (differ a o p ∷ ds) h g = let k : y ≤ a = g.0 in (omega arith, g.1)

merged-ascends : (f : ℕ) {S T : List ByteWrite} {ds : List Difference} → Ascending f S → Ascending f T → Merged S T ds → Ascends f ds
merged-ascends f g h neither = tt
merged-ascends f g h (firsts {a} {b} {S} {T} {ds} k m) =
    let u : f ≤ a = g.0 in (u, merged-ascends (suc a) g.3 (raised (suc a) f T k h) m)
merged-ascends f g h (others {c} {d} {S} {T} {ds} k m) =
    let u : f ≤ c = h.0 in (u, merged-ascends (suc c) (raised (suc c) f S k g) h.3 m)
merged-ascends f g h (equals {a} {b} {S} {T} {ds} m) =
    let u : f ≤ a = g.0 in lower f (suc a) ds (omega arith) (merged-ascends (suc a) g.3 h.3 m)
merged-ascends f g h (unequal {a} {b} {d} {S} {T} {ds} k m) = (g.0, merged-ascends (suc a) g.3 h.3 m)

pub listed_here : (x a : ℕ) (o p : Option ℕ) (ds : List Difference) → x ≡ a → listed_at x (differ a o p ∷ ds) ≡ some (sides o p)
unfolding listed_at
listed_here x a o p ds e = simp (eq-eqb x a e)

pub listed-there : (x a : ℕ) (o p : Option ℕ) (ds : List Difference) → (x ≡ a → ⊥) → listed_at x (differ a o p ∷ ds) ≡ listed_at x ds
unfolding listed_at
listed-there x a o p ds e = simp (ne_eqb x a e)

-- at an address or at another
at-or-not : {X : Type 0} (x a : ℕ) → (x ≡ a → X) → ((x ≡ a → ⊥) → X) → X
at-or-not x a f g = three x a (λ l. g (λ e. omega arith)) f (λ l. g (λ e. omega arith))

unlike-same : (b : ℕ) → unlike (some b) (some b) ≡ none
unfolding unlike alike
unlike-same b = simp (eq-eqb b b refl)

unlike-other : (b d : ℕ) → (b ≡ d → ⊥) → unlike (some b) (some d) ≡ some (sides (some b) (some d))
unfolding unlike alike
unlike-other b d h = simp (ne_eqb b d h)

look : (x a b : ℕ) (S : List ByteWrite) → x ≡ a → lookup x (write a b ∷ S) ≡ some b
look x a b S e = ap (λ (z : ℕ). lookup z (write a b ∷ S)) e ∙ lookup-here a b S

pub merged-each : (f : ℕ) {S T : List ByteWrite} {ds : List Difference} → Ascending f S → Ascending f T → Merged S T ds → (x : ℕ)
    → listed_at x ds ≡ unlike (lookup x S) (lookup x T)
unfolding lookup listed_at unlike alike
merged-each f g h neither x = refl
merged-each f g h (firsts {a} {b} {S} {T} {ds} k m) x =
    let t = raised (suc a) f T k h in
    at-or-not x a
    (λ e.
    listed_here x a (some b) none ds e
    ∙ sym (ap₂ unlike (look x a b S e) (lookup-below x (suc a) T t (omega arith))))
    (λ n.
    listed-there x a (some b) none ds n
    ∙ merged-each (suc a) g.3 t m x
    ∙ ap (λ (o : Option ℕ). unlike o (lookup x T)) (sym (lookup-there x a b S n)))
merged-each f g h (others {c} {d} {S} {T} {ds} k m) x =
    let s = raised (suc c) f S k g in
    at-or-not x c
    (λ e.
    listed_here x c none (some d) ds e
    ∙ sym (ap₂ unlike (lookup-below x (suc c) S s (omega arith)) (look x c d T e)))
    (λ n.
    listed-there x c none (some d) ds n
    ∙ merged-each (suc c) s h.3 m x
    ∙ ap (unlike (lookup x S)) (sym (lookup-there x c d T n)))
merged-each f g h (equals {a} {b} {S} {T} {ds} m) x =
    let i = merged-each (suc a) g.3 h.3 m x in
    at-or-not x a
    (λ e.
    i
    ∙ ap₂ unlike (lookup-below x (suc a) S g.3 (omega arith)) (lookup-below x (suc a) T h.3 (omega arith))
    ∙ sym (ap₂ unlike (look x a b S e) (look x a b T e) ∙ unlike-same b))
    (λ n. i ∙ ap₂ unlike (sym (lookup-there x a b S n)) (sym (lookup-there x a b T n)))
merged-each f g h (unequal {a} {b} {d} {S} {T} {ds} k m) x =
    at-or-not x a
    (λ e.
    listed_here x a (some b) (some d) ds e
    ∙ sym (ap₂ unlike (look x a b S e) (look x a d T e) ∙ unlike-other b d k))
    (λ n.
    listed-there x a (some b) (some d) ds n
    ∙ merged-each (suc a) g.3 h.3 m x
    ∙ ap₂ unlike (sym (lookup-there x a b S n)) (sym (lookup-there x a d T n)))

pub differences-listed : (S T : List ByteWrite) → Ascending 0 S → Ascending 0 T → Lists S T (differences S T)
differences-listed S T g h =
    record { ascends = merged-ascends 0 g h (merged S T); each = merged-each 0 g h (merged S T) }
