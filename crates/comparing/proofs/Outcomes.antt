-- What comparing answers, from what its tests say; each answer is the only one. Assumes nothing.
use mathlib.Core.Path.{◌≡◌, refl, sym, ap, ap₂, ◌∙◌, subst}
use Prim.Native.Nat.{ℕ, suc, ◌*◌, ◌/◌, ◌≤◌, ◌<◌}
use mathlib.Core.List.{List, [], ◌∷◌, ◌++◌}
use mathlib.Core.Bool.{true, false}
use mathlib.Core.Option.{Option, none, some}
use native.Mathlib.Omega.{arith}
use lib.ListN.{length, drop}
use borrow.Author.Tests.{lt-ltb, le-ltb}
use Rattle.std.specs.Prelude.{Some, None, Ok, Err, is_err}
use Rattle.endian.specs.LittleEndian.{Bytes}
use Rattle.endian.proofs.Order.{three, two, absurdly}
use Rattle.writes.specs.Sets.{ByteWrite}
use Rattle.patch.specs.Judging.{Judged, judged}
use Rattle.patch.specs.Placing.{set_of}
use Rattle.patch.proofs.Patches.{patch-one, patch-set, patch-judged, judged-set}
use Rattle.comparing.specs.Differences.{Sides, sides, Difference, differ, Ascends, listed_at, Lists}
use Rattle.comparing.specs.Comparing.{numbers_of, IsPatch, NoPatch, Differing, ComparedTo}
use Rattle.comparing.specs.Merging.{differences, put, lacking, Patches}
use Rattle.comparing.specs.declared.CompareError.TheVariants.{NoRoom, FirstBad, SecondBad}
use Rattle.comparing.proofs.Merged.{differences-listed, listed_here, listed-there}
use Rattle.comparing.proofs.Zipping.{put_all}

-- ---- whether a string is a patch

pub is-patch : (s : List ℕ) → Bytes s → is_err (judged s) ≡ false → IsPatch s
is-patch s hb e = go (judged s) refl e
  where
    go : (j : Judged) → judged s ≡ j → is_err j ≡ false → IsPatch s
    go (Ok z) q w = (set_of s, (judged-set s z hb q).0)
    go (Err n) q w = absurdly cc

pub no-patch : (s : List ℕ) → is_err (judged s) ≡ true → NoPatch s
no-patch s e S h =
    let w : false ≡ true = ap (λ (j : Judged). is_err j) (sym (patch-judged S s h)) ∙ e in
    absurdly cc

pub patches : (s t : List ℕ) → IsPatch s → IsPatch t → Patches s t
patches s t g h = record { one = g.0; two = h.0; first = g.1; second = h.1 }

-- ---- each answer

pub differing : (s t : List ℕ) → Patches s t → Differing s t (differences (set_of s) (set_of t))
differing s t h =
    let S = h.one in
    let T = h.two in
    let e : differences S T ≡ differences (set_of s) (set_of t) =
    sym (ap₂ differences (patch-set S s h.first) (patch-set T t h.second)) in
    record {
      one = S;
      two = T;
      first = h.first;
      second = h.second;
      lists = subst (Lists S T) e (differences-listed S T h.first.within.set h.second.within.set);
    }

pub compare-first : (s t l : List ℕ) → NoPatch s → ComparedTo s t l (Err FirstBad) l
unfolding ComparedTo
compare-first s t l h = (h, refl)

pub compare-second : (s t l : List ℕ) → IsPatch s → NoPatch t → ComparedTo s t l (Err SecondBad) l
unfolding ComparedTo
compare-second s t l g h = (g, h, refl)

-- what is lacking, and that nothing is
pub lacking-some : (m n : ℕ) → m < 3 * n → Some n ≡ lacking m n
unfolding lacking
lacking-some m n h = simp (lt-ltb m (3 * n) h)

pub lacking-none : (m n : ℕ) → 3 * n ≤ m → None ≡ lacking m n
unfolding lacking
lacking-none m n h = simp (le-ltb m (3 * n) h)

pub lacks-some : (m n r : ℕ) → Some r ≡ lacking m n → (r ≡ n) × (m < 3 * n)
lacks-some m n r e =
    two m (3 * n) (λ l. let w = e ∙ sym (lacking-some m n l) in ((cc), l)) (λ l. let w = e ∙ sym (lacking-none m n l) in absurdly cc)

pub lacks-none : (m n : ℕ) → None ≡ lacking m n → 3 * n ≤ m
lacks-none m n e = two m (3 * n) (λ l. let w = e ∙ sym (lacking-some m n l) in absurdly cc) (λ l. l)

pub thirds : (m n : ℕ) → m ≡ 3 * n → m / 3 ≡ n
thirds m n e = omega arith

pub compare-short : (s t l : List ℕ) (n : ℕ) → Patches s t → n ≡ length (differences (set_of s) (set_of t)) → length l < 3 * n
    → ComparedTo s t l (Err (NoRoom n)) l
unfolding ComparedTo
compare-short s t l n h e m = ((differences (set_of s) (set_of t), differing s t h, e), m, refl)

pub compare-done : (s t l l' : List ℕ) (n : ℕ) → Patches s t → n ≡ length (differences (set_of s) (set_of t)) → 3 * n ≤ length l
    → l' ≡ put 0 l (differences (set_of s) (set_of t)) → ComparedTo s t l (Ok n) l'
unfolding ComparedTo
compare-done s t l l' n h e m el =
    let D = differences (set_of s) (set_of t) in (
      D,
      differing s t h,
      e,
      m,
      el ∙ put_all l D (omega (arith, e, m)) ∙ ap (λ (k : ℕ). numbers_of D ++ drop (3 * k) l) (sym e),
    )

-- ---- one list of what differs

listed_below : (x f : ℕ) (ds : List Difference) → Ascends f ds → x < f → listed_at x ds ≡ none
unfolding listed_at
listed_below x f [] g h = refl
listed_below x f (differ a o p ∷ ds) g h =
    let u : f ≤ a = g.0 in
    listed-there x a o p ds (λ e. omega arith) ∙ listed_below x (suc a) ds g.1 (omega arith)

nowhere : {X : Type 0} (x : Sides) → none ≡ some x → X
nowhere x e = absurdly cc

module _ (a : ℕ) (o p o' p' : Option ℕ) (ds ds' : List Difference) (g : Ascends (suc a) ds) (g' : Ascends (suc a) ds')
    (h : (x : ℕ) → listed_at x (differ a o p ∷ ds) ≡ listed_at x (differ a o' p' ∷ ds')) where
  tails : (x : ℕ) → listed_at x ds ≡ listed_at x ds'
  tails x =
      three x a
      (λ l. listed_below x (suc a) ds g (omega arith) ∙ sym (listed_below x (suc a) ds' g' (omega arith)))
      (λ e. listed_below x (suc a) ds g (omega arith) ∙ sym (listed_below x (suc a) ds' g' (omega arith)))
      (λ l.
      let n : x ≡ a → ⊥ = λ e. omega arith in
      sym (listed-there x a o p ds n) ∙ h x ∙ listed-there x a o' p' ds' n)

  heads : some (sides o p) ≡ some (sides o' p')
  heads = sym (listed_here a a o p ds refl) ∙ h a ∙ listed_here a a o' p' ds' refl

same_start : (a a' : ℕ) (o p o' p' : Option ℕ) (ds ds' : List Difference) → a ≡ a' → Ascends (suc a) ds → Ascends (suc a') ds'
    → ((x : ℕ) → listed_at x (differ a o p ∷ ds) ≡ listed_at x (differ a' o' p' ∷ ds'))
    → (Ascends (suc a) ds' → ((x : ℕ) → listed_at x ds ≡ listed_at x ds') → ds ≡ ds') → differ a o p ∷ ds ≡ differ a' o' p' ∷ ds'
same_start a a' o p o' p' ds ds' e g g' h ih =
    let k : Ascends (suc a) ds' = subst (λ (z : ℕ). Ascends (suc z) ds') (sym e) g' in
    let m : (x : ℕ) → listed_at x (differ a o p ∷ ds) ≡ listed_at x (differ a o' p' ∷ ds') =
    subst (λ (z : ℕ). (x : ℕ) → listed_at x (differ a o p ∷ ds) ≡ listed_at x (differ z o' p' ∷ ds')) (sym e) h in
    let w : some (sides o p) ≡ some (sides o' p') = heads a o p o' p' ds ds' g k m in
    let t : ds ≡ ds' = ih k (tails a o p o' p' ds ds' g k m) in
    cc

pub one_list : (f : ℕ) (ds ds' : List Difference) → Ascends f ds → Ascends f ds' → ((x : ℕ) → listed_at x ds ≡ listed_at x ds') → ds ≡ ds'
unfolding listed_at
one_list f [] [] g g' h = refl
one_list f [] (differ a o p ∷ ds) g g' h = nowhere (sides o p) (h a ∙ listed_here a a o p ds refl)
one_list f (differ a o p ∷ ds) [] g g' h = nowhere (sides o p) (sym (h a) ∙ listed_here a a o p ds refl)
one_list f (differ a o p ∷ ds) (differ a' o' p' ∷ ds') g g' h =
    three a a'
    (λ l.
    nowhere (sides o p)
    (sym (listed_below a a' (differ a' o' p' ∷ ds') (omega arith, g'.1) l) ∙ sym (h a) ∙ listed_here a a o p ds refl))
    (λ e. same_start a a' o p o' p' ds ds' e g.1 g'.1 h (λ k m. one_list (suc a) ds ds' g.1 k m))
    (λ l.
    nowhere (sides o' p')
    (sym (listed_below a' a (differ a o p ∷ ds) (omega arith, g.1) l) ∙ h a' ∙ listed_here a' a' o' p' ds' refl))

pub lists-one : (S T : List ByteWrite) (ds ds' : List Difference) → Lists S T ds → Lists S T ds' → ds ≡ ds'
lists-one S T ds ds' a b = one_list 0 ds ds' a.ascends b.ascends (λ x. a.each x ∙ sym (b.each x))

pub differing-one : (s t : List ℕ) (ds ds' : List Difference) → Differing s t ds → Differing s t ds' → ds ≡ ds'
differing-one s t ds ds' a b =
    let eS = patch-one a.one b.one s a.first b.first in
    let eT = patch-one a.two b.two t a.second b.second in
    let w : Lists b.one b.two ds =
    subst (λ (z : List ByteWrite). Lists b.one z ds) eT (subst (λ (z : List ByteWrite). Lists z a.two ds) eS a.lists) in
    lists-one b.one b.two ds ds' w b.lists
