-- Proofs of what is promised in specs/Statements.antt. Assumes nothing.
use mathlib.Core.Path.{◌≡◌, refl, sym, ap, ap₂, ◌∙◌, subst}
use Prim.Native.Nat.{ℕ, zero, suc, ◌+◌, ◌*◌, ◌≤◌, ◌<◌}
use mathlib.Core.List.{List, [], ◌∷◌, ◌++◌}
use mathlib.Core.Bool.{Bool, true, false, cond}
use mathlib.Core.Option.{Option, none, some}
use native.Mathlib.Omega.{arith}
use lib.ListN.{length, drop, get_or}
use lib.Dec.{eqb}
use borrow.Author.Tests.{eq-eqb, ne_eqb, eqb-true, eqb-false}
use Rattle.std.specs.Prelude.{Ok, Err, is_err}
use Rattle.endian.specs.LittleEndian.{Bytes}
use Rattle.endian.proofs.Order.{two, absurdly}
use Rattle.writes.specs.Sets.{ByteWrite, lookup}
use Rattle.writes.specs.Sizes.{max_bytes}
use Rattle.writes.specs.Encoding.{encode, PatchOf}
use Rattle.writes.proofs.Lookup.{ext-lookup}
use Rattle.patch.specs.Answers.{judged_number}
use Rattle.patch.specs.Judging.{Judged, judged}
use Rattle.patch.specs.Placing.{set_of}
use Rattle.patch.proofs.Patches.{patch-one, patch-judged, judged-set}
use Rattle.comparing.specs.Differences.{Sides, sides, Difference, differ, alike, unlike, Ascends, listed_at, Lists}
use Rattle.comparing.specs.Comparing.{side_number, numbers_of, IsPatch, NoPatch, Differing, Compared, ComparedTo}
use Rattle.comparing.specs.Answers.{compared_number, compared_numbers}
use Rattle.comparing.specs.Merging.{differences, Patches}
use Rattle.comparing.specs.Statements.{OneOutcome, RefusalKeepsList, ListsEach, OneList, NothingDiffers, FewEntries}
use Rattle.comparing.specs.Statements.{exchanged, OtherWayRound, JudgesAlike, CountsEntries, EntriesInNumbers}
use Rattle.comparing.specs.declared.CompareError.TheVariants.{NoRoom, FirstBad, SecondBad}
use Rattle.comparing.proofs.Turning.{small_of}
use Rattle.comparing.proofs.Outcomes.{is-patch, no-patch, patches, differing, compare-first, compare-second, compare-short}
use Rattle.comparing.proofs.Outcomes.{compare-done, lists-one, differing-one}
use Rattle.comparing.proofs.Merged.{listed_here, listed-there}
use Rattle.comparing.proofs.Zipping.{put_all}

-- ---- both sides at an address

unlike-self : (o : Option ℕ) → unlike o o ≡ none
unfolding unlike alike
unlike-self none = refl
unlike-self (some b) = simp (eq-eqb b b refl)

unlike-none : (o p : Option ℕ) → unlike o p ≡ none → o ≡ p
unfolding unlike alike
unlike-none none none e = refl
unlike-none none (some d) e = absurdly cc
unlike-none (some b) none e = absurdly cc
unlike-none (some b) (some d) e = go (eqb b d) refl e
  where
    go : (t : Bool) → eqb b d ≡ t → cond t none (some (sides (some b) (some d))) ≡ none → some b ≡ some d
    go true q r = ap some (eqb-true b d q)
    go false q r = absurdly cc

unlike-some : (o p o' p' : Option ℕ) → unlike o p ≡ some (sides o' p') → (o ≡ p → ⊥) × (o' ≡ o) × (p' ≡ p)
unfolding unlike alike
unlike-some none none o' p' e = absurdly cc
unlike-some none (some d) o' p' e = ((λ q. absurdly cc), (cc), (cc))
unlike-some (some b) none o' p' e = ((λ q. absurdly cc), (cc), (cc))
unlike-some (some b) (some d) o' p' e = go (eqb b d) refl e
  where
    go : (t : Bool) → eqb b d ≡ t → cond t none (some (sides (some b) (some d))) ≡ some (sides o' p')
        → (some b ≡ some d → ⊥) × (o' ≡ some b) × (p' ≡ some d)
    go true q r = absurdly cc
    go false q r = ((λ w. let k : b ≡ d = cc in eqb-false b d q k), (cc), (cc))

some-unlike : (o p : Option ℕ) → (o ≡ p → ⊥) → unlike o p ≡ some (sides o p)
unfolding unlike alike
some-unlike none none h = absurd (h refl)
some-unlike none (some d) h = refl
some-unlike (some b) none h = refl
some-unlike (some b) (some d) h = simp (ne_eqb b d (λ e. h (ap some e)))

pub lists-each : ListsEach
lists-each S T ds h x o p = (
  (λ e. unlike-some (lookup x S) (lookup x T) o p (sym (h.each x) ∙ e)),
  (λ w. h.each x ∙ some-unlike (lookup x S) (lookup x T) w.0 ∙ sym (ap some (ap₂ sides w.1 w.2))),
)

pub one_list : OneList
one_list s t ds ds' a b = differing-one s t ds ds' a b

-- ---- nothing differs

empty-list : (S : List ByteWrite) → Lists S S []
unfolding listed_at
empty-list S = record { ascends = tt; each = λ x. sym (unlike-self (lookup x S)) }

equal-sets : (S T : List ByteWrite) (ds : List Difference) → S ≡ T → Lists S T ds → ds ≡ []
equal-sets S T ds e h = lists-one S S ds [] (subst (λ (z : List ByteWrite). Lists S z ds) (sym e) h) (empty-list S)

equal-strings : (s t : List ℕ) (ds : List Difference) → Differing s t ds → ds ≡ [] → s ≡ t
unfolding listed_at
equal-strings s t ds h e =
    let S = h.one in
    let T = h.two in
    let w : (x : ℕ) → lookup x S ≡ lookup x T =
    λ x. unlike-none (lookup x S) (lookup x T) (sym (h.lists.each x) ∙ ap (listed_at x) e) in
    let q : S ≡ T = ext-lookup 0 S T h.first.within.set h.second.within.set w in
    h.first.bytes ∙ ap encode q ∙ sym h.second.bytes

pub nothing-differs : NothingDiffers
nothing-differs s t ds h = (
  (λ e. equal-strings s t ds h e),
  (λ e.
      let q : h.one ≡ h.two = patch-one h.one h.two t (subst (λ (z : List ℕ). PatchOf h.one z) e h.first) h.second in
      equal-sets h.one h.two ds q h.lists),
)

-- ---- how many

of-both : (s t : List ℕ) (ds : List Difference) → Differing s t ds → Patches s t
of-both s t ds h = record { one = h.one; two = h.two; first = h.first; second = h.second }

pub few-entries : FewEntries
unfolding max_bytes
few-entries s t ds h =
    let k = of-both s t ds h in
    let e = differing-one s t ds (differences (set_of s) (set_of t)) h (differing s t k) in
    omega (arith, small_of s t k, ap length e)

-- ---- the other way round

swapped : Option Sides → Option Sides
swapped none = none
swapped (some (sides o p)) = some (sides p o)

listed-exchanged : (x : ℕ) (ds : List Difference) → listed_at x (exchanged ds) ≡ swapped (listed_at x ds)
unfolding listed_at exchanged swapped
listed-exchanged x [] = refl
listed-exchanged x (differ a o p ∷ ds) = go (eqb x a) (listed-exchanged x ds)
  where
    go : (t : Bool) → listed_at x (exchanged ds) ≡ swapped (listed_at x ds)
        → cond t (some (sides p o)) (listed_at x (exchanged ds)) ≡ swapped (cond t (some (sides o p)) (listed_at x ds))
    go true e = refl
    go false e = e

unlike-swapped : (o p : Option ℕ) → swapped (unlike o p) ≡ unlike p o
unfolding unlike alike swapped
unlike-swapped none none = refl
unlike-swapped none (some d) = refl
unlike-swapped (some b) none = refl
unlike-swapped (some b) (some d) = go (eqb b d) refl
  where
    go : (t : Bool) → eqb b d ≡ t
        → swapped (cond t none (some (sides (some b) (some d)))) ≡ cond (eqb d b) none (some (sides (some d) (some b)))
    go true q = simp (eq-eqb d b (sym (eqb-true b d q)))
    go false q = simp (ne_eqb d b (λ e. eqb-false b d q (sym e)))

ascends-exchanged : (f : ℕ) (ds : List Difference) → Ascends f ds → Ascends f (exchanged ds)
unfolding exchanged
ascends-exchanged f [] g = tt
ascends-exchanged f (differ a o p ∷ ds) g = (g.0, ascends-exchanged (suc a) ds g.1)

pub other-way-round : OtherWayRound
other-way-round s t ds h = record {
  one = h.two;
  two = h.one;
  first = h.second;
  second = h.first;
  lists = record {
    ascends = ascends-exchanged 0 ds h.lists.ascends;
    each = λ x.
        listed-exchanged x ds ∙ ap swapped (h.lists.each x) ∙ unlike-swapped (lookup x h.one) (lookup x h.two);
  };
}

-- ---- exactly one outcome

pub refusal-keeps-list : RefusalKeepsList
unfolding ComparedTo
refusal-keeps-list s t l (Ok n) l' h f = absurd (f refl)
refusal-keeps-list s t l (Err (NoRoom n)) l' h f = h.2
refusal-keeps-list s t l (Err FirstBad) l' h f = h.1
refusal-keeps-list s t l (Err SecondBad) l' h f = h.2

only-first : (s t l : List ℕ) → NoPatch s → (r : Compared) (l' : List ℕ) → ComparedTo s t l r l' → (r ≡ Err FirstBad) × (l' ≡ l)
unfolding ComparedTo
only-first s t l g (Ok n) l' h = absurd (g h.1.one h.1.first)
only-first s t l g (Err (NoRoom n)) l' h = absurd (g h.0.1.one h.0.1.first)
only-first s t l g (Err FirstBad) l' h = (refl, h.1)
only-first s t l g (Err SecondBad) l' h = absurd (g h.0.0 h.0.1)

only-second : (s t l : List ℕ) → IsPatch s → NoPatch t → (r : Compared) (l' : List ℕ) → ComparedTo s t l r l'
    → (r ≡ Err SecondBad) × (l' ≡ l)
unfolding ComparedTo
only-second s t l k g (Ok n) l' h = absurd (g h.1.two h.1.second)
only-second s t l k g (Err (NoRoom n)) l' h = absurd (g h.0.1.two h.0.1.second)
only-second s t l k g (Err FirstBad) l' h = absurd (h.0 k.0 k.1)
only-second s t l k g (Err SecondBad) l' h = (refl, h.2)

module _ (s t l : List ℕ) (ds : List Difference) (d : Differing s t ds) where
  only-short : length l < 3 * length ds → (r : Compared) (l' : List ℕ) → ComparedTo s t l r l' → (r ≡ Err (NoRoom (length ds))) × (l' ≡ l)
  unfolding ComparedTo
  only-short m (Ok n) l' h =
      let e = differing-one s t h.0 ds h.1 d in absurd (omega (arith, m, h.3, h.2, ap length e))
  only-short m (Err (NoRoom n)) l' h =
      let e = differing-one s t h.0.0 ds h.0.1 d in (ap (λ (k : ℕ). Err (NoRoom k)) (h.0.2 ∙ ap length e), h.2)
  only-short m (Err FirstBad) l' h = absurd (h.0 d.one d.first)
  only-short m (Err SecondBad) l' h = absurd (h.1 d.two d.second)

  only-done : 3 * length ds ≤ length l → (r : Compared) (l' : List ℕ) → ComparedTo s t l r l'
      → (r ≡ Ok (length ds)) × (l' ≡ numbers_of ds ++ drop (3 * length ds) l)
  unfolding ComparedTo
  only-done m (Ok n) l' h =
      let e = differing-one s t h.0 ds h.1 d in
      let q : n ≡ length ds = h.2 ∙ ap length e in
      (ap Ok q, h.4 ∙ ap₂ (λ (x : List Difference) (k : ℕ). numbers_of x ++ drop (3 * k) l) e q)
  only-done m (Err (NoRoom n)) l' h =
      let e = differing-one s t h.0.0 ds h.0.1 d in absurd (omega (arith, m, h.1, h.0.2, ap length e))
  only-done m (Err FirstBad) l' h = absurd (h.0 d.one d.first)
  only-done m (Err SecondBad) l' h = absurd (h.1 d.two d.second)

abbrev Outcome : List ℕ → List ℕ → List ℕ → Type 0
Outcome s t l =
    (r : Compared)
    × (l' : List ℕ)
    × ComparedTo s t l r l'
    × ((r₁ : Compared) (l₁ : List ℕ) → ComparedTo s t l r₁ l₁ → (r₁ ≡ r) × (l₁ ≡ l'))

of-patches : (s t l : List ℕ) → Patches s t → Outcome s t l
of-patches s t l h =
    let D = differences (set_of s) (set_of t) in
    let d = differing s t h in
    two (length l) (3 * length D)
    (λ m. (Err (NoRoom (length D)), l, compare-short s t l (length D) h refl m, only-short s t l D d m))
    (λ m. (
      Ok (length D),
      numbers_of D ++ drop (3 * length D) l,
      compare-done s t l (numbers_of D ++ drop (3 * length D) l) (length D) h refl m (sym (put_all l D m)),
      only-done s t l D d m,
    ))

pub one-outcome : OneOutcome
one-outcome s t l hs ht = go (is_err (judged s)) refl (is_err (judged t)) refl
  where
    go : (a : Bool) → is_err (judged s) ≡ a → (b : Bool) → is_err (judged t) ≡ b → Outcome s t l
    go true e b f =
        let n = no-patch s e in
        (Err FirstBad, l, compare-first s t l n, only-first s t l n)
    go false e true f =
        let p = is-patch s hs e in
        let n = no-patch t f in
        (Err SecondBad, l, compare-second s t l p n, only-second s t l p n)
    go false e false f = of-patches s t l (patches s t (is-patch s hs e) (is-patch t ht f))

-- ---- 9 as judging says it

judged-nine : (s : List ℕ) → Bytes s → (j : Judged) → judged s ≡ j → judged_number j ≡ 9 → NoPatch s
judged-nine s hb (Ok z) q e S h = absurd (omega (arith, e))
judged-nine s hb (Err z) q e S h = let w = patch-judged S s h in absurdly cc

nine-judged : (s : List ℕ) → Bytes s → (j : Judged) → judged s ≡ j → NoPatch s → judged_number j ≡ 9
nine-judged s hb (Ok z) q f = absurd (f (set_of s) (judged-set s z hb q).0)
nine-judged s hb (Err z) q f = refl

judged-zero : (s : List ℕ) → Bytes s → (j : Judged) → judged s ≡ j → judged_number j ≡ 0 → IsPatch s
judged-zero s hb (Ok z) q e = (set_of s, (judged-set s z hb q).0)
judged-zero s hb (Err z) q e = absurd (omega (arith, e))

zero-judged : (s : List ℕ) → (j : Judged) → judged s ≡ j → IsPatch s → judged_number j ≡ 0
zero-judged s (Ok z) q f = refl
zero-judged s (Err z) q f = let w = patch-judged f.0 s f.1 in absurdly cc

-- by the numbers of an answer
first-told : (s t l : List ℕ) (r : Compared) (l' : List ℕ) → ComparedTo s t l r l' → compared_number r ≡ 9
    → compared_numbers r ≡ 0 ∷ 0 ∷ 0 ∷ 0 ∷ 0 ∷ [] → NoPatch s
unfolding ComparedTo
first-told s t l (Ok n) l' h e q = absurd (omega (arith, e))
first-told s t l (Err (NoRoom n)) l' h e q = absurd (omega (arith, e))
first-told s t l (Err FirstBad) l' h e q = h.0
first-told s t l (Err SecondBad) l' h e q = absurdly cc

second-told : (s t l : List ℕ) (r : Compared) (l' : List ℕ) → ComparedTo s t l r l' → compared_number r ≡ 9
    → compared_numbers r ≡ 1 ∷ 0 ∷ 0 ∷ 0 ∷ 0 ∷ [] → IsPatch s × NoPatch t
unfolding ComparedTo
second-told s t l (Ok n) l' h e q = absurd (omega (arith, e))
second-told s t l (Err (NoRoom n)) l' h e q = absurd (omega (arith, e))
second-told s t l (Err FirstBad) l' h e q = absurdly cc
second-told s t l (Err SecondBad) l' h e q = (h.0, h.1)

pub judges_alike : JudgesAlike
judges_alike s t l hs ht r l' h = (
  (
    (λ e. nine-judged s hs (judged s) refl (first-told s t l r l' h e.0 e.1)),
    (λ e.
        let w = (only-first s t l (judged-nine s hs (judged s) refl e) r l' h).0 in
        (ap compared_number w, ap compared_numbers w)),
  ),
  (
    (λ e.
        let w = second-told s t l r l' h e.0 e.1 in
        (zero-judged s (judged s) refl w.0, nine-judged t ht (judged t) refl w.1)),
    (λ e.
        let w = (only-second s t l (judged-zero s hs (judged s) refl e.0) (judged-nine t ht (judged t) refl e.1) r l' h).0 in
        (ap compared_number w, ap compared_numbers w)),
  ),
)

-- ---- the entries, in numbers

pub counts-entries : CountsEntries
counts-entries s t l ds d r l' h =
    two (length l) (3 * length ds)
    (λ m.
    let w = (only-short s t l ds d m r l' h).0 in
    let n : compared_number r ≡ 8 = ap compared_number w in
    (((λ e. absurd (omega arith)), (λ e. absurd (omega arith))), ((λ e. m), (λ e. n)), ap compared_numbers w))
    (λ m.
    let w = (only-done s t l ds d m r l' h).0 in
    let n : compared_number r ≡ 0 = ap compared_number w in
    (((λ e. m), (λ e. n)), ((λ e. absurd (omega arith)), (λ e. absurd (omega arith))), ap compared_numbers w))

-- the k-th entry: its address is listed, with its two sides
record Entry (ds : List Difference) (f k : ℕ) : Type 0 where
  one : Option ℕ
  other : Option ℕ
  above : f ≤ get_or (numbers_of ds) (3 * k) 0
  listed : listed_at (get_or (numbers_of ds) (3 * k) 0) ds ≡ some (sides one other)
  first : get_or (numbers_of ds) (3 * k + 1) 0 ≡ side_number one
  second : get_or (numbers_of ds) (3 * k + 2) 0 ≡ side_number other

entry : (ds : List Difference) (f k : ℕ) → Ascends f ds → k < length ds → Entry ds f k
unfolding numbers_of
entry [] f k g h = absurd (omega arith)
entry (differ a o p ∷ ds) f zero g h =
    record { one = o; other = p; above = g.0; listed = listed_here a a o p ds refl; first = refl; second = refl }
entry (differ a o p ∷ ds) f (suc k) g h =
    let r = entry ds (suc a) k g.1 (omega arith) in
    let l : List ℕ = a ∷ side_number o ∷ side_number p ∷ numbers_of ds in
    let at : (i : ℕ) → get_or l (3 * suc k + i) 0 ≡ get_or (numbers_of ds) (3 * k + i) 0 =
    λ i. ap (λ (z : ℕ). get_or l z 0) {x = 3 * suc k + i} {y = suc (suc (suc (3 * k + i)))} (omega arith) in
    let x : get_or l (3 * suc k) 0 ≡ get_or (numbers_of ds) (3 * k) 0 =
    ap (λ (z : ℕ). get_or l z 0) {x = 3 * suc k} {y = suc (suc (suc (3 * k)))} (omega arith) in
    record {
      one = r.one;
      other = r.other;
      above = omega (arith, x, r.above, g.0);
      listed =
          ap (λ (z : ℕ). listed_at z (differ a o p ∷ ds)) x
          ∙ listed-there (get_or (numbers_of ds) (3 * k) 0) a o p ds (λ e. omega (arith, r.above)) ∙ r.listed;
      first = at 1 ∙ r.first;
      second = at 2 ∙ r.second;
    }

pub entries-in-numbers : EntriesInNumbers
entries-in-numbers S T ds d k h =
    let r = entry ds 0 k d.ascends h in
    let x = get_or (numbers_of ds) (3 * k) 0 in
    let w = unlike-some (lookup x S) (lookup x T) r.one r.other (sym (d.each x) ∙ r.listed) in
    (r.first ∙ ap side_number w.1, r.second ∙ ap side_number w.2)
