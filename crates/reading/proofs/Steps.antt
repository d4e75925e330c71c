-- One step of reading: the test of a run, a head from its bytes and back, and what each answer says. Assumes nothing.
use mathlib.Core.Path.{◌≡◌, refl, sym, ap, ap₂, ◌∙◌, subst}
use Prim.Native.Nat.{ℕ, zero, suc, ◌+◌, ◌-◌, ◌^◌, ◌≤◌, ◌<◌}
use mathlib.Core.List.{List, [], ◌∷◌, ◌++◌}
use mathlib.Core.Bool.{Bool, true, false, cond}
use native.Mathlib.Omega.{arith}
use lib.ListN.{length, take, drop, get_or, length-append, length-drop}
use lib.Seq.{drop-drop, take_at, drop_at}
use lib.Dec.{leb, ltb, eqb}
use borrow.Author.Tests.{lt-ltb, le-ltb, le-leb, eq-eqb, ltb-true, ltb-false, leb-true, eqb-true}
use Rattle.std.specs.Prelude.{Option, Some, None}
use Rattle.endian.specs.LittleEndian.{Bytes, le_val, le_bytes}
use Rattle.writes.specs.Sizes.{max_runs, max_bytes}
use Rattle.writes.specs.Encoding.{run_then, trailer}
use Rattle.endian.proofs.Order.{told}
use Rattle.endian.proofs.LittleEndian.{le_val-le_bytes, le_bytes-part}
use Rattle.endian.proofs.Parts.{length_part, drop-split}
use Rattle.reading.specs.Reader.{head_of, head_at, floor_of, admits, past, on_head, step_at}
use Rattle.reading.specs.declared.Head.{Head}
use Rattle.reading.specs.declared.Head.TheVariants.{Start, Trailer}
use Rattle.reading.specs.declared.Step.{Step}
use Rattle.reading.specs.declared.Step.TheVariants.{Next, End}
use Rattle.reading.specs.declared.Cursor.{Cursor}

-- ---- the test of a run, as a fact

pub record Admits (c : Cursor) (start n : ℕ) : Type 0 where
  pub one : 1 ≤ n
  pub few : c.runs < max_runs
  pub small : c.bytes + n ≤ max_bytes
  pub top : start + n ≤ 2 ^ 64
  pub gap : floor_of c.runs c.last ≤ start

pub floor-zero : (k l : ℕ) → k ≡ 0 → floor_of k l ≡ 0
unfolding floor_of
floor-zero zero l e = refl
floor-zero (suc k) l e = absurd (omega arith)

pub floor-pos : (k l : ℕ) → (k ≡ 0 → ⊥) → floor_of k l ≡ l + 2
unfolding floor_of
floor-pos zero l e = absurd (e refl)
floor-pos (suc k) l e = refl

pub admits-true : (c : Cursor) (start n : ℕ) → Admits c start n → admits c start n ≡ true
unfolding admits
admits-true c start n a =
    simp (
      le-leb 1 n a.one,
      lt-ltb c.runs max_runs a.few,
      le-leb (c.bytes + n) max_bytes a.small,
      le-leb (start + n) (2 ^ 64) a.top,
      le-leb (floor_of c.runs c.last) start a.gap,
    )

pub admits-inv : (c : Cursor) (start n : ℕ) → admits c start n ≡ true → Admits c start n
unfolding admits
admits-inv c start n e =
    let floor = floor_of c.runs c.last in
    let t = told (leb 1 n) (ltb c.runs max_runs ∷ leb (c.bytes + n) max_bytes ∷ leb (start + n) (2 ^ 64) ∷ leb floor start ∷ []) e in
    record {
      one = leb-true 1 n t.0;
      few = ltb-true c.runs max_runs t.1.0;
      small = leb-true (c.bytes + n) max_bytes t.1.1.0;
      top = leb-true (start + n) (2 ^ 64) t.1.1.1.0;
      gap = leb-true floor start t.1.1.1.1.0;
    }

pub admits-false : (c : Cursor) (start n : ℕ) → (Admits c start n → ⊥) → admits c start n ≡ false
admits-false c start n h = go (admits c start n) refl
  where
    go : (t : Bool) → admits c start n ≡ t → t ≡ false
    go true e = absurd (h (admits-inv c start n e))
    go false e = refl

-- ---- a head, from its bytes and back

-- what a head says of the bytes
pub record RunAt (l : List ℕ) (s n : ℕ) : Type 0 where
  pub long : 12 ≤ length l
  pub mark0 : get_or l 0 0 ≡ 0x50
  pub mark1 : get_or l 1 0 ≡ 0x52
  pub start : le_val (take 8 (drop 2 l)) ≡ s
  pub count : le_val (take 2 (drop 10 l)) ≡ n
  pub fits : n ≤ length l - 12

pub record TrailerAt (l : List ℕ) (k : ℕ) : Type 0 where
  pub long : 4 ≤ length l
  pub mark0 : get_or l 0 0 ≡ 0x50
  pub mark1 : get_or l 1 0 ≡ 0x45
  pub count : le_val (take 2 (drop 2 l)) ≡ k

pub head-run : (l : List ℕ) (s n : ℕ) → RunAt l s n → head_of l ≡ Some (Start s n)
unfolding head_of
head-run l s n h =
    simp (
      h.mark0,
      h.mark1,
      h.start,
      h.count,
      le-ltb (length l) 4 (omega arith),
      le-ltb (length l) 12 h.long,
      le-ltb (length l - 12) n h.fits,
    )

pub head-trailer : (l : List ℕ) (k : ℕ) → TrailerAt l k → head_of l ≡ Some (Trailer k)
unfolding head_of
head-trailer l k h = simp (h.mark0, h.mark1, h.count, le-ltb (length l) 4 h.long)

-- what the tests say of a head that they end in
Tests : (a b c e f g : Bool) (k n s : ℕ) → Option Head → Type 0
Tests a b c e f g k n s None = Unit {0}
Tests a b c e f g k n s (Some (Trailer k')) = (a ≡ false) × (b ≡ true) × (c ≡ true) × (k ≡ k')
Tests a b c e f g k n s (Some (Start s' n')) =
    (a ≡ false) × (b ≡ true) × (e ≡ true) × (f ≡ false) × (g ≡ false) × (s ≡ s') × (n ≡ n')

tests : (a b c e f g : Bool) (k n s : ℕ)
    → Tests a b c e f g k n s
    (cond a None (cond b (cond c (Some (Trailer k)) (cond e (cond f None (cond g None (Some (Start s n)))) None)) None))
unfolding Tests
tests true b c e f g k n s = tt
tests false false c e f g k n s = tt
tests false true true e f g k n s = (refl, refl, refl, refl)
tests false true false false f g k n s = tt
tests false true false true true g k n s = tt
tests false true false true false true k n s = tt
tests false true false true false false k n s = (refl, refl, refl, refl, refl, refl, refl)

TestsAt : List ℕ → Option Head → Type 0
TestsAt l =
    Tests (ltb (length l) 4) (eqb (get_or l 0 0) 0x50) (eqb (get_or l 1 0) 0x45) (eqb (get_or l 1 0) 0x52) (ltb (length l) 12)
    (ltb (length l - 12) (le_val (take 2 (drop 10 l)))) (le_val (take 2 (drop 2 l))) (le_val (take 2 (drop 10 l)))
    (le_val (take 8 (drop 2 l)))

tests-at : (l : List ℕ) (h : Option Head) → head_of l ≡ h → TestsAt l h
unfolding head_of TestsAt
tests-at l h e = subst (TestsAt l) e (tests _ _ _ _ _ _ _ _ _)

pub head-run-inv : (l : List ℕ) (s n : ℕ) → head_of l ≡ Some (Start s n) → RunAt l s n
unfolding TestsAt Tests
head-run-inv l s n e =
    let t = tests-at l (Some (Start s n)) e in
    record {
      long = ltb-false (length l) 12 t.3;
      mark0 = eqb-true (get_or l 0 0) 0x50 t.1;
      mark1 = eqb-true (get_or l 1 0) 0x52 t.2;
      start = t.5;
      count = t.6;
      fits = rw (sym t.6) (ltb-false (length l - 12) (le_val (take 2 (drop 10 l))) t.4);
    }

pub head-trailer-inv : (l : List ℕ) (k : ℕ) → head_of l ≡ Some (Trailer k) → TrailerAt l k
unfolding TestsAt Tests
head-trailer-inv l k e =
    let t = tests-at l (Some (Trailer k)) e in
    record {
      long = ltb-false (length l) 4 t.0;
      mark0 = eqb-true (get_or l 0 0) 0x50 t.1;
      mark1 = eqb-true (get_or l 1 0) 0x45 t.2;
      count = t.3;
    }

-- ---- a head's bytes, as the encoding writes them

two-cons : (l : List ℕ) → 2 ≤ length l → l ≡ get_or l 0 0 ∷ get_or l 1 0 ∷ drop 2 l
two-cons [] h = absurd (omega arith)
two-cons (a ∷ []) h = absurd (omega arith)
two-cons (a ∷ b ∷ l) h = refl

pub run-bytes : (l : List ℕ) (s n : ℕ) → Bytes l → RunAt l s n → l ≡ run_then s (take n (drop 12 l)) (drop (12 + n) l)
unfolding run_then
run-bytes l s n hb h =
    let n' : length (take n (drop 12 l)) ≡ le_val (take 2 (drop 10 l)) = length_part l 12 n (omega arith) ∙ sym h.count in
    let start : le_bytes 8 s ≡ take 8 (drop 2 l) = ap (le_bytes 8) (sym h.start) ∙ le_bytes-part l 2 8 hb (omega arith) in
    let count : le_bytes 2 (length (take n (drop 12 l))) ≡ take 2 (drop 10 l) = ap (le_bytes 2) n' ∙ le_bytes-part l 10 2 hb (omega arith) in
    two-cons l (omega arith)
    ∙ ap₂ (λ (x y : ℕ). x ∷ y ∷ drop 2 l) h.mark0 h.mark1
    ∙ ap (λ (r : List ℕ). 0x50 ∷ 0x52 ∷ r)
    (drop-split l 2 8
    ∙ ap₂ (λ (x y : List ℕ). x ++ y) (sym start)
    (drop-split l 10 2 ∙ ap₂ (λ (x y : List ℕ). x ++ y) (sym count) (drop-split l 12 n)))

pub trailer-bytes : (l : List ℕ) (k : ℕ) → Bytes l → TrailerAt l k → l ≡ trailer k ++ drop 4 l
unfolding trailer
trailer-bytes l k hb h =
    let count : le_bytes 2 k ≡ take 2 (drop 2 l) = ap (le_bytes 2) (sym h.count) ∙ le_bytes-part l 2 2 hb (omega arith) in
    two-cons l (omega arith)
    ∙ ap₂ (λ (x y : ℕ). x ∷ y ∷ drop 2 l) h.mark0 h.mark1
    ∙ ap (λ (r : List ℕ). 0x50 ∷ 0x45 ∷ r) (drop-split l 2 2 ∙ ap (λ (r : List ℕ). r ++ drop 4 l) (sym count))

-- the encoding's own head
pub run_of : (s : ℕ) (p rest : List ℕ) → s < 2 ^ 64 → length p < 65536 → RunAt (run_then s p rest) s (length p)
unfolding run_then le_bytes
run_of s p rest hs hp =
    record {
      long = omega arith;
      mark0 = refl;
      mark1 = refl;
      start = le_val-le_bytes 8 s hs;
      count = le_val-le_bytes 2 (length p) hp;
      fits = simp length-append (omega arith);
    }

pub trailer-of : (k : ℕ) (rest : List ℕ) → k < 65536 → TrailerAt (trailer k ++ rest) k
unfolding trailer le_bytes
trailer-of k rest h = record { long = omega arith; mark0 = refl; mark1 = refl; count = le_val-le_bytes 2 k h }

pub drop-run : (s : ℕ) (p rest : List ℕ) → drop 12 (run_then s p rest) ≡ p ++ rest
unfolding run_then le_bytes
drop-run s p rest = refl

-- ---- one step

pub past-floor : (c : Cursor) (start n : ℕ) → 1 ≤ n → floor_of (past c start n).runs (past c start n).last ≡ start + n + 1
unfolding past
past-floor c start n h = floor-pos (c.runs + 1) (start + (n - 1)) (λ e. omega arith) ∙ omega arith

pub step-next : (s : List ℕ) (c : Cursor) (st : ℕ) (p rest : List ℕ) → drop c.at s ≡ run_then st p rest → Admits c st (length p)
    → length p < 65536 → step_at s c ≡ Some (Next st (c.at + 12) (length p) (past c st (length p)))
unfolding step_at head_at on_head
step-next s c st p rest e a h =
    let hs : st < 2 ^ 64 = omega arith in
    let hd : head_of (drop c.at s) ≡ Some (Start st (length p)) =
    ap head_of e ∙ head-run (run_then st p rest) st (length p) (run_of st p rest hs h) in
    ap (on_head c) hd ∙ simp (admits-true c st (length p) a)

pub step_end : (s : List ℕ) (c : Cursor) (rest : List ℕ) → drop c.at s ≡ trailer c.runs ++ rest → c.runs < 65536
    → step_at s c ≡ Some (End (c.at + 4))
unfolding step_at head_at on_head
step_end s c rest e h =
    ap (on_head c) (ap head_of e ∙ head-trailer (trailer c.runs ++ rest) c.runs (trailer-of c.runs rest h))
    ∙ simp (eq-eqb c.runs c.runs refl)

-- where the payload stands, and what follows it
behind-head : (s : List ℕ) (at st : ℕ) (p rest : List ℕ) → drop at s ≡ run_then st p rest → drop (at + 12) s ≡ p ++ rest
behind-head s at st p rest e = sym (drop-drop 12 at s) ∙ ap (drop 12) e ∙ drop-run st p rest

pub payload-at : (s : List ℕ) (at st : ℕ) (p rest : List ℕ) → drop at s ≡ run_then st p rest → take (length p) (drop (at + 12) s) ≡ p
payload-at s at st p rest e = ap (take (length p)) (behind-head s at st p rest e) ∙ take_at p rest (length p) refl

pub after-at : (s : List ℕ) (at st : ℕ) (p rest : List ℕ) → drop at s ≡ run_then st p rest → drop (at + 12 + length p) s ≡ rest
after-at s at st p rest e =
    sym (drop-drop (length p) (at + 12) s) ∙ ap (drop (length p)) (behind-head s at st p rest e) ∙ drop_at p rest (length p) refl

-- what a step says, by its answer
pub record TakenAt (s : List ℕ) (c : Cursor) (st at n : ℕ) (c' : Cursor) : Type 0 where
  pub admitted : Admits c st n
  pub head : RunAt (drop c.at s) st n
  pub index : at ≡ c.at + 12
  pub next : c' ≡ past c st n

pub record EndedAt (s : List ℕ) (c : Cursor) (e : ℕ) : Type 0 where
  pub head : TrailerAt (drop c.at s) c.runs
  pub index : e ≡ c.at + 4

Says : List ℕ → Cursor → Option Step → Type 0
Says s c (Some (Next st at n c')) = TakenAt s c st at n c'
Says s c (Some (End e)) = EndedAt s c e
Says s c None = Unit {0}

module _ (s : List ℕ) (c : Cursor) where
  by-run : (st n : ℕ) (t : Bool) → admits c st n ≡ t → head_of (drop c.at s) ≡ Some (Start st n)
      → Says s c (cond t (Some (Next st (c.at + 12) n (past c st n))) None)
  unfolding Says
  by-run st n true a h =
      record { admitted = admits-inv c st n a; head = head-run-inv (drop c.at s) st n h; index = refl; next = refl }
  by-run st n false a h = tt

  by-trailer : (k : ℕ) (t : Bool) → eqb k c.runs ≡ t → head_of (drop c.at s) ≡ Some (Trailer k) → Says s c (cond t (Some (End (c.at + 4))) None)
  unfolding Says
  by-trailer k true q h =
      record { head = head-trailer-inv (drop c.at s) c.runs (h ∙ ap (λ (z : ℕ). Some (Trailer z)) (eqb-true k c.runs q)); index = refl }
  by-trailer k false q h = tt

  by-head : (h : Option Head) → head_of (drop c.at s) ≡ h → Says s c (on_head c h)
  unfolding Says on_head
  by-head None q = tt
  by-head (Some (Trailer k)) q = by-trailer k (eqb k c.runs) refl q
  by-head (Some (Start st n)) q = by-run st n (admits c st n) refl q

  says : (w : Option Step) → step_at s c ≡ w → Says s c w
  unfolding step_at head_at
  says w e = subst (Says s c) e (by-head (head_of (drop c.at s)) refl)

  pub step-next-inv : (st at n : ℕ) (c' : Cursor) → step_at s c ≡ Some (Next st at n c') → TakenAt s c st at n c'
  unfolding Says
  step-next-inv st at n c' e = says (Some (Next st at n c')) e

  pub step-end-inv : (e : ℕ) → step_at s c ≡ Some (End e) → EndedAt s c e
  unfolding Says
  step-end-inv d e = says (Some (End d)) e

-- a payload that was taken has its length
pub taken-length : (s : List ℕ) (c : Cursor) (st at n : ℕ) (c' : Cursor) → TakenAt s c st at n c' → length (take n (drop at s)) ≡ n
taken-length s c st at n c' k =
    let hd = k.head in
    length_part s at n (omega (arith, length-drop c.at s, hd.fits, hd.long, k.index))
