-- A head by its index in the string and a step by its tests, as code finds them. Assumes nothing.
use mathlib.Core.Path.{◌≡◌, refl, sym, ap, ◌∙◌}
use Prim.Native.Nat.{ℕ, ◌+◌, ◌-◌, ◌≤◌}
use mathlib.Core.List.{List}
use mathlib.Core.Bool.{true, false}
use native.Mathlib.Omega.{arith}
use native.Mathlib.Nat.{add-zero}
use lib.ListN.{length, take, drop, get_or, length-drop}
use lib.Seq.{get_or-drop, drop-drop}
use borrow.Author.Tests.{eq-eqb, ne_eqb}
use Rattle.std.specs.Prelude.{Option, Some, None}
use Rattle.endian.specs.LittleEndian.{le_val}
use Rattle.reading.specs.Reader.{head_at, admits, past, on_head, step_at}
use Rattle.reading.specs.declared.Head.{Head}
use Rattle.reading.specs.declared.Head.TheVariants.{Start, Trailer}
use Rattle.reading.specs.declared.Step.TheVariants.{Next, End}
use Rattle.reading.specs.declared.Cursor.{Cursor}
use Rattle.reading.proofs.Steps.{head-run, head-trailer, head-run-inv, head-trailer-inv}

-- ---- a head by its index in the whole, as code reads it

pub record RunIn (s : List ℕ) (at st n : ℕ) : Type 0 where
  pub long : 12 ≤ length s - at
  pub mark0 : get_or s at 0 ≡ 0x50
  pub mark1 : get_or s (at + 1) 0 ≡ 0x52
  pub start : st ≡ le_val (take 8 (drop (at + 2) s))
  pub count : n ≡ le_val (take 2 (drop (at + 10) s))
  pub fits : n ≤ length s - at - 12

pub record TrailerIn (s : List ℕ) (at k : ℕ) : Type 0 where
  pub long : 4 ≤ length s - at
  pub mark0 : get_or s at 0 ≡ 0x50
  pub mark1 : get_or s (at + 1) 0 ≡ 0x45
  pub count : k ≡ le_val (take 2 (drop (at + 2) s))

first-byte : (s : List ℕ) (at : ℕ) → get_or (drop at s) 0 0 ≡ get_or s at 0
first-byte s at = get_or-drop at s 0 0 ∙ ap (λ (z : ℕ). get_or s z 0) (add-zero at)

pub run_in : (s : List ℕ) (at st n : ℕ) → RunIn s at st n → Some (Start st n) ≡ head_at s at
unfolding head_at
run_in s at st n h =
    sym (head-run (drop at s) st n (record {
      long = simp length-drop h.long;
      mark0 = first-byte s at ∙ h.mark0;
      mark1 = get_or-drop at s 1 0 ∙ h.mark1;
      start = ap (λ (z : List ℕ). le_val (take 8 z)) (drop-drop 2 at s) ∙ sym h.start;
      count = ap (λ (z : List ℕ). le_val (take 2 z)) (drop-drop 10 at s) ∙ sym h.count;
      fits = simp length-drop h.fits;
    }))

pub trailer-in : (s : List ℕ) (at k : ℕ) → TrailerIn s at k → Some (Trailer k) ≡ head_at s at
unfolding head_at
trailer-in s at k h =
    sym (head-trailer (drop at s) k (record {
      long = simp length-drop h.long;
      mark0 = first-byte s at ∙ h.mark0;
      mark1 = get_or-drop at s 1 0 ∙ h.mark1;
      count = ap (λ (z : List ℕ). le_val (take 2 z)) (drop-drop 2 at s) ∙ sym h.count;
    }))

pub run-in-inv : (s : List ℕ) (at st n : ℕ) → head_at s at ≡ Some (Start st n) → RunIn s at st n
unfolding head_at
run-in-inv s at st n e =
    let h = head-run-inv (drop at s) st n e in
    record {
      long = omega (arith, length-drop at s, h.long);
      mark0 = sym (first-byte s at) ∙ h.mark0;
      mark1 = sym (get_or-drop at s 1 0) ∙ h.mark1;
      start = sym h.start ∙ ap (λ (z : List ℕ). le_val (take 8 z)) (drop-drop 2 at s);
      count = sym h.count ∙ ap (λ (z : List ℕ). le_val (take 2 z)) (drop-drop 10 at s);
      fits = omega (arith, length-drop at s, h.fits);
    }

pub trailer-in-inv : (s : List ℕ) (at k : ℕ) → head_at s at ≡ Some (Trailer k) → TrailerIn s at k
unfolding head_at
trailer-in-inv s at k e =
    let h = head-trailer-inv (drop at s) k e in
    record {
      long = omega (arith, length-drop at s, h.long);
      mark0 = sym (first-byte s at) ∙ h.mark0;
      mark1 = sym (get_or-drop at s 1 0) ∙ h.mark1;
      count = sym h.count ∙ ap (λ (z : List ℕ). le_val (take 2 z)) (drop-drop 2 at s);
    }

-- neither
pub neither-in : (s : List ℕ) (at : ℕ) → ((st n : ℕ) → RunIn s at st n → ⊥) → ((k : ℕ) → TrailerIn s at k → ⊥) → None ≡ head_at s at
neither-in s at f g = go (head_at s at) refl
  where
    go : (h : Option Head) → head_at s at ≡ h → None ≡ h
    go None e = refl
    go (Some (Trailer k)) e = absurd (g k (trailer-in-inv s at k e))
    go (Some (Start st n)) e = absurd (f st n (run-in-inv s at st n e))

-- ---- a step by what its head and its tests say, as code finds them

pub step-neither : (s : List ℕ) (c : Cursor) → head_at s c.at ≡ None → None ≡ step_at s c
unfolding step_at on_head
step-neither s c e = sym (ap (on_head c) e)

pub step-trailer : (s : List ℕ) (c : Cursor) (k : ℕ) → head_at s c.at ≡ Some (Trailer k) → k ≡ c.runs → Some (End (c.at + 4)) ≡ step_at s c
unfolding step_at on_head
step-trailer s c k e h = sym (ap (on_head c) e ∙ simp (eq-eqb k c.runs h))

pub step-trailer-no : (s : List ℕ) (c : Cursor) (k : ℕ) → head_at s c.at ≡ Some (Trailer k) → (k ≡ c.runs → ⊥) → None ≡ step_at s c
unfolding step_at on_head
step-trailer-no s c k e h = sym (ap (on_head c) e ∙ simp (ne_eqb k c.runs h))

pub step_run : (s : List ℕ) (c : Cursor) (st n : ℕ) → head_at s c.at ≡ Some (Start st n) → admits c st n ≡ true
    → Some (Next st (c.at + 12) n (past c st n)) ≡ step_at s c
unfolding step_at on_head
step_run s c st n e h = sym (ap (on_head c) e ∙ simp h)

pub step-run-no : (s : List ℕ) (c : Cursor) (st n : ℕ) → head_at s c.at ≡ Some (Start st n) → admits c st n ≡ false → None ≡ step_at s c
unfolding step_at on_head
step-run-no s c st n e h = sym (ap (on_head c) e ∙ simp h)
