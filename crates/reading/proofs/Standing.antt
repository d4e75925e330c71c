-- What stands at a cursor where a step isn't bad: a run that may come next, or the trailer. Assumes nothing.
use mathlib.Core.Path.{◌≡◌, refl, sym}
use Prim.Native.Nat.{ℕ, ◌+◌, ◌^◌, ◌≤◌, ◌<◌}
use mathlib.Core.List.{List}
use mathlib.Core.Bool.{Bool, true, false}
use native.Mathlib.Omega.{arith}
use lib.Dec.{eqb}
use lib.ListN.{length, get_or}
use borrow.Author.Tests.{eqb-true, eqb-false}
use Rattle.std.specs.Prelude.{Option, Some, None}
use Rattle.writes.proofs.Sizes.{runs_fit, bytes_fit}
use Rattle.reading.specs.Reader.{head_at, admits, past, step_at, Stands, Passes}
use Rattle.reading.specs.declared.Head.{Head}
use Rattle.reading.specs.declared.Head.TheVariants.{Start, Trailer}
use Rattle.reading.specs.declared.Step.TheVariants.{Next, End}
use Rattle.reading.specs.declared.Cursor.{Cursor}
use Rattle.reading.proofs.Steps.{Admits, admits-inv}
use Rattle.reading.proofs.Heads.{RunIn, TrailerIn, run-in-inv, trailer-in-inv, step-neither, step-trailer, step-trailer-no}
use Rattle.reading.proofs.Heads.{step_run, step-run-no}

pub record RunStands (s : List ℕ) (c : Cursor) (st n : ℕ) : Type 0 where
  pub head : RunIn s c.at st n
  pub admitted : Admits c st n
  pub step : Some (Next st (c.at + 12) n (past c st n)) ≡ step_at s c

pub record TrailerStands (s : List ℕ) (c : Cursor) : Type 0 where
  pub head : TrailerIn s c.at c.runs
  pub step : Some (End (c.at + 4)) ≡ step_at s c

-- a string's length fits its type, so the numbers behind a run do
pub passes : (s : List ℕ) (c : Cursor) (st n : ℕ) → RunIn s c.at st n → Admits c st n → length s < 2 ^ 64 → Passes c st n
passes s c st n h a l =
    record {
      some = a.one;
      index = omega (arith, h.long, h.fits);
      count = omega (arith, a.few, runs_fit);
      payload = omega (arith, a.small, bytes_fit);
      top = a.top;
    }

pub data Standing (s : List ℕ) (c : Cursor) : Type 0 where
  a-run : (st n : ℕ) → RunStands s c st n → Standing s c
  the-trailer : TrailerStands s c → Standing s c

pub standing : (s : List ℕ) (c : Cursor) → Stands s c → Standing s c
standing s c h = go (head_at s c.at) refl
  where
    by-run : (st n : ℕ) (b : Bool) → admits c st n ≡ b → head_at s c.at ≡ Some (Start st n) → Standing s c
    by-run st n true q e =
        a-run st n (record { head = run-in-inv s c.at st n e; admitted = admits-inv c st n q; step = step_run s c st n e q })
    by-run st n false q e = absurd (h (sym (step-run-no s c st n e q)))

    by-trailer : (k : ℕ) (b : Bool) → eqb k c.runs ≡ b → head_at s c.at ≡ Some (Trailer k) → Standing s c
    by-trailer k true q e =
        let w : k ≡ c.runs = eqb-true k c.runs q in
        the-trailer (record { head = rw (← w) (trailer-in-inv s c.at k e); step = step-trailer s c k e w })
    by-trailer k false q e = absurd (h (sym (step-trailer-no s c k e (eqb-false k c.runs q))))

    go : (w : Option Head) → head_at s c.at ≡ w → Standing s c
    go None e = absurd (h (sym (step-neither s c e)))
    go (Some (Trailer k)) e = by-trailer k (eqb k c.runs) refl e
    go (Some (Start st n)) e = by-run st n (admits c st n) refl e

module _ (s : List ℕ) (c : Cursor) (h : Stands s c) where
  pub is-trailer : get_or s (c.at + 1) 0 ≡ 0x45 → TrailerStands s c
  is-trailer m = go (standing s c h)
    where
      go : Standing s c → TrailerStands s c
      go (a-run st n k) = absurd (omega (arith, k.head.mark1))
      go (the-trailer k) = k

  pub is-run : (get_or s (c.at + 1) 0 ≡ 0x45 → ⊥) → (st : ℕ) × (n : ℕ) × RunStands s c st n
  is-run m = go (standing s c h)
    where
      go : Standing s c → (st : ℕ) × (n : ℕ) × RunStands s c st n
      go (a-run st n k) = (st, n, k)
      go (the-trailer k) = absurd (m k.head.mark1)

  pub mark-inside : c.at + 4 ≤ length s
  mark-inside = go (standing s c h)
    where
      go : Standing s c → c.at + 4 ≤ length s
      go (a-run st n k) = omega (arith, k.head.long)
      go (the-trailer k) = omega (arith, k.head.long)
