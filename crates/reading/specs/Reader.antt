-- The reader: what stands at an index, one step, and all steps up to a trailer, whatever follows. That it takes exactly the
-- encodings of sets within the sizes is ReadsEncodings in patch/specs/Statements.antt. Assumes nothing.
use Rattle.std.specs.Prelude.{ℕ, zero, suc, ◌+◌, ◌-◌, ◌^◌, ◌<◌, ◌≤◌, List, [], ◌∷◌, Bool, cond, ◌&&◌, ◌≡◌, length, take, drop, get_or, leb, ltb, eqb}
use Rattle.std.specs.Prelude.{Option, Some, None}
use Rattle.endian.specs.LittleEndian.{le_val}
use Rattle.writes.specs.Sets.{Run, run}
use Rattle.writes.specs.Sizes.{max_runs, max_bytes}
use Rattle.reading.specs.declared.Head.{Head}
use Rattle.reading.specs.declared.Head.TheVariants.{Start, Trailer}
use Rattle.reading.specs.declared.Step.{Step}
use Rattle.reading.specs.declared.Step.TheVariants.{Next, End}
use Rattle.reading.specs.declared.Cursor.{Cursor}

-- what bytes begin with: "mark 50 45 and the number of runs (2 bytes, little-endian)", or "mark 50 52, start address (8 bytes,
-- little-endian), length (2 bytes, little-endian), then the bytes"
unfoldable pub head_of : List ℕ → Option Head
head_of l =
    cond (ltb (length l) 4) None
    (cond (eqb (get_or l 0 0) 0x50)
    (cond (eqb (get_or l 1 0) 0x45)
    (Some (Trailer (le_val (take 2 (drop 2 l)))))
    (cond (eqb (get_or l 1 0) 0x52)
    (cond (ltb (length l) 12) None
    (cond (ltb (length l - 12) (le_val (take 2 (drop 10 l)))) None
    (Some (Start (le_val (take 8 (drop 2 l))) (le_val (take 2 (drop 10 l)))))))
    None))
    None)

unfoldable pub head_at : List ℕ → ℕ → Option Head
unfolding head_of
head_at s at = head_of (drop at s)

-- the least address at which the next run may start, after k runs of which the last ends at `last`: "at least one unwritten address
-- between one run and the next"
unfoldable pub floor_of : ℕ → ℕ → ℕ
floor_of zero last = 0
floor_of (suc k) last = last + 2

-- "0 to 64 runs", since document 02 (vii) "0 to 512 runs"; "lengths at least 1, together at most 1,024; starts ascend; at least one
-- unwritten address between one run and the next; no run passes 2^64"
unfoldable pub admits : Cursor → ℕ → ℕ → Bool
unfolding floor_of
admits c start n =
    leb 1 n
    && ltb c.runs max_runs
    && leb (c.bytes + n) max_bytes
    && leb (start + n) (2 ^ 64)
    && leb (floor_of c.runs c.last) start

-- the cursor behind a run
unfoldable pub past : Cursor → ℕ → ℕ → Cursor
past c start n = record { at = c.at + 12 + n; runs = c.runs + 1; bytes = c.bytes + n; last = start + (n - 1) }

-- and its numbers fit their types
pub record Passes (c : Cursor) (start n : ℕ) : Type 0 where
  pub some : 1 ≤ n
  pub index : c.at + 12 + n < 2 ^ 64
  pub count : c.runs + 1 < 2 ^ 64
  pub payload : c.bytes + n < 2 ^ 64
  pub top : start + n ≤ 2 ^ 64

-- a run that may come next is taken, and a trailer that counts the runs behind the cursor
unfoldable pub on_head : Cursor → Option Head → Option Step
unfolding admits past
on_head c None = None
on_head c (Some (Trailer n)) = cond (eqb n c.runs) (Some (End (c.at + 4))) None
on_head c (Some (Start start n)) = cond (admits c start n) (Some (Next start (c.at + 12) n (past c start n))) None

unfoldable pub step_at : List ℕ → Cursor → Option Step
unfolding head_at on_head
step_at s c = on_head c (head_at s c.at)

-- a run that may come next stands at the cursor, or the trailer
abbrev pub Stands : List ℕ → Cursor → Type 0
Stands s c = step_at s c ≡ None → ⊥

-- what is read: the runs of a patch and where it ends; or the runs that were whole and acceptable, and where they end
pub data Found : Type 0 where
  whole : List Run → ℕ → Found
  broken : List Run → ℕ → Found

abbrev pub before : Run → Found → Found
before r (whole rs e) = whole (r ∷ rs) e
before r (broken rs a) = broken (r ∷ rs) a

unfoldable pub on_step : (Cursor → Found) → List ℕ → Cursor → Option Step → Found
on_step go s c (Some (Next start at n c')) = before (run start (take n (drop at s))) (go c')
on_step go s c (Some (End e)) = whole [] e
on_step go s c None = broken [] c.at

-- at most f steps
unfoldable pub scan : ℕ → List ℕ → Cursor → Found
unfolding step_at on_step
scan zero s c = broken [] c.at
scan (suc f) s c = on_step (scan f s) s c (step_at s c)

abbrev pub from : ℕ → Cursor
from a = record { at = a; runs = 0; bytes = 0; last = 0 }

-- the patch that starts at an index: at most max_runs runs and a trailer
unfoldable pub read_at : List ℕ → ℕ → Found
unfolding scan
read_at s a = scan (suc max_runs) s (from a)
