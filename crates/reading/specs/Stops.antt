-- Where reading ends and what was read up to there, in numbers: what `walk` and `read` answer. Assumes nothing.
use Rattle.std.specs.Prelude.{ℕ, ◌+◌, ◌-◌, List, [], ◌∷◌, length, Result, Ok, Err}
use Rattle.writes.specs.Sets.{Run, run, payload}
use Rattle.reading.specs.Reader.{Found, whole, broken}
use Rattle.reading.specs.declared.Cursor.{Cursor}
use Rattle.reading.specs.declared.Whole.{Whole}
use Rattle.reading.specs.declared.Broken.{Broken}

abbrev pub runs_in : Found → List Run
runs_in (whole rs e) = rs
runs_in (broken rs a) = rs

-- the last address that runs write, behind one that was written before
unfoldable pub last_of : ℕ → List Run → ℕ
last_of l [] = l
last_of l (run s p ∷ rs) = last_of (s + (length p - 1)) rs

-- behind runs, at an index
abbrev pub behind : List Run → ℕ → Cursor
behind rs a = record { at = a; runs = length rs; bytes = payload rs; last = last_of 0 rs }

-- where all steps end: the trailer has four bytes
unfoldable pub stop_of : Found → Result Cursor Cursor
stop_of (whole rs e) = Ok (behind rs (e - 4))
stop_of (broken rs a) = Err (behind rs a)

-- what is read: a patch, its trailer's index and where it ends; or how many runs were taken, and where they end
unfoldable pub reading : Found → Result Whole Broken
reading (whole rs e) = Ok (record { at = e - 4; end = e; runs = length rs; bytes = payload rs })
reading (broken rs a) = Err (record { runs = length rs; at = a })
