-- Where reading ends in a whole string, in numbers: what `whole` answers. Assumes nothing.
use Rattle.std.specs.Prelude.{ℕ, ◌-◌, cond, eqb, Result, Ok, Err}
use Rattle.reading.specs.Reader.{Found, whole, broken}
use Rattle.reading.specs.Stops.{behind}
use Rattle.reading.specs.declared.Cursor.{Cursor}

-- where they end in a string of n bytes: "Nothing follows."
unfoldable pub whole_stop : ℕ → Found → Result Cursor Cursor
whole_stop n (whole rs e) = cond (eqb e n) (Ok (behind rs (e - 4))) (Err (behind rs (e - 4)))
whole_stop n (broken rs a) = Err (behind rs a)
