-- Document 02 (v)'s number and values for each answer. Assumes nothing.
use Rattle.std.specs.Prelude.{ℕ, List, [], ◌∷◌, Ok, Err}
use Rattle.comparing.specs.Comparing.{Compared}
use Rattle.comparing.specs.declared.CompareError.TheVariants.{NoRoom, FirstBad, SecondBad}

-- "Done is number 0"; "refuse with 9 if either isn't a patch"; "too short a list gets 8"
abbrev pub compared_number : Compared → ℕ
compared_number (Ok n) = 0
compared_number (Err (NoRoom n)) = 8
compared_number (Err FirstBad) = 9
compared_number (Err SecondBad) = 9

-- "say which": at index 0, 0 for the first string and 1 for the second. "Done reports the number of entries", "too short a list gets 8,
-- here with the number of entries needed": at index 2
abbrev pub compared_numbers : Compared → List ℕ
compared_numbers (Ok n) = 0 ∷ 0 ∷ n ∷ 0 ∷ 0 ∷ []
compared_numbers (Err (NoRoom n)) = 0 ∷ 0 ∷ n ∷ 0 ∷ 0 ∷ []
compared_numbers (Err FirstBad) = 0 ∷ 0 ∷ 0 ∷ 0 ∷ 0 ∷ []
compared_numbers (Err SecondBad) = 1 ∷ 0 ∷ 0 ∷ 0 ∷ 0 ∷ []
