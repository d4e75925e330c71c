-- Bytes put over memory or a buffer. Assumes nothing.
use Rattle.std.specs.Prelude.{ℕ, ◌+◌, List, ◌++◌, length, take, drop}

-- memory with p put over it from an index on
unfoldable pub overwritten : List ℕ → ℕ → List ℕ → List ℕ
overwritten mem at p = take at mem ++ (p ++ drop (at + length p) mem)
