-- Keys' bytes put over memory. For the contracts of the code's own functions. Assumes nothing.
use Rattle.std.specs.Prelude.{ℕ, ◌+◌, ◌*◌, ◌≤◌, List, [], ◌∷◌, ◌≡◌, length}
use Rattle.writes.specs.Elements.{Element}
use Rattle.endian.specs.Overwriting.{overwritten}
use Rattle.ordering.specs.Keys.{number_of}
use Rattle.stretches.specs.Stretches.{start_of}
use Rattle.cutting.specs.Cutting.{part}

-- the keys' bytes, out of a register whose elements are `step` bytes apart, put over memory in turn
unfoldable pub put_all : ℕ → ℕ → List ℕ → List ℕ → List ℕ → List ℕ
put_all step size stored [] mem = mem
put_all step size stored (k ∷ K) mem = put_all step size stored K (overwritten mem (start_of k) (part stored (number_of k * step) size))

-- a key's bytes lie in a window of L bytes, and in a register of N bytes
abbrev pub Placed : ℕ → ℕ → ℕ → ℕ → ℕ → Type 0
Placed step size L N k = (start_of k + size ≤ L) × (number_of k * step + size ≤ N)

-- each element's bytes are those of the register
abbrev pub Held : ℕ → ℕ → List ℕ → List Element → Type 0
Held step size stored [] = Unit {0}
Held step size stored (x ∷ xs) =
    (x.bytes ≡ part stored (x.number * step) size) × (x.number * step + size ≤ length stored) × Held step size stored xs
