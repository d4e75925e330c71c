-- Sorted intervals of offsets in a window: an offset is an address less the window's. Assumes nothing.
use Rattle.std.specs.Prelude.{ℕ, ◌+◌, ◌≤◌, List, [], ◌∷◌}

-- a start and a length
pub data Interval : Type 0 where
  interval : ℕ → ℕ → Interval

-- ascending from f on, none empty, a gap between each two, none past L
abbrev pub Separate : ℕ → ℕ → List Interval → Type 0
Separate L f [] = Unit {0}
Separate L f (interval s n ∷ I) = (f ≤ s) × (1 ≤ n) × (s + n ≤ L) × Separate L (s + n + 1) I

-- the bytes of their runs, with a head of twelve each
unfoldable pub total : List Interval → ℕ
total [] = 0
total (interval s n ∷ I) = 12 + n + total I
