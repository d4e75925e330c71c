-- Flags are bits in document 01's order. Assumes nothing.
use mathlib.Core.Path.{sym, ap}
use mathlib.Core.List.{[], ◌∷◌, map}
use Prim.Native.Nat.{ℕ, ◌%◌}
use native.Mathlib.Nat.{div-one}
use lib.Dec.{eqb}
use Rattle.encoding.specs.Classes.{bit}
use Rattle.numbers.specs.Flags.{FlagsAreBits}

pub flags-are-bits : FlagsAreBits
flags-are-bits n =
    ap (λ (m : ℕ). eqb (m % 2) 1 ∷ map (λ (i : ℕ). eqb (bit n i) 1) (1 ∷ 2 ∷ 3 ∷ 4 ∷ 5 ∷ 6 ∷ 7 ∷ 8 ∷ [])) (sym (div-one n))
