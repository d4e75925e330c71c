-- `walk`: the loop's invariant is that every active element passed lies in the window, whatever data it has. Assumes nothing.
use mathlib.Core.Path.{◌≡◌}
use mathlib.Core.List.{List}
use Prim.Native.Nat.{ℕ, ◌-◌, ◌*◌}
use lib.ListN.{length}
use Rattle.elements.specs.Accesses.{strided_element, strided_elements}
use Rattle.accesses.proofs.Spacing.{listed}
use Rattle.verdicts.specs.Verdicts.{first_outside}
use Rattle.strided.proofs.walk.Given as goal

abbrev pub invariant-loop-k : goal.invariant-loop-k
invariant-loop-k l =
    (z : List ℕ) → length z ≡ 32 * l.vb
    → first_outside l.base l.room (listed (strided_element l.s l.vb z) (l.s.high - l.k) l.k) ≡ first_outside l.base l.room (strided_elements l.s l.vb z)
