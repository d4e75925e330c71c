-- `some_vector`: no element passed is active. Assumes nothing.
use mathlib.Core.List.{List}
use Prim.Native.Nat.{ℕ}
use Rattle.elements.specs.Accesses.{vector_active, vector_element}
use Rattle.verdicts.specs.Verdicts.{some_active}
use Rattle.checks.proofs.Walking.{Walked}
use Rattle.checks.proofs.stores.some_vector.Given as goal

abbrev pub invariant-loop-e : goal.invariant-loop-e
invariant-loop-e l =
    (offsets stored : List ℕ) → Walked (vector_active l.v l.governing) (vector_element l.v offsets stored) l.v.count some_active l.e
