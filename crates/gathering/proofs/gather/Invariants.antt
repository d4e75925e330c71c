-- `gather`: every element's key is put; those of active elements stay. The invariant is `Counted` and, whatever data the elements have,
-- `Gathering`: the keys so far and those of the elements from e on are the keys of all. Assumes nothing.
use Rattle.std.proofs.Common.{◌≡◌, ℕ, List, length}
use Rattle.elements.specs.Accesses.{vector_active, vector_element}
use Rattle.gathering.proofs.Gathering.{Counted, Gathering}
use Rattle.gathering.proofs.gather.Given as goal

abbrev pub invariant-loop-e : goal.invariant-loop-e
invariant-loop-e l =
    Counted l.v.count (length l.initial.keys) l.keys l.n l.e
    × ((stored : List ℕ) → length stored ≡ length l.offsets
    → Gathering (vector_active l.v l.governing) (vector_element l.v l.offsets stored) l.v.count l.base l.room l.v.size l.keys l.n l.e)
