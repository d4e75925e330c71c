-- `write_keys`: key by key, each element's part of memory lent to the byte writer. The invariant is `Writing`: what the keys from t on put
-- over memory is what all put over memory at the start; t of them are counted. Assumes nothing.
use mathlib.Core.Path.{◌≡◌}
use Prim.Native.Nat.{◌*◌}
use Rattle.writing.proofs.Writing.{Writing}
use Rattle.writing.proofs.write_keys.Given as goal

abbrev pub invariant-loop-k : goal.invariant-loop-k
invariant-loop-k l =
    (l.elements ≡ l.k-index) × (l.bytes ≡ l.k-index * l.size)
    × Writing l.keys l.step l.size l.stored l.initial.memory l.memory l.k-index
