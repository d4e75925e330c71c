-- `grown`: each stretch that meets or touches the run is taken in. The invariant is `Growing`: the intervals of all are those that the
-- run so far and the rest make. Assumes nothing.
use lib.ListN.{length}
use mathlib.Core.List.{◌∷◌}
use Rattle.stretches.proofs.Growing.{Growing}
use Rattle.stretches.proofs.grown.Given as goal

abbrev pub invariant-loop-k : goal.invariant-loop-k
invariant-loop-k l = Growing (l.first ∷ l.fn.behind) l.start l.end l.rest

abbrev pub decreases-loop-k : goal.decreases-loop-k
decreases-loop-k l = length l.rest
