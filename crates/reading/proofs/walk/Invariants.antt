-- `walk`: the loop over the steps. Invariant: reading ends where it ends from the cursor on; its measure is how many runs may still come.
-- Assumes nothing.
use Prim.Native.Nat.{◌-◌}
use Rattle.writes.specs.Sizes.{max_runs}
use Rattle.reading.proofs.Loops.{Going}
use Rattle.reading.proofs.walk.Given as goal

abbrev pub invariant-loop-next : goal.invariant-loop-next
invariant-loop-next l = Going l.s l.at l.c

abbrev pub decreases-loop-next : goal.decreases-loop-next
decreases-loop-next l = max_runs - l.c.runs
