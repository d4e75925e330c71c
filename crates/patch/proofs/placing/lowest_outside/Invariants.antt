-- `lowest_outside`: the lowest run outside the window. Invariant: the survey is that of the runs that are left. Assumes nothing.
use Rattle.patch.proofs.Windowed.{Surveying}
use Rattle.patch.proofs.placing.lowest_outside.Given as goal

abbrev pub invariant-loop-k : goal.invariant-loop-k
invariant-loop-k l = Surveying l.base l.room l.s l.runs l.at l.k
