-- `place_runs`: all runs put into the window. Invariant: what is left, laid over memory, is the whole. Assumes nothing.
use Rattle.patch.proofs.Windowed.{Writing}
use Rattle.patch.proofs.placing.place_runs.Given as goal

abbrev pub invariant-loop-k : goal.invariant-loop-k
invariant-loop-k l = Writing l.base l.initial.memory l.s l.runs l.at l.k l.memory
