-- `join`: each key grows the last stretch, or begins one. The invariant is `Joining`: the stretches so far, the last of them grown by the
-- keys that are left, and those behind it are the stretches of all; and likewise whether they ascend. Assumes nothing.
use lib.ListN.{drop}
use Rattle.stretches.proofs.Joining.{Joining}
use Rattle.stretches.proofs.join.Given as goal

abbrev pub invariant-loop-k : goal.invariant-loop-k
invariant-loop-k l = Joining l.fn.keys l.size l.stretches l.s l.last l.m l.ascending (drop l.k-index l.behind)
