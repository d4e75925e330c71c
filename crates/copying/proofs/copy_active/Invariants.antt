-- `copy_active`. The loop's invariant is `Copied`: the active elements below k, those of the registers passed, are copied and counted.
-- Assumes nothing.
use Rattle.copying.proofs.Spreading.{Copied}
use Rattle.copying.proofs.copy_active.Given as goal

abbrev pub invariant-loop-r : goal.invariant-loop-r
invariant-loop-r l = Copied l.s l.vb l.z l.initial.memory l.at l.memory l.elements l.bytes l.k l.r
