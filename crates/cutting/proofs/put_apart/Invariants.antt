-- `put_apart`: one run after another. The invariant is `Turn`: with the runs still to come put behind it, the buffer is what all
-- runs make of it. Assumes nothing.
use Rattle.cutting.proofs.Turning.{Turn}
use Rattle.cutting.proofs.put_apart.Given as goal

abbrev pub invariant-loop-i : goal.invariant-loop-i
invariant-loop-i l = Turn l.runs l.w l.memory l.initial.out l.out l.a l.to l.steps l._i
