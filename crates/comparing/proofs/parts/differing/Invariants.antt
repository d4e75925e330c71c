-- `differing`: the loop over the addresses. Invariant: those so far, and those to come. Assumes nothing.
use Rattle.comparing.proofs.Zipping.{Counting}
use Rattle.comparing.proofs.parts.differing.Given as goal

abbrev pub invariant-loop-i : goal.invariant-loop-i
invariant-loop-i l = Counting l.p l.q l.len l.i l.n
