-- `copy_each`: element by element, each one's place lent to the byte writer. The invariant is `EachCopied`: e elements are copied and
-- counted. Assumes nothing.
use Rattle.copying.proofs.Spreading.{EachCopied}
use Rattle.copying.proofs.copy_each.Given as goal

abbrev pub invariant-loop-e : goal.invariant-loop-e
invariant-loop-e l = EachCopied l.src l.initial.memory l.at l.n l.gap l.size l.memory l.elements l.bytes l.e
