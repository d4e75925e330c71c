-- `VectorAccess::is_active`: the predicate's bit at the element's first byte. No loop. Assumes nothing.
use Rattle.elements.specs.Accesses.{vector_active}
use Rattle.elements.proofs.VectorAccess.is_active.Goals as goal

pub returns : goal.returns
unfolding vector_active
returns c = c.bit.ensures
