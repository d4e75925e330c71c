-- `VectorAccess::address`: by the index of its offset. No loop. Assumes nothing.
use Rattle.elements.specs.Accesses.{vector_address}
use Rattle.elements.proofs.VectorAccess.address.Goals as goal

pub returns : goal.returns
unfolding vector_address
returns c = c.address_from.ensures
