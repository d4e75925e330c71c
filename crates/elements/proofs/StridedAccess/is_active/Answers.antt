-- `StridedAccess::is_active`: a multiple of the gap, and the range test. No loop. Assumes nothing.
use Rattle.std.proofs.Common.{refl}
use Rattle.elements.specs.Accesses.{between, strided_active}
use Rattle.elements.proofs.StridedAccess.is_active.Goals as goal

pub returns : goal.returns
unfolding between strided_active
returns c = refl
