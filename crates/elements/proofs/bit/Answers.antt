-- `bit`: of the byte that holds it. No loop. Assumes nothing.
use Rattle.std.proofs.Common.{refl}
use Rattle.elements.specs.Machine.{bit_at}
use Rattle.elements.proofs.bit.Goals as goal

pub returns : goal.returns
unfolding bit_at
returns c = refl
