-- `le64`: eight bytes read are their number. Assumes nothing.
use native.Mathlib.Omega.{arith}
use Rattle.endian.proofs.LittleEndian.{le-8}
use Rattle.endian.proofs.le64.Goals as goal

pub returns : goal.returns
returns c =
    omega (arith, le-8 c.args.at c.args.s.now c.requires)
