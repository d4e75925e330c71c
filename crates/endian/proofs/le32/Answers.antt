-- `le32`: four bytes read are their number. Assumes nothing.
use native.Mathlib.Omega.{arith}
use Rattle.endian.proofs.LittleEndian.{le-4}
use Rattle.endian.proofs.le32.Goals as goal

pub returns : goal.returns
returns c =
    (omega (arith, le-4 c.args.at c.args.s.now c.requires), omega arith)
