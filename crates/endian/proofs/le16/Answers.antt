-- `le16`: two bytes read are their number. Assumes nothing.
use native.Mathlib.Omega.{arith}
use Rattle.endian.proofs.LittleEndian.{le-2}
use Rattle.endian.proofs.le16.Goals as goal

pub returns : goal.returns
returns c =
    (omega (arith, le-2 c.args.at c.args.s.now c.requires), omega arith)
