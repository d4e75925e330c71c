-- `is_signed_byte`: bits from -128 to 127, with 128 added, are below 256. Assumes nothing.
use Rattle.std.proofs.Common.{arith}
use Rattle.codec.proofs.Given.{signed-byte}
use Rattle.codec.proofs.is_signed_byte.Goals as goal

pub returns : goal.returns
returns c =
    signed-byte c.args.bits _ _ c.ranges.bits.fits (omega arith)
    (omega arith)
