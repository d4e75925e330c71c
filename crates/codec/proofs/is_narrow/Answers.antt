-- `is_narrow`: entry by entry. Assumes nothing.
use Rattle.std.proofs.Common.{Bool, ◌&&◌, ltb, ap}
use Rattle.codec.specs.Codec.{entry}
use Rattle.codec.proofs.is_narrow.Goals as goal

pub returns : goal.returns
returns c =
    let es = c.args.fields.now in
    ap
    (λ (b : Bool).
    ltb (entry es 0) 256 && ltb (entry es 1) 256 && ltb (entry es 3) 256 && ltb (entry es 4) 256 && ltb (entry es 5) 256 && b)
    c.is_signed_byte.ensures
