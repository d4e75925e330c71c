-- `strided_given`: entry by entry. Assumes nothing.
use Rattle.std.proofs.Common.{w8, w64, SFits, to_z}
use Rattle.encoding.proofs.Signed.{narrow-fits, narrow-is}
use Rattle.encoding.specs.declared.Store.TheVariants.{Strided}
use Rattle.codec.specs.Codec.{entry}
use Rattle.codec.proofs.strided_given.Goals as goal
use Rattle.codec.proofs.strided_given.Goals.{After-cast_signed}

-- entry 6, read as signed, has 8 bits
byte : (c : After-cast_signed) → SFits w8 (to_z w64 (entry c.args.fields.now 6))
byte c = c.requires.at6

pub overflow_cast-result-3 : goal.overflow_cast-result-3
overflow_cast-result-3 c =
    let m = c.cast_signed in
    narrow-fits m.result _ (record { sfits = m.type_inv }) m.ensures (byte (goal.at.overflow_cast-result-3 c).After-cast_signed)

pub returns : goal.returns
returns c =
    let es = c.args.fields.now in
    let m = c.cast_signed in
    let z = narrow-is m.result _ (record { sfits = m.type_inv }) m.ensures (byte (goal.at.returns c).After-cast_signed) in
    λ i.
    Strided
    (record {
      class = entry es 0;
      rm = entry es 1;
      multiple = z i;
      pc = entry es 3;
      rn = entry es 4;
      first = entry es 5;
    })
