-- `scatter_given`: entry by entry. Assumes nothing.
use Rattle.encoding.specs.declared.Store.TheVariants.{Scatter}
use Rattle.codec.specs.Codec.{entry}
use Rattle.codec.proofs.scatter_given.Goals as goal

pub returns : goal.returns
returns c =
    let es = c.args.fields.now in
    λ i.
    Scatter
    (record {
      class = entry es 0;
      zm = entry es 1;
      extension = c.extension_of.ensures i;
      pg = entry es 3;
      rn = entry es 4;
      zt = entry es 5;
    })
