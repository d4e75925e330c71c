-- `scatter`: each field stands at its place. Assumes nothing.
use Rattle.std.proofs.Common.{◌∙◌, ap, ℕ, ◌/◌, ◌%◌, eqb, arith}
use Rattle.encoding.specs.Decoding.{extension_of}
use Rattle.encoding.proofs.Reading.{bounded, scatter-is}
use Rattle.encoding.proofs.scatter.Goals as goal

pub values-requires : goal.values-requires
values-requires c = let l = (bounded c.args.row c.requires.0).xs in omega (arith, l.0)

pub returns : goal.returns
returns c =
    scatter-is c.args.row c.args.word c.requires.0 c.requires.1 c.extension_of-extension.result
    (c.extension_of-extension.ensures
    ∙ ap (λ (n : ℕ). extension_of (eqb c.args.row.layout.xs 1) (c.args.word / 16384 % n)) c.values.ensures)
