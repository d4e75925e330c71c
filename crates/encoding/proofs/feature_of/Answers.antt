-- `feature_of`: of a class that isn't in the list it is that of `no_class`. Assumes nothing.
use Rattle.std.proofs.Common.{sym, ◌∙◌, arith}
use Rattle.encoding.specs.Encoding.{row_numbered}
use Rattle.encoding.proofs.Rows.{unlisted, unknown-row}
use Rattle.encoding.proofs.feature_of.Goals as goal

pub returns-in-None : goal.returns-in-None
returns-in-None c =
    let f = unknown-row (row_numbered c.args.class) (sym c.in-None.is ∙ c.row_numbered.ensures) in
    sym (unlisted (row_numbered c.args.class) (omega arith))
