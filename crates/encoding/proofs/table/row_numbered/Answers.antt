-- `table::row_numbered`: a class's number is one more than its row. Assumes nothing.
use Rattle.std.proofs.Common.{arith}
use Rattle.encoding.specs.Classes.{classes, any, inside, mask_below, mask_of, has}
use Rattle.encoding.specs.Encoding.{lowest}
use Rattle.encoding.proofs.Rows.{rows, number-listed, number-unlisted}
use Rattle.encoding.proofs.table.row_numbered.Goals as goal

pub returns-in-1-to-36 : goal.returns-in-1-to-36
unfolding classes any inside mask_below mask_of has lowest rows
returns-in-1-to-36 c = number-listed c.args.class _ (omega arith) (omega arith)

pub returns-in_default : goal.returns-in_default
unfolding classes
returns-in_default c = number-unlisted c.args.class (λ h l. omega arith)

pub returns-in_default-2 : goal.returns-in_default-2
unfolding classes
returns-in_default-2 c = number-unlisted c.args.class (λ h l. omega arith)
