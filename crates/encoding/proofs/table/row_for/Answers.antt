-- `table::row_for`: the table is the rows of the classes, one of which alone a word fits. Assumes nothing.
use Rattle.std.proofs.Common.{◌∙◌, sym}
use Rattle.encoding.specs.Classes.{classes, any, inside, mask_below, mask_of, has}
use Rattle.encoding.specs.Encoding.{lowest}
use Rattle.encoding.proofs.Rows.{rows, fixed, fixed-found, fixed-none}
use Rattle.encoding.proofs.table.row_for.Goals as goal

pub returns-in_err-k : goal.returns-in_err-k
unfolding classes any inside mask_below mask_of has fixed
returns-in_err-k c =
    c.from_residual.ensures ∙ fixed-none c.args.word c.ranges.word.fits (sym c.in_err-k.was ∙ c.first.ensures)

pub returns : goal.returns
unfolding classes any inside mask_below mask_of has lowest rows fixed
returns c = (fixed-found c.args.word c.ranges.word.fits c.in_ok-k.k _ (sym c.in_ok-k.was ∙ c.first.ensures)).1
