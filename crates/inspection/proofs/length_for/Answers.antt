-- `length_for`: test by test. Assumes nothing.
use mathlib.Core.Bool.{not, ◌&&◌, ◌||◌}
use Rattle.inspection.specs.Inspection.{length_for}
use Rattle.inspection.proofs.length_for.Goals as goal

pub returns : goal.returns
unfolding length_for
returns c =
    λ i. c.length_ok-ok.ensures i && (not (c.is_strided.ensures i) || c.one_of_five.ensures i)
