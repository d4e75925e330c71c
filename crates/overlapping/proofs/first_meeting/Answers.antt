-- `first_meeting`: each key against the lower ones. Assumes nothing.
use mathlib.Core.Path.{sym, ◌∙◌}
use native.Mathlib.Omega.{arith}
use lib.ListN.{length-drop}
use Rattle.std.proofs.lemmas.List.{nil_from_length}
use Rattle.overlapping.proofs.Passing.{meeting-on, meeting-met, meeting-none}
use Rattle.overlapping.proofs.first_meeting.Goals as goal

pub returns-then-shares_one : goal.returns-then-shares_one
returns-then-shares_one c =
    sym (sym c.loop-e.invariant ∙ meeting-met c.args.keys.now c.loop-e.e (omega arith) (sym c.shares_one.ensures ∙ c.if-shares_one.true))

pub loop-e-preserved : goal.loop-e-preserved
loop-e-preserved c = meeting-on c.args.keys.now c.loop-e.e (omega arith) (sym c.shares_one.ensures ∙ c.if-shares_one.false) ∙ c.loop-e.invariant

pub returns : goal.returns
returns c =
    sym (sym c.loop-e.invariant ∙ meeting-none _ _ (nil_from_length _ (omega (arith, length-drop c.loop-e.e c.args.keys.now))))
