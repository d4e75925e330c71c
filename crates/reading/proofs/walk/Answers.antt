-- `walk`: the loop over the steps. Invariant: reading ends where it ends from the cursor on; its measure is how many runs may still come.
-- Assumes nothing.
use mathlib.Core.Path.{sym, ap, ◌∙◌, subst}
use Rattle.std.specs.Prelude.{Some}
use Rattle.reading.proofs.Loops.{Going, going-first, going_next, going_less, stop-end, stop-bad}
use Rattle.reading.proofs.walk.Goals as goal

pub loop-next-init : goal.loop-next-init
loop-next-init c = subst (Going c.args.s.now c.args.at) (sym c.start-c.ensures) (going-first c.args.s.now c.args.at)

pub returns-in-None : goal.returns-in-None
returns-in-None c = stop-bad _ _ _ c.loop-next.invariant (sym c.step_at.ensures ∙ c.in-None.is)

pub returns-in-Some-End : goal.returns-in-Some-End
returns-in-Some-End c =
    let k = c.in-Some-End in
    stop-end _ _ _ _ c.loop-next.invariant (sym c.step_at.ensures ∙ k.is ∙ ap Some k.field-0-is)

pub loop-next-smaller : goal.loop-next-smaller
loop-next-smaller c =
    let k = c.in-Some-Next in
    going_less _ _ _ _ _ _ (sym c.step_at.ensures ∙ k.is ∙ ap Some k.field-0-is)

pub loop-next-preserved : goal.loop-next-preserved
loop-next-preserved c =
    let k = c.in-Some-Next in
    going_next _ _ _ _ _ _ _ c.loop-next.invariant (sym c.step_at.ensures ∙ k.is ∙ ap Some k.field-0-is)
