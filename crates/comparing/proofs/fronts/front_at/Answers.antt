-- `front_at`: by what the step finds. Assumes nothing.
use mathlib.Core.Path.{sym, ap, ◌∙◌}
use Rattle.std.specs.Prelude.{Some}
use Rattle.comparing.proofs.Standing.{stands, front-next, front-end}
use Rattle.comparing.proofs.fronts.front_at.Goals as goal

pub next_run-requires : goal.next_run-requires
next_run-requires c = stands _ _ c.requires.0 c.requires.1

pub returns-in-Next : goal.returns-in-Next
returns-in-Next c =
    let p = c.requires in
    front-next _ _ _ _ _ _ p.0 p.1 (sym c.next_run.ensures ∙ ap Some c.in-Next.is)

pub returns-in-End : goal.returns-in-End
returns-in-End c =
    let p = c.requires in
    front-end _ _ _ p.0 p.1 (sym c.next_run.ensures ∙ ap Some c.in-End.is)
