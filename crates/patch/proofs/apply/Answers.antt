-- `apply`: the window, the whole string, the lowest run outside, and the runs put into the window. Assumes nothing.
use mathlib.Core.Bool.{true}
use mathlib.Core.Path.{◌≡◌, sym, ◌∙◌}
use lib.ListN.{length}
use Rattle.std.specs.Prelude.{Ok}
use Rattle.endian.specs.LittleEndian.{Bytes}
use Rattle.window.specs.Window.{window_ok}
use Rattle.endian.proofs.LittleEndian.{bytes-at}
use Rattle.patch.specs.Judging.{judged}
use Rattle.patch.proofs.Judgements.{judge-patch, judge-other}
use Rattle.patch.proofs.Outcomes.{whole-runs, apply-window, apply-bad, apply-outside, apply-done, apply-inside}
use Rattle.patch.proofs.apply.Goals as goal
use Rattle.patch.proofs.apply.Goals.{After-whole, In-Ok}

bytes : (k : After-whole) → Bytes k.args.patch.now
bytes k = bytes-at k.args.patch.now (λ i. (k.type_inv.patch i).fits)

window : (k : After-whole) → window_ok k.args.base (length k.args.memory.now) ≡ true
window k = sym k.window_ok.ensures ∙ k.if-not-window_ok.false

is-patch : (k : In-Ok) → judged k.args.patch.now ≡ Ok (record { runs = k.in-Ok.field-0.runs; bytes = k.in-Ok.field-0.bytes })
is-patch k = judge-patch _ _ (sym k.in-Ok.is ∙ k.whole.ensures)

pub returns-then-not-window_ok : goal.returns-then-not-window_ok
returns-then-not-window_ok c = apply-window _ _ _ (sym c.window_ok.ensures ∙ c.if-not-window_ok.true)

pub survey_runs-requires : goal.survey_runs-requires
survey_runs-requires c =
    whole-runs _ _ (bytes (goal.at.survey_runs-requires c).After-whole) (sym c.in-Ok.is ∙ c.whole.ensures)

pub returns-in_default : goal.returns-in_default
returns-in_default c =
    let k = goal.at.returns-in_default c in
    apply-bad _ _ _ _ (window k.After-whole) (judge-other _ _ (sym c.in_default.is ∙ c.whole.ensures))

pub place_runs-requires : goal.place_runs-requires
place_runs-requires c =
    let k = goal.at.place_runs-requires c in
    apply-inside _ _ _ _ (bytes k.After-whole) (is-patch k.In-Ok) (sym c.survey_runs.ensures ∙ c.in_default-survey_runs.is)

pub returns-in-Some : goal.returns-in-Some
returns-in-Some c =
    let k = goal.at.returns-in-Some c in
    apply-outside _ _ _ _ _ _ (bytes k.After-whole) (window k.After-whole) (is-patch k.In-Ok) (sym c.survey_runs.ensures ∙ c.in-Some.is)

pub returns : goal.returns
returns c =
    let k = goal.at.returns c in
    apply-done _ _ _ _ _ (bytes k.After-whole) (window k.After-whole) (is-patch k.In-Ok) (sym c.survey_runs.ensures ∙ c.in_default-survey_runs.is)
    c.place_runs.ensures
