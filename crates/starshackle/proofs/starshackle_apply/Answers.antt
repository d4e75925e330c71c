-- `starshackle_apply`: by what applying answers. Assumes nothing.
use mathlib.Core.Path.{◌≡◌, sym, ap, ◌∙◌}
use mathlib.Core.List.{List}
use Prim.Native.Nat.{ℕ}
use Rattle.std.specs.Prelude.{Err}
use Rattle.patch.specs.Answers.{applied_number, applied_numbers}
use Rattle.patch.specs.Applying.{Applied, AppliedTo}
use Rattle.starshackle.specs.Interface.{Answers}
use Rattle.starshackle.proofs.starshackle_apply.Goals as goal

-- the numbers of an answer, by its case
answered : (W : ℕ) (m s m' : List ℕ) (r a : Applied) → AppliedTo W m s r m' → r ≡ a
    → Answers (λ (y : Applied). AppliedTo W m s y m') applied_number applied_numbers (applied_number a) (applied_numbers a)
answered W m s m' r a h e =
    record { answer = r; holds = h; its_number = sym (ap applied_number e); its_numbers = sym (ap applied_numbers e) }

pub returns-in-Ok : goal.returns-in-Ok
returns-in-Ok c =
    let d = c.apply in
    answered _ _ _ _ d.result _ d.ensures c.in-Ok.is

pub returns-in-Err-Window : goal.returns-in-Err-Window
returns-in-Err-Window c =
    let d = c.apply in
    let k = c.in-Err-Window in
    answered _ _ _ _ d.result _ d.ensures (k.is ∙ ap Err k.field-0-is)

pub returns-in-Err-BadPatch : goal.returns-in-Err-BadPatch
returns-in-Err-BadPatch c =
    let d = c.apply in
    let k = c.in-Err-BadPatch in
    answered _ _ _ _ d.result _ d.ensures (k.is ∙ ap Err k.field-0-is)

pub returns-in-Err-Outside : goal.returns-in-Err-Outside
returns-in-Err-Outside c =
    let d = c.apply in
    let k = c.in-Err-Outside in
    answered _ _ _ _ d.result _ d.ensures (k.is ∙ ap Err k.field-0-is)
