-- `starshackle_compare`: by what comparing answers. Assumes nothing.
use mathlib.Core.Path.{◌≡◌, sym, ap, ◌∙◌}
use mathlib.Core.List.{List}
use Prim.Native.Nat.{ℕ}
use Rattle.std.specs.Prelude.{Err}
use Rattle.comparing.specs.Answers.{compared_number, compared_numbers}
use Rattle.comparing.specs.Comparing.{Compared, ComparedTo}
use Rattle.starshackle.specs.Interface.{Answers}
use Rattle.starshackle.proofs.starshackle_compare.Goals as goal

-- the numbers of an answer, by its case
answered : (s t l l' : List ℕ) (r a : Compared) → ComparedTo s t l r l' → r ≡ a
    → Answers (λ (y : Compared). ComparedTo s t l y l') compared_number compared_numbers (compared_number a) (compared_numbers a)
answered s t l l' r a h e =
    record { answer = r; holds = h; its_number = sym (ap compared_number e); its_numbers = sym (ap compared_numbers e) }

pub returns-in-Ok : goal.returns-in-Ok
returns-in-Ok c =
    let r = c.compare in
    answered _ _ _ _ r.result _ r.ensures c.in-Ok.is

pub returns-in-Err-NoRoom : goal.returns-in-Err-NoRoom
returns-in-Err-NoRoom c =
    let r = c.compare in
    let k = c.in-Err-NoRoom in
    answered _ _ _ _ r.result _ r.ensures (k.is ∙ ap Err k.field-0-is)

pub returns-in-Err-FirstBad : goal.returns-in-Err-FirstBad
returns-in-Err-FirstBad c =
    let r = c.compare in
    let k = c.in-Err-FirstBad in
    answered _ _ _ _ r.result _ r.ensures (k.is ∙ ap Err k.field-0-is)

pub returns-in-Err-SecondBad : goal.returns-in-Err-SecondBad
returns-in-Err-SecondBad c =
    let r = c.compare in
    let k = c.in-Err-SecondBad in
    answered _ _ _ _ r.result _ r.ensures (k.is ∙ ap Err k.field-0-is)
