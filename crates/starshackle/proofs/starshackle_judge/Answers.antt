-- `starshackle_judge`: by what judging answers. Assumes nothing.
use mathlib.Core.Path.{sym, ap}
use Rattle.patch.specs.Answers.{judged_number, judged_numbers}
use Rattle.starshackle.proofs.starshackle_judge.Goals as goal

pub returns-in-Ok : goal.returns-in-Ok
returns-in-Ok c =
    let j = c.judge in
    let e = sym c.in-Ok.is in
    record { answer = j.result; holds = j.ensures; its_number = ap judged_number e; its_numbers = ap judged_numbers e }

pub returns-in-Err : goal.returns-in-Err
returns-in-Err c =
    let j = c.judge in
    let e = sym c.in-Err.is in
    record { answer = j.result; holds = j.ensures; its_number = ap judged_number e; its_numbers = ap judged_numbers e }
