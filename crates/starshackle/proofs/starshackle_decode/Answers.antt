-- `starshackle_decode`: by what decoding answers. Assumes nothing.
use mathlib.Core.Path.{sym, ap, ◌∙◌}
use Rattle.encoding.specs.Answers.{decoded_number, decoded_numbers}
use Rattle.starshackle.proofs.starshackle_decode.Goals as goal

pub returns-in-Some : goal.returns-in-Some
returns-in-Some c =
    let d = c.decode in
    let e = sym c.in-Some.is in
    record {
      answer = d.result;
      holds = d.ensures;
      its_number = ap decoded_number e;
      its_numbers = c.numbers_of.ensures ∙ ap decoded_numbers e;
    }

pub returns-in-None : goal.returns-in-None
returns-in-None c =
    let d = c.decode in
    let e = sym c.in-None.is in
    record { answer = d.result; holds = d.ensures; its_number = ap decoded_number e; its_numbers = ap decoded_numbers e }
