-- `starshackle_encode`: by what encoding answers. Assumes nothing.
use mathlib.Core.Path.{sym, ap}
use Rattle.encoding.specs.Answers.{encoded_number}
use Rattle.codec.specs.Codec.{encoded_answers}
use Rattle.starshackle.proofs.starshackle_encode.Goals as goal

pub returns-in-Some : goal.returns-in-Some
returns-in-Some c =
    let g = c.encode_given in
    let e = sym c.in-Some.is in
    record { answer = g.result; holds = g.ensures; its_number = ap encoded_number e; its_numbers = ap encoded_answers e }

pub returns-in-None : goal.returns-in-None
returns-in-None c =
    let g = c.encode_given in
    let e = sym c.in-None.is in
    record { answer = g.result; holds = g.ensures; its_number = ap encoded_number e; its_numbers = ap encoded_answers e }
