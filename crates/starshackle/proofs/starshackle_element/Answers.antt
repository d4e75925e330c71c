-- `starshackle_element`: by what inspecting answers. Assumes nothing.
use mathlib.Core.Path.{ap, ◌∙◌}
use Rattle.elements.specs.Machine.{machine}
use Rattle.verdicts.specs.declared.Flags.{Flags}
use Rattle.inspection.specs.Inspection.{inspected_of}
use Rattle.starshackle.proofs.starshackle_element.Goals as goal

pub returns : goal.returns
returns c =
    let i = c.inspect-inspected in
    let g = c.args in
    let m = machine g.vb g.x.now g.sp g.z.now g.p.now in
    record {
      answer = i.result;
      holds = i.ensures ∙ ap (λ (f : Flags). inspected_of f m g.word g.e) c.flags_of.ensures;
      its_number = c.number_of.ensures;
      its_numbers = c.answers_of.ensures;
    }
