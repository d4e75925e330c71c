-- `extension_of`: by the test of xs. Assumes nothing.
use mathlib.Core.Path.{sym, ap, ◌∙◌}
use mathlib.Core.Bool.{Bool}
use Rattle.encoding.specs.Decoding.{extension_of}
use Rattle.encoding.proofs.Reading.{uxtw, sxtw}
use Rattle.encoding.proofs.extension_of.Goals as goal

pub returns-then-xs-eq0 : goal.returns-then-xs-eq0
returns-then-xs-eq0 c =
    let a = c.args in
    uxtw a.xs c.if-xs-eq0.true ∙ sym (ap (λ (b : Bool). extension_of b a.xs) c.if-not-has.false)

pub returns-else-xs-eq0 : goal.returns-else-xs-eq0
returns-else-xs-eq0 c =
    let a = c.args in
    sxtw a.xs c.if-xs-eq0.false ∙ sym (ap (λ (b : Bool). extension_of b a.xs) c.if-not-has.false)
