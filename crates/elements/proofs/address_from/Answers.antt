-- `address_from`: a scaled offset added to the base, modulo 2^64. No loop. Assumes nothing.
use Rattle.std.proofs.Common.{◌≡◌, ℕ, ◌+◌, ◌*◌, ◌%◌, ◌^◌, ap, ◌∙◌, arith}
use Rattle.elements.proofs.address_from.Goals as goal

pub returns : goal.returns
returns c =
    let a = c.args in
    let e : c.scaled.result ≡ (c.offset-o.result * 2 ^ a.scale) % 2 ^ 64 = c.scaled.ensures in
    omega arith ∙ ap (λ (o : ℕ). (a.base + o * 2 ^ a.scale) % 2 ^ 64) c.offset-o.ensures
