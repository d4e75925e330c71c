-- `stack_strided`: the first active element lies before the end of the last. Assumes nothing.
use Rattle.elements.specs.Accesses.{strided_elements}
use Rattle.checks.proofs.Ranging.{some_is}
use Rattle.checks.proofs.stores.stack_strided.Goals as goal

pub returns : goal.returns
returns c =
    λ z. c.is_stack.ensures (strided_elements c.args.s c.args.vb z) (some_is c.args.s c.args.vb c.requires z)
