-- `stack_vector`: with an active element, or by whether there is one. Assumes nothing.
use mathlib.Core.Path.{refl}
use mathlib.Core.List.{[], ◌∷◌}
use Rattle.writes.specs.Elements.{Element}
use Rattle.elements.specs.Accesses.{vector_elements}
use Rattle.checks.proofs.Order.{never-stack}
use Rattle.checks.proofs.stores.stack_vector.Goals as goal

-- any
element : Element
element = record { number = 0; address = 0; bytes = [] }

pub returns-then-not-is_stack : goal.returns-then-not-is_stack
returns-then-not-is_stack c =
    let g = c.args in
    let o = c.is_stack in
    λ offsets stored.
    never-stack g.flags g.sp g.on_stack o.result element (o.ensures (element ∷ []) refl)
    c.if-not-is_stack.true
    (vector_elements g.v offsets g.governing.now stored)

pub returns : goal.returns
returns c =
    let g = c.args in
    λ offsets stored. c.is_stack-2.ensures (vector_elements g.v offsets g.governing.now stored)
    (c.some_vector.ensures offsets stored)
