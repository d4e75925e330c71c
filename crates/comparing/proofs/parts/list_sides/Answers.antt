-- `list_sides`: the loop over the addresses. Invariant: the entries to come, put into the list as it is, make the whole. Assumes nothing.
use mathlib.Core.Path.{◌≡◌, refl, sym, ◌∙◌}
use Prim.Native.Nat.{◌+◌, ◌≤◌}
use native.Mathlib.Omega.{arith}
use lib.ListN.{length, length-set}
use Rattle.comparing.specs.Merging.{side_at}
use Rattle.comparing.proofs.Zipping.{filling-first, filling-same, filling-room, filling-other, filling-last, filling-index}
use Rattle.comparing.proofs.parts.list_sides.Goals as goal
use Rattle.comparing.proofs.parts.list_sides.Goals.{Else-x-y}

pub loop-i-init : goal.loop-i-init
loop-i-init c = filling-first _ _ _ _ _ _ c.requires

unlike : (c : Else-x-y) → side_at c.args.p.now c.loop-i.i ≡ side_at c.args.q.now c.loop-i.i → ⊥
unlike c e = c.if-x-y.false (c.side-x.ensures ∙ e ∙ sym c.side-y.ensures)

room : (c : Else-x-y) → c.loop-i.k + 3 ≤ length c.loop-i.list
room c = filling-room _ _ _ _ _ _ _ _ _ c.loop-i.invariant (unlike c)

pub overflow_add-i : goal.overflow_add-i
overflow_add-i c = omega (arith, c.loop-i-test.true)

pub loop-i-smaller-then-x-y : goal.loop-i-smaller-then-x-y
loop-i-smaller-then-x-y c = omega (arith, c.loop-i-test.true)

pub loop-i-preserved-then-x-y : goal.loop-i-preserved-then-x-y
loop-i-preserved-then-x-y c =
    filling-same _ _ _ _ _ _ _ _ _ c.loop-i.invariant (sym c.side-x.ensures ∙ c.if-x-y.true ∙ c.side-y.ensures)

pub overflow_add-list : goal.overflow_add-list
overflow_add-list c = omega (arith, c.loop-i-test.true, c.loop-i.invariant.top)

pub bounds-list-k : goal.bounds-list-k
bounds-list-k c = omega (arith, room (goal.at.bounds-list-k c).Else-x-y)

pub overflow_add-list-in-loop-i : goal.overflow_add-list-in-loop-i
overflow_add-list-in-loop-i c = omega (arith, room (goal.at.overflow_add-list-in-loop-i c).Else-x-y)

pub bounds-list-k-in-loop-i : goal.bounds-list-k-in-loop-i
bounds-list-k-in-loop-i c = simp length-set (omega (arith, room (goal.at.bounds-list-k-in-loop-i c).Else-x-y))

pub overflow_add-list-in-loop-i-2 : goal.overflow_add-list-in-loop-i-2
overflow_add-list-in-loop-i-2 c = omega (arith, room (goal.at.overflow_add-list-in-loop-i-2 c).Else-x-y)

pub bounds-list-k-in-loop-i-2 : goal.bounds-list-k-in-loop-i-2
bounds-list-k-in-loop-i-2 c = simp length-set (omega (arith, room (goal.at.bounds-list-k-in-loop-i-2 c).Else-x-y))

pub overflow_add-k : goal.overflow_add-k
overflow_add-k c = omega (arith, room (goal.at.overflow_add-k c).Else-x-y)

pub overflow_add-i-in-loop-i : goal.overflow_add-i-in-loop-i
overflow_add-i-in-loop-i c = omega (arith, c.loop-i-test.true)

pub loop-i-smaller : goal.loop-i-smaller
loop-i-smaller c = omega (arith, c.loop-i-test.true)

pub loop-i-preserved : goal.loop-i-preserved
loop-i-preserved c =
    filling-other _ _ _ _ _ _ _ _ _ c.loop-i.invariant (unlike (goal.at.loop-i-preserved c).Else-x-y) _ _ _ refl c.side-x.ensures c.side-y.ensures

pub shape_of-list : goal.shape_of-list
shape_of-list c = c.loop-i.invariant.long

pub returns : goal.returns
returns c = (
  filling-last _ _ _ _ _ _ _ _ _ c.loop-i.invariant c.loop-i-test.false,
  filling-index _ _ _ _ _ _ _ _ _ c.loop-i.invariant c.loop-i-test.false,
)
