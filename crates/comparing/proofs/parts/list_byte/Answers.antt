-- `list_byte`: nothing where the sides are alike, or the three numbers of an entry. Assumes nothing.
use mathlib.Core.Path.{◌≡◌, sym, ◌∙◌}
use Prim.Native.Nat.{◌+◌, ◌≤◌}
use native.Mathlib.Omega.{arith}
use lib.ListN.{length, length-set}
use Rattle.comparing.specs.Merging.{side_at}
use Rattle.comparing.proofs.Zipping.{listed-none, listed-one, entry_length}
use Rattle.comparing.proofs.parts.list_byte.Goals as goal
use Rattle.comparing.proofs.parts.list_byte.Goals.{Else-one-other}

unlike : (c : Else-one-other) → side_at c.args.p.now c.args.i ≡ side_at c.args.q.now c.args.i → ⊥
unlike c e = c.if-one-other.false (c.side-one.ensures ∙ e ∙ sym c.side-other.ensures)

room : (c : Else-one-other) → c.args.k + 3 ≤ length c.args.list.now
room c = omega (arith, entry_length c.args.address _ _ _ (unlike c), c.requires.0)

pub returns-then-one-other : goal.returns-then-one-other
returns-then-one-other c =
    listed-none _ _ _ _ _ _ (sym c.side-one.ensures ∙ c.if-one-other.true ∙ c.side-other.ensures)

pub bounds-list-k : goal.bounds-list-k
bounds-list-k c = omega (arith, room (goal.at.bounds-list-k c).Else-one-other)

pub overflow_add-list-2 : goal.overflow_add-list-2
overflow_add-list-2 c = omega (arith, room (goal.at.overflow_add-list-2 c).Else-one-other)

pub bounds-list-k-2 : goal.bounds-list-k-2
bounds-list-k-2 c = simp length-set (omega (arith, room (goal.at.bounds-list-k-2 c).Else-one-other))

pub overflow_add-list-3 : goal.overflow_add-list-3
overflow_add-list-3 c = omega (arith, room (goal.at.overflow_add-list-3 c).Else-one-other)

pub bounds-list-k-3 : goal.bounds-list-k-3
bounds-list-k-3 c = simp length-set (omega (arith, room (goal.at.bounds-list-k-3 c).Else-one-other))

pub overflow_add-result : goal.overflow_add-result
overflow_add-result c = omega (arith, room (goal.at.overflow_add-result c).Else-one-other)

pub returns : goal.returns
returns c =
    listed-one _ _ _ _ _ _ (unlike (goal.at.returns c).Else-one-other) _ _ c.side-one.ensures c.side-other.ensures
