-- `list_sides`: the loop over the addresses. Invariant: the entries to come, put into the list as it is, make the whole. Assumes nothing.
use Prim.Native.Nat.{◌-◌}
use Rattle.comparing.proofs.Zipping.{Filling}
use Rattle.comparing.proofs.parts.list_sides.Given as goal

abbrev pub invariant-loop-i : goal.invariant-loop-i
invariant-loop-i l = Filling l.initial.list l.at l.address l.p l.q l.len l.list l.i l.k

abbrev pub decreases-loop-i : goal.decreases-loop-i
decreases-loop-i l = l.len - l.i
