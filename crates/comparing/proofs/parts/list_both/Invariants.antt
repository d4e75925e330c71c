-- `list_both`: the loop over the addresses, eight of them at once where nothing differs. Invariant: as in `list_sides`, and the index is
-- within the parts. Assumes nothing.
use Prim.Native.Nat.{◌-◌, ◌≤◌}
use lib.ListN.{length}
use Rattle.comparing.proofs.Zipping.{Filling}
use Rattle.comparing.proofs.parts.list_both.Given as goal

abbrev pub invariant-loop-i : goal.invariant-loop-i
invariant-loop-i l = (l.i ≤ length l.p) × Filling l.initial.list l.at l.address l.p l.q (length l.p) l.list l.i l.k

abbrev pub decreases-loop-i : goal.decreases-loop-i
decreases-loop-i l = length l.p - l.i
