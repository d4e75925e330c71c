-- `copy_long`: sixteen bytes at a time, and the last sixteen. Invariant: the first i bytes are copied. Assumes nothing.
use Prim.Native.Nat.{◌-◌}
use Rattle.endian.proofs.Copying.{Copied}
use Rattle.endian.proofs.copy_long.Given as goal

abbrev pub invariant-loop-i : goal.invariant-loop-i
invariant-loop-i l = Copied l.src l.i l.dst

abbrev pub decreases-loop-i : goal.decreases-loop-i
decreases-loop-i l = l.n - l.i
