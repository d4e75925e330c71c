-- `put_near`: one run after another, each head two numbers. The invariant is `Turn`, as in `put_apart`, and that `head` is the mark
-- and the next start, less its upper two bytes, which are the first start's. Assumes nothing.
use mathlib.Core.Path.{◌≡◌}
use Prim.Native.Nat.{◌+◌, ◌*◌, ◌/◌, ◌^◌}
use Rattle.cutting.proofs.Turning.{Turn}
use Rattle.cutting.proofs.put_near.Given as goal

abbrev pub invariant-loop-i : goal.invariant-loop-i
invariant-loop-i l =
    (l.head + 2 ^ 64 * ((l.w + l.runs.first) / 2 ^ 48) ≡ 0x5250 + 65536 * (l.w + l.p))
    × Turn l.runs l.w l.memory l.initial.out l.out l.p l.to l.steps l._i
