-- `write_keys`: key by key, each element's part of memory lent to the byte writer. Assumes nothing.
use mathlib.Core.Path.{ap}
use Prim.Native.Nat.{ℕ, ◌*◌}
use native.Mathlib.Nat.{suc-mul}
use native.Mathlib.Numerals.{add-one}
use Rattle.std.proofs.Common.{arith, rules}
use Rattle.cutting.proofs.Copying.{copied-part}
use Rattle.writing.proofs.Writing.{writing-room, writing-next, writing-done}
use Rattle.writing.proofs.write_keys.Goals as goal

pub loop-k-preserved : goal.loop-k-preserved
loop-k-preserved c =
    let l = c.loop-k in
    let i = l.invariant in
    let s = c.args.size in
    let r = writing-room _ _ _ _ _ _ _ i.2 c.loop-k-test.true _ _ c.start_of-at.ensures.0 c.number_of.ensures.0 in (
      omega (arith, i.0),
      omega (arith, i.1, suc-mul l.k-index s, ap (λ (y : ℕ). y * s) (add-one l.k-index)),
      writing-next _ _ _ _ _ _ _ i.2 c.loop-k-test.true _ _ _ c.start_of-at.ensures.0 c.number_of.ensures.0
          (copied-part _ _ _ _ _ _ r.1 c.copy.ensures),
    )

pub returns : goal.returns
returns c =
    let i = c.loop-k.invariant in
    let h = c.loop-k-test.false in
    record { elements_value = search rules; memory_after = writing-done _ _ _ _ _ _ _ i.2 h }
