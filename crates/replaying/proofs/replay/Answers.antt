-- Demand 3's filling sentence, from the contracts of `store` and `apply`: the function is `replay`, and it has no loop. Assumes nothing.
use mathlib.Core.Path.{sym, ap}
use Prim.Native.Nat.{ℕ}
use native.Mathlib.Omega.{arith}
use lib.ListN.{take}
use borrow.Author.Rules.{rules}
use Rattle.std.proofs.lemmas.List.{length-take-le}
use Rattle.endian.proofs.LittleEndian.{bytes-at}
use Rattle.verdicts.specs.Verdicts.{number}
use Rattle.replaying.specs.Calls.{machine_of, length_of}
use Rattle.replaying.proofs.Calls.{in_buffer, not-done, replayed, not-replayed}
use Rattle.replaying.proofs.replay.Goals as goal

pub slice_bounds-is_applied-end : goal.slice_bounds-is_applied-end
slice_bounds-is_applied-end c =
    let g = c.args in
    let q = c.in-Ok.is in
    omega (
      arith,
      ap length_of q,
      in_buffer g.call.flags (machine_of g.call) g.base g.memory.now g.call.word g.patch.now
          c.store-verdict.result _ c.store-verdict.new.patch c.store-verdict.ensures (ap number q),
    )

pub slice_bounds-is_applied-end-in-Ok : goal.slice_bounds-is_applied-end-in-Ok
slice_bounds-is_applied-end-in-Ok c = sym (length-take-le _ _ (slice_bounds-is_applied-end c))

pub returns-in-Err : goal.returns-in-Err
returns-in-Err c =
    let g = c.args in
    not-replayed g.call.flags (machine_of g.call) g.base g.memory.now g.other.now g.target.now g.call.word g.patch.now g.scratch.now
    c.store-verdict.result c.store.result _ _ _ _ c.store-verdict.ensures c.store.ensures
    (not-done g.call.flags (machine_of g.call) g.base g.memory.now g.call.word g.patch.now
    c.store-verdict.result _ _ c.store-verdict.ensures _ c.in-Err.is)

pub returns-in-Ok : goal.returns-in-Ok
returns-in-Ok c =
    let g = c.args in
    let q = c.in-Ok.is in
    -- what Z and the two windows hold are bytes
    let bm = bytes-at g.memory.now (λ i. search rules) in
    let bo = bytes-at g.other.now (λ i. search rules) in
    replayed g.call.flags (machine_of g.call) g.base g.memory.now g.other.now g.target.now g.call.word g.patch.now g.scratch.now
    c.store-verdict.result c.store.result _ _ _ _ c.store-verdict.ensures c.store.ensures
    (bytes-at g.call.machine.z.now g.call.machine.bytes) bm bo (ap number q) _
    (ap (λ (j : ℕ). take j c.store-verdict.new.patch) (sym (ap length_of q)))
    c.is_applied.result _ c.is_applied.ensures
