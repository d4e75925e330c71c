-- Demand 3's equality sentence, from the contract of `store`: the function is `same_patches`, and it has no loop. Assumes nothing.
use mathlib.Core.Path.{◌≡◌, refl, sym, ap}
use mathlib.Core.Bool.{Bool, true, false}
use mathlib.Core.List.{List}
use mathlib.Core.Logic.{◌↔◌}
use Prim.Native.Nat.{ℕ}
use native.Mathlib.Omega.{arith}
use lib.ListN.{take}
use borrow.Author.Rules.{rules}
use Rattle.std.proofs.lemmas.List.{length-take-le}
use Rattle.std.specs.Bool.{MatchBool}
use Rattle.std.specs.Prelude.{◌≢◌}
use Rattle.std.specs.Cmp.Lexicographic.{told_text}
use Rattle.endian.proofs.LittleEndian.{bytes-at}
use Rattle.endian.proofs.Order.{absurdly}
use Rattle.verdicts.specs.Verdicts.{number}
use Rattle.replaying.specs.Calls.{machine_of, length_of}
use Rattle.replaying.proofs.Calls.{in_buffer, not-done, compared, not-compared}
use Rattle.replaying.proofs.same_patches.Goals as goal

pub slice_bounds-eq-end : goal.slice_bounds-eq-end
slice_bounds-eq-end c =
    let g = c.args in
    let q = c.in-Ok-Ok.is-0 in
    omega (
      arith,
      ap length_of q,
      in_buffer g.call.flags (machine_of g.call) g.base g.memory.now g.call.word g.patch.now
          c.store-verdict.result _ c.store-verdict.new.patch c.store-verdict.ensures (ap number q),
    )

pub slice_bounds-eq-end-in-Ok-Ok-2 : goal.slice_bounds-eq-end-in-Ok-Ok-2
slice_bounds-eq-end-in-Ok-Ok-2 c =
    let g = c.args in
    let q = c.in-Ok-Ok.is-1 in
    omega (
      arith,
      ap length_of q,
      in_buffer g.call1.flags (machine_of g.call1) g.base g.memory1.now g.call1.word g.patch1.now
          c.store-verdict1.result _ c.store-verdict1.new.patch c.store-verdict1.ensures (ap number q),
    )

pub slice_bounds-eq-end-in-Ok-Ok : goal.slice_bounds-eq-end-in-Ok-Ok
slice_bounds-eq-end-in-Ok-Ok c = sym (length-take-le _ _ (slice_bounds-eq-end c))

pub slice_bounds-eq-end-in-Ok-Ok-3 : goal.slice_bounds-eq-end-in-Ok-Ok-3
slice_bounds-eq-end-in-Ok-Ok-3 c = sym (length-take-le _ _ (slice_bounds-eq-end-in-Ok-Ok-2 c))

told : {s t : List ℕ} (r : Bool) → MatchBool r (s ≡ t) (s ≢ t) → (r ≡ true) ↔ (s ≡ t)
told true h = (λ _. h, λ _. refl)
told false h = (λ q. absurdly cc, λ e. absurd (h e))

pub returns-in-Ok-Ok : goal.returns-in-Ok-Ok
returns-in-Ok-Ok c =
    let g = c.args in
    let q = c.in-Ok-Ok.is-0 in
    let q₁ = c.in-Ok-Ok.is-1 in
    -- what the Z buffers and the two windows hold are bytes
    let bm = bytes-at g.memory.now (λ i. search rules) in
    let bm₁ = bytes-at g.memory1.now (λ i. search rules) in
    compared g.base g.call.flags (machine_of g.call) g.memory.now g.call.word
    g.call1.flags (machine_of g.call1) g.memory1.now g.call1.word
    g.patch.now g.patch1.now c.store-verdict.result c.store-verdict1.result _ _ c.store-verdict.new.patch c.store-verdict1.new.patch
    c.store-verdict.ensures c.store-verdict1.ensures
    (bytes-at g.call.machine.z.now g.call.machine.bytes) (bytes-at g.call1.machine.z.now g.call1.machine.bytes) bm bm₁ (ap number q) (ap number q₁) _ _
    (ap (λ (j : ℕ). take j c.store-verdict.new.patch) (sym (ap length_of q)))
    (ap (λ (j : ℕ). take j c.store-verdict1.new.patch) (sym (ap length_of q₁)))
    c.eq.result (told c.eq.result (told_text _ _ c.eq.result c.eq.ensures))

pub returns-in_default : goal.returns-in_default
returns-in_default c =
    let g = c.args in
    not-compared g.base g.call.flags (machine_of g.call) g.memory.now g.call.word
    g.call1.flags (machine_of g.call1) g.memory1.now g.call1.word
    g.patch.now g.patch1.now c.store-verdict.result c.store-verdict1.result _ _ c.store-verdict.new.patch c.store-verdict1.new.patch
    c.store-verdict.ensures c.store-verdict1.ensures
    (λ _.
    not-done g.call1.flags (machine_of g.call1) g.base g.memory1.now g.call1.word g.patch1.now
    c.store-verdict1.result _ _ c.store-verdict1.ensures _
    c.in_default.is-1)

pub returns-in_default-2 : goal.returns-in_default-2
returns-in_default-2 c =
    let g = c.args in
    not-compared g.base g.call.flags (machine_of g.call) g.memory.now g.call.word
    g.call1.flags (machine_of g.call1) g.memory1.now g.call1.word
    g.patch.now g.patch1.now c.store-verdict.result c.store-verdict1.result _ _ c.store-verdict.new.patch c.store-verdict1.new.patch
    c.store-verdict.ensures c.store-verdict1.ensures
    (λ e _.
    not-done g.call.flags (machine_of g.call) g.base g.memory.now g.call.word g.patch.now
    c.store-verdict.result _ _ c.store-verdict.ensures _
    c.in_default.is-0 e)
