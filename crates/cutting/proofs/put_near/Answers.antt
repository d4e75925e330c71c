-- `put_near`: one run after another, each head two numbers. Assumes nothing.
use mathlib.Core.Path.{refl}
use Prim.Native.Nat.{◌+◌, ◌/◌, ◌^◌}
use native.Mathlib.Omega.{arith}
use Rattle.cutting.proofs.Putting.{head-numbers, tail-small}
use Rattle.cutting.proofs.Copying.{headed-run}
use Rattle.cutting.proofs.Turning.{apart-in, turn-first, turn-room, turn-next, turn-done}
use Rattle.cutting.proofs.put_near.Goals as goal

pub overflow_add-start : goal.overflow_add-start
overflow_add-start c =
    let p = c.requires.apart in
    omega (arith, apart-in _ _ _ _ p c.requires.near.0, p.some, p.top)

pub overflow_mul-tail : goal.overflow_mul-tail
overflow_mul-tail c =
    let p = c.requires.apart in
    omega (arith, apart-in _ _ _ _ p c.requires.near.0, p.small)

pub overflow_add-tail : goal.overflow_add-tail
overflow_add-tail c =
    let p = c.requires.apart in
    let i = apart-in _ _ _ _ p c.requires.near.0 in
    record { fits = tail-small _ _ (omega (arith, i, p.some, p.top)) (omega (arith, i, p.small)) }

pub loop-i-init : goal.loop-i-init
loop-i-init c = (omega arith, turn-first _ _ _ _ c.requires.apart)

pub put_headed-requires : goal.put_headed-requires
put_headed-requires c =
    let p = c.requires.apart in
    let r = turn-room _ _ _ _ p _ _ _ _ _ c.loop-i.invariant.1 c.loop-i-test.true in
    (p.some, omega (arith, r), r.0)

pub overflow_add-head-in-loop-i : goal.overflow_add-head-in-loop-i
overflow_add-head-in-loop-i c =
    let p = c.requires.apart in
    let i = c.loop-i.invariant in
    omega (arith, turn-room _ _ _ _ p _ _ _ _ _ i.1 c.loop-i-test.true, p.some, p.near, p.small, p.top, c.requires.near.1, i.0)

pub overflow_add-to : goal.overflow_add-to
overflow_add-to c =
    let p = c.requires.apart in
    omega (arith, turn-room _ _ _ _ p _ _ _ _ _ c.loop-i.invariant.1 c.loop-i-test.true, p.small)

pub overflow_add-to-in-loop-i : goal.overflow_add-to-in-loop-i
overflow_add-to-in-loop-i c =
    omega (arith, turn-room _ _ _ _ c.requires.apart _ _ _ _ _ c.loop-i.invariant.1 c.loop-i-test.true)

pub overflow_add-p : goal.overflow_add-p
overflow_add-p c =
    let p = c.requires.apart in
    omega (arith, turn-room _ _ _ _ p _ _ _ _ _ c.loop-i.invariant.1 c.loop-i-test.true, p.small, p.near)

pub loop-i-preserved : goal.loop-i-preserved
loop-i-preserved c =
    let p = c.requires.apart in
    let i = c.loop-i.invariant in
    let r = turn-room _ _ _ _ p _ _ _ _ _ i.1 c.loop-i-test.true in
    let h = (c.args.w + c.args.runs.first) / 2 ^ 48 in (
      omega (arith, i.0),
      turn-next _ _ _ _ p _ _ _ _ _ i.1 _ _ _ c.loop-i-test.true
          (headed-run _ _ _ _ _ _ _ _ _
          (head-numbers _ _ h _ _ (omega (arith, r, p.some, p.top)) (omega (arith, r, p.small, c.requires.near.1)) i.0 (omega arith))
          c.put_headed.ensures)
          refl
          (omega arith),
    )

pub returns : goal.returns
returns c = turn-done _ _ _ _ c.requires.apart _ _ _ _ _ c.loop-i.invariant.1 (omega arith)
