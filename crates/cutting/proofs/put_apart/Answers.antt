-- `put_apart`: one run after another. Assumes nothing.
use mathlib.Core.Path.{refl}
use native.Mathlib.Omega.{arith}
use Rattle.cutting.proofs.Turning.{turn-first, turn-room, turn-next, turn-done}
use Rattle.cutting.proofs.put_apart.Goals as goal

pub loop-i-init : goal.loop-i-init
loop-i-init c = turn-first _ _ _ _ c.requires

pub put_run-requires : goal.put_run-requires
put_run-requires c =
    let p = c.requires in
    let r = turn-room _ _ _ _ p _ _ _ _ _ c.loop-i.invariant c.loop-i-test.true in
    (p.some, omega (arith, r), r.0, p.top)

pub overflow_add-to : goal.overflow_add-to
overflow_add-to c =
    omega (arith, turn-room _ _ _ _ c.requires _ _ _ _ _ c.loop-i.invariant c.loop-i-test.true, c.requires.small)

pub overflow_add-to-in-loop-i : goal.overflow_add-to-in-loop-i
overflow_add-to-in-loop-i c =
    omega (arith, turn-room _ _ _ _ c.requires _ _ _ _ _ c.loop-i.invariant c.loop-i-test.true)

pub overflow_add-a : goal.overflow_add-a
overflow_add-a c =
    let p = c.requires in
    omega (arith, turn-room _ _ _ _ p _ _ _ _ _ c.loop-i.invariant c.loop-i-test.true, p.small, p.near)

pub loop-i-preserved : goal.loop-i-preserved
loop-i-preserved c =
    turn-next _ _ _ _ c.requires _ _ _ _ _ c.loop-i.invariant _ _ _ c.loop-i-test.true c.put_run.ensures refl (omega arith)

pub returns : goal.returns
returns c = turn-done _ _ _ _ c.requires _ _ _ _ _ c.loop-i.invariant (omega arith)
