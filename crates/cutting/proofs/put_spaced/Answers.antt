-- `put_spaced`: no run, or what one of the two loops puts. No loop of its own. Assumes nothing.
use native.Mathlib.Omega.{arith}
use Rattle.cutting.proofs.Turning.{apart-in, turn-first, turn-done}
use Rattle.cutting.proofs.put_spaced.Goals as goal

pub returns-then-runs-eq0 : goal.returns-then-runs-eq0
returns-then-runs-eq0 c =
    let p = c.requires in
    turn-done _ _ _ _ p _ _ _ _ _ (turn-first _ _ _ _ p) c.if-runs-eq0.true

pub overflow_add-w : goal.overflow_add-w
overflow_add-w c =
    let p = c.requires in
    omega (arith, apart-in _ _ _ _ p (omega arith), p.top)
