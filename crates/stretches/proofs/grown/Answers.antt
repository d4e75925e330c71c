-- `grown`: each stretch that meets or touches the run is taken in. Assumes nothing.
use native.Mathlib.Omega.{arith}
use Rattle.stretches.proofs.Growing.{growing-first, growing-more, growing-apart, growing-done}
use Rattle.stretches.proofs.grown.Goals as goal
use Rattle.stretches.proofs.grown.Goals.{in-Some+then-end-start_of, in_default}

pub loop-k-init : goal.loop-k-init
loop-k-init c = growing-first _ _ _ _ c.start_of-start.ensures.0 c.end_of-end.ensures

pub loop-k-preserved : goal.loop-k-preserved
loop-k-preserved c =
    growing-more c.loop-k.invariant c.in-Some.ensures.cases.0 _ (omega (arith, c.start_of.ensures)) (omega (arith, c.end_of.ensures, c.max-end.ensures))
    (omega (arith, c.end_of.ensures))

pub returns : goal.returns
returns c =
    elim c.match-split_first.branch [
      | in-Some+then-end-start_of w ↦ growing-apart c.loop-k.invariant w.in-Some.ensures.cases.0 (omega (arith, w.start_of.ensures))
      | in_default w ↦ growing-done c.loop-k.invariant w.in_default.ensures.cases
    ]
