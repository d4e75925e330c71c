-- `long`: run by run. Assumes nothing.
use native.Mathlib.Omega.{arith}
use Rattle.stretches.proofs.Measuring.{measuring-next, measuring-done}
use Rattle.stretches.proofs.long.Goals as goal

pub loop-first-preserved : goal.loop-first-preserved
loop-first-preserved c = measuring-next c.loop-first.invariant c.in-Some.ensures.cases.0 c.grown-run.ensures

pub returns : goal.returns
returns c = omega (arith, measuring-done c.loop-first.invariant c.in_default.ensures.cases)
