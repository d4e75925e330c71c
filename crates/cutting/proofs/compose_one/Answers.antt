-- `compose_one`: a run, and the trailer behind it. No loop. Assumes nothing.
use native.Mathlib.Omega.{arith}
use Rattle.cutting.proofs.Composing.{composed-one}
use Rattle.cutting.proofs.compose_one.Goals as goal

pub returns : goal.returns
returns c =
    let p = c.requires in
    record { value = omega arith; out_after = composed-one _ _ _ _ _ p.0 p.1 p.2 _ _ c.put_run.ensures c.put_trailer.ensures }
