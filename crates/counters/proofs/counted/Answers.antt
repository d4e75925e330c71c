-- `counted`: the number above the lowest set bit, by a mask. No loop. Assumes nothing.
use native.Mathlib.Omega.{arith}
use lib.Pow.{pow_pos}
use Rattle.elements.specs.Counter.{highest}
use Rattle.elements.proofs.Leaves.{counted_is}
use Rattle.counters.proofs.counted.Goals as goal

pub overflow_mul-result : goal.overflow_mul-result
overflow_mul-result c = omega (arith, c.requires.vb_value.1)

pub overflow_sub-result : goal.overflow_sub-result
overflow_sub-result c = omega (arith, c.requires.vb_value.0, pow_pos (highest c.args.vb))

pub returns : goal.returns
returns c = counted_is c.args.vb c.args.v c.args.shift _ c.requires.vb_value.0 c.requires.shift_value.0 (omega arith)
