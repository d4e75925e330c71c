-- `border_of`: the count in units, in gaps, rounded up. No loop. Assumes nothing.
use Prim.Native.Nat.{◌+◌, ◌-◌, ◌*◌, ◌/◌, ◌%◌, ◌^◌, ◌≤◌, ◌<◌}
use mathlib.Core.Path.{◌≡◌}
use native.Mathlib.Omega.{arith}
use Rattle.elements.specs.Accesses.{border_of}
use Rattle.counters.proofs.Ranges.{border-is, power_small}
use Rattle.counters.proofs.border_of.Goals as goal
use Rattle.counters.proofs.border_of.Goals.{After-scaled-units}

gap : (c : After-scaled-units) → (1 ≤ 2 ^ c.args.g) × (2 ^ c.args.g ≤ 8)
gap c = power_small c.args.g c.requires.shift_value.2

less : (c : After-scaled-units) → (1 * 2 ^ c.args.g) % 2 ^ 64 ≡ 2 ^ c.args.g
less c = omega (arith, (gap c).1)

border : (c : After-scaled-units) →
    ((c.scaled-units.result + (2 ^ c.args.g - 1)) / 2 ^ c.args.g ≡ border_of c.args.vb c.args.v c.args.g)
    × (c.scaled-units.result < 2 ^ 15)
border c =
    border-is c.args.vb c.args.v c.args.g c.args.shift c.counted.result c.scaled-units.result
    c.requires.vb_value.0 c.requires.vb_value.1 c.requires.shift_value.0 c.counted.ensures c.scaled-units.ensures

pub overflow_sub-result : goal.overflow_sub-result
overflow_sub-result c = omega (arith, less (goal.at.overflow_sub-result c).After-scaled-units, (gap (goal.at.overflow_sub-result c).After-scaled-units).0)

pub overflow_add-result : goal.overflow_add-result
overflow_add-result c = omega (arith, less (goal.at.overflow_add-result c).After-scaled-units, (gap (goal.at.overflow_add-result c).After-scaled-units).1, (border (goal.at.overflow_add-result c).After-scaled-units).1)

pub returns : goal.returns
returns c = rw (less (goal.at.returns c).After-scaled-units) (border (goal.at.returns c).After-scaled-units).0
