-- `row_of`: register r is the r-th of the store's own. No loop. Assumes nothing.
use Prim.Native.Nat.{◌+◌, ◌*◌, ◌<◌}
use native.Mathlib.Omega.{arith}
use lib.ListN.{length}
use Rattle.elements.proofs.Numbers.{register-in}
use Rattle.accesses.proofs.Sizes.{row_below}
use Rattle.copying.proofs.row_of.Goals as goal
use Rattle.copying.proofs.row_of.Goals.{Start}

below : (a : Start) → a.args.s.first + a.args.r * a.args.s.stride < 32
below a = row_below a.args.s a.args.vb a.requires.strided_sound a.args.r a.requires.r_lt_nreg

pub overflow_mul-r : goal.overflow_mul-r
overflow_mul-r c = omega (arith, below (goal.at.overflow_mul-r c).Start)

pub overflow_add-s : goal.overflow_add-s
overflow_add-s c = omega (arith, below (goal.at.overflow_add-s c).Start)

pub register_of-requires : goal.register_of-requires
register_of-requires c =
    register-in c.args.vb _ 32 (length c.args.z.now) (omega (arith, below (goal.at.register_of-requires c).Start)) c.requires.z_len

pub returns : goal.returns
returns c = c.register_of.ensures
