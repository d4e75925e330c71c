-- Condition by condition. Assumes nothing.
use mathlib.Core.Path.{ap}
use mathlib.Core.Bool.{Bool, not, ◌&&◌, ◌||◌}
use Prim.Native.Nat.{◌%◌}
use lib.Dec.{eqb}
use Rattle.conditions.proofs.is_stack.Goals as goal

pub returns : goal.returns
returns c =
    let a = c.args in
    λ xs e. ap (λ (b : Bool). a.on_stack && a.flags.sp_check && not (eqb (a.sp % 16) 0) && (b || a.flags.sp_check_none_active)) e
