-- `is_one`: each key against the one behind it. Assumes nothing.
use mathlib.Core.Path.{◌≡◌, ap, ◌∙◌}
use mathlib.Core.Bool.{true, not}
use mathlib.Core.Logic.{◌↔◌}
use Prim.Native.Nat.{◌<◌}
use lib.ListN.{length}
use Rattle.std.proofs.Common.{rules}
use Rattle.stretches.proofs.Joining.{Touching, told-one, told-none}
use Rattle.stretches.proofs.is_one.Goals as goal

pub returns-then-not-is_empty : goal.returns-then-not-is_empty
returns-then-not-is_empty c =
    let t : ◌≡◌ c.all.result true ↔ Touching c.args.size c.args.keys.now = search rules in
    let h : 0 < length c.args.keys.now = search rules in
    told-one _ _ _ h t.0 t.1

pub returns-else-not-is_empty : goal.returns-else-not-is_empty
returns-else-not-is_empty c =
    let h : ◌≡◌ (length c.args.keys.now) 0 = search rules in
    ap not c.if-not-is_empty.false ∙ told-none _ _ h
