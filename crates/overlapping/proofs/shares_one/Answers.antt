-- `shares_one`: any of the keys. Assumes nothing.
use mathlib.Core.Path.{◌≡◌}
use mathlib.Core.Bool.{true}
use mathlib.Core.Logic.{◌↔◌}
use lib.ListN.{get_or}
use Rattle.std.specs.Prelude.{SomeIndex}
use Rattle.std.proofs.Common.{rules}
use Rattle.stretches.specs.Stretches.{start_of, end_of}
use Rattle.overlapping.specs.Overlaps.{meets}
use Rattle.overlapping.proofs.Passing.{told-any}
use Rattle.overlapping.proofs.shares_one.Goals as goal

pub returns : goal.returns
returns c =
    let a = start_of c.args.k in
    let b = end_of c.args.k in
    let K = c.args.keys.now in
    let t : c.any.result ≡ true ↔ SomeIndex K (λ i. meets a b (start_of (get_or K i 0)) (end_of (get_or K i 0)) ≡ true) = search rules in
    told-any _ _ K _ t.0 t.1
