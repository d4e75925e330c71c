-- `store_none`: an empty patch, where there is room for it. Assumes nothing.
use native.Mathlib.Omega.{arith}
use Rattle.endian.proofs.LittleEndian.{bytes-at}
use Rattle.window.proofs.Windows.{window-inv}
use Rattle.stretches.specs.Intervals.{total}
use Rattle.cutting.specs.Cutting.{spaced}
use Rattle.strided.proofs.Covering.{none-short, none_done}
use Rattle.strided.proofs.store_none.Goals as goal

pub returns-then-patch-lt4 : goal.returns-then-patch-lt4
returns-then-patch-lt4 c =
    λ size. none-short c.args.base c.args.memory.now (window-inv _ _ c.requires).1 (bytes-at c.args.memory.now (λ i. (c.type_inv.memory i).fits)) size c.args.patch.now
    (omega arith)

pub compose_spaced-composed-requires : goal.compose_spaced-composed-requires
unfolding spaced total
compose_spaced-composed-requires c =
    let w = window-inv _ _ c.requires in
    record { some = omega arith; near = omega arith; small = w.0; top = w.1; room = omega arith; separate = tt }

pub returns : goal.returns
returns c =
    let k = c.compose_spaced-composed.ensures in
    λ size.
    none_done c.args.base c.args.memory.now (window-inv _ _ c.requires).1 (bytes-at c.args.memory.now (λ i. (c.type_inv.memory i).fits)) size _ _ _ _ c.args.patch.now _
    (omega arith)
    k.length_value.0 k.length_value.1 k.out_after
