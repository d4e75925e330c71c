-- `some_overlap`: each start against the end of the stretch before. Assumes nothing.
use mathlib.Core.Path.{sym, ap, ◌∙◌}
use mathlib.Core.Bool.{not}
use Prim.Native.Nat.{ℕ, ◌+◌}
use native.Mathlib.Omega.{arith}
use lib.ListN.{drop, length-drop}
use Rattle.std.proofs.lemmas.List.{drop_more, nil_from_length}
use Rattle.overlapping.specs.Overlaps.{parted}
use Rattle.overlapping.proofs.Passing.{parted-on, parted-off, parted-end}
use Rattle.overlapping.proofs.some_overlap.Goals as goal

pub returns-then-start_of-end : goal.returns-then-start_of-end
returns-then-start_of-end c =
    sym (ap not (sym c.loop-k.invariant ∙ ap (parted c.loop-k.end) (drop_more c.args.stretches.now c.loop-k.k-index 0 (omega arith))
    ∙ parted-off _ _ _ (omega (arith, c.start_of.ensures))))

pub loop-k-preserved : goal.loop-k-preserved
loop-k-preserved c =
    ap (λ (e : ℕ). parted e (drop (c.loop-k.k-index + 1) c.args.stretches.now)) c.end_of-end.ensures.0
    ∙ sym (ap (parted c.loop-k.end) (drop_more c.args.stretches.now c.loop-k.k-index 0 (omega arith))
    ∙ parted-on _ _ _ (omega (arith, c.start_of.ensures)))
    ∙ c.loop-k.invariant

pub returns : goal.returns
returns c =
    sym (ap not (sym c.loop-k.invariant
    ∙ parted-end _ _ (nil_from_length _ (omega (arith, length-drop c.loop-k.k-index c.args.stretches.now)))))
