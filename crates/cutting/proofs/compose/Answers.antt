-- `compose`: one run after another, each cut out of memory. Assumes nothing.
use mathlib.Core.Path.{refl, ap, ◌∙◌}
use native.Mathlib.Omega.{arith}
use Rattle.std.proofs.lemmas.List.{nil_from_length}
use Rattle.stretches.specs.Stretches.{merged}
use Rattle.stretches.proofs.Merging.{separate-merged}
use Rattle.cutting.proofs.Composing.{composing-first, composing-room, composing-next, composing-left, composing-done}
use Rattle.cutting.proofs.compose.Goals as goal

pub loop-first-init : goal.loop-first-init
loop-first-init c =
    let p = c.requires in
    (omega arith, composing-first _ _ _ _ p.2 _ refl (separate-merged _ _ p.0.rising))

pub put_run-requires : goal.put_run-requires
put_run-requires c =
    let p = c.requires in
    let g = c.grown-run.ensures in
    let r = composing-room _ _ _ _ p.2 _ _ _ _ c.loop-first.invariant.1 _ _ _ (ap merged c.in-Some.ensures.cases.0 ∙ g.same) in
    (omega (arith, g.some), omega (arith, r), r.0, p.1)

pub loop-first-preserved : goal.loop-first-preserved
loop-first-preserved c = (
  omega (arith, c.loop-first.invariant.0),
  composing-next _ _ _ _ c.requires.2 _ _ _ _ c.loop-first.invariant.1 _ _ _ _ _
      (ap merged c.in-Some.ensures.cases.0 ∙ c.grown-run.ensures.same) c.put_run.ensures (omega arith),
)

pub put_trailer-requires : goal.put_trailer-requires
put_trailer-requires c = composing-left _ _ _ _ c.requires.2 _ _ _ _ c.loop-first.invariant.1

pub returns : goal.returns
unfolding merged
returns c =
    let d = composing-done _ _ _ _ c.requires.2 _ _ _ _ c.loop-first.invariant.1
    (ap merged (nil_from_length _ c.in_default.ensures.cases)) _ c.put_trailer.ensures in
    record { value = omega (arith, d.0); out_after = d.1 }
