-- `compose_spaced`: one run and the trailer, or several and the trailer. No loop of its own. Assumes nothing.
use mathlib.Core.Path.{refl, sym, ap, ◌∙◌}
use mathlib.Core.List.{List}
use native.Mathlib.Omega.{arith}
use Rattle.writes.specs.Encoding.{encode_runs}
use Rattle.endian.specs.Overwriting.{overwritten}
use Rattle.stretches.specs.Intervals.{Interval}
use Rattle.cutting.specs.Cutting.{cut}
use Rattle.cutting.proofs.Composing.{composing-done}
use Rattle.cutting.proofs.Spacing.{spaced-one, total-one}
use Rattle.cutting.proofs.Turning.{apart-in}
use Rattle.cutting.proofs.compose_spaced.Goals as goal

pub compose_one-length-requires : goal.compose_one-length-requires
compose_one-length-requires c =
    let p = c.requires in
    let r = c.args.runs in
    let t = total-one r.gap r.size r.first r.count c.if-runs-eq1.true in
    (p.some, apart-in _ _ _ _ p (omega arith), omega (arith, t, p.room), p.top)

pub returns-then-runs-eq1 : goal.returns-then-runs-eq1
returns-then-runs-eq1 c =
    let a = c.args in
    let r = a.runs in
    let e = c.if-runs-eq1.true in
    let q = c.compose_one-length.ensures in record {
      length_value = (omega (arith, total-one r.gap r.size r.first r.count e, q.value), sym e);
      out_after = q.out_after ∙ ap (λ (J : List Interval). overwritten a.out.now 0 (encode_runs (cut a.w a.memory.now J)))
          (sym (spaced-one _ _ _ _ e));
    }

pub returns : goal.returns
returns c =
    let q = c.put_spaced-put.ensures in
    let d = composing-done _ _ _ _ c.requires.room _ _ _ _ q.0 refl _ c.put_trailer.ensures in
    record { length_value = (omega (arith, d.0), q.1); out_after = d.1 }
