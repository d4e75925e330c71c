-- `admitted`: the tests of a run, one by one. Assumes nothing.
use mathlib.Core.Path.{sym}
use native.Mathlib.Omega.{arith}
use Rattle.writes.specs.Sizes.{max_runs, max_bytes}
use Rattle.reading.proofs.Steps.{admits-true, admits-false, floor-zero, floor-pos}
use Rattle.reading.proofs.admitted.Goals as goal

pub returns-then-len-lt1 : goal.returns-then-len-lt1
unfolding max_runs max_bytes
returns-then-len-lt1 c = sym (admits-false _ _ _ (λ a. omega arith))

pub returns-then-runs-ge-MAX_RUNS : goal.returns-then-runs-ge-MAX_RUNS
unfolding max_runs max_bytes
returns-then-runs-ge-MAX_RUNS c = sym (admits-false _ _ _ (λ a. omega arith))

pub returns-then-bytes-gt-MAX_BYTES : goal.returns-then-bytes-gt-MAX_BYTES
unfolding max_runs max_bytes
returns-then-bytes-gt-MAX_BYTES c = sym (admits-false _ _ _ (λ a. omega arith))

pub returns-then-len-bytes : goal.returns-then-len-bytes
unfolding max_runs max_bytes
returns-then-len-bytes c = sym (admits-false _ _ _ (λ a. omega arith))

pub returns-then-len-start : goal.returns-then-len-start
unfolding max_runs max_bytes
returns-then-len-start c = sym (admits-false _ _ _ (λ a. omega arith))

pub returns-then-runs-eq0 : goal.returns-then-runs-eq0
unfolding max_runs max_bytes
returns-then-runs-eq0 c =
    let x = c.args.c in
    sym
    (admits-true _ _ _ (record {
      one = omega arith;
      few = omega arith;
      small = omega arith;
      top = omega arith;
      gap = omega (arith, floor-zero x.runs x.last (omega arith));
    }))

pub returns-then-last-gt18446744073709551613 : goal.returns-then-last-gt18446744073709551613
unfolding max_runs max_bytes
returns-then-last-gt18446744073709551613 c =
    let x = c.args.c in
    sym (admits-false _ _ _ (λ a. omega (arith, floor-pos x.runs x.last (omega arith))))

pub returns-then-start-last : goal.returns-then-start-last
unfolding max_runs max_bytes
returns-then-start-last c =
    let x = c.args.c in
    sym (admits-false _ _ _ (λ a. omega (arith, floor-pos x.runs x.last (omega arith))))

pub returns : goal.returns
unfolding max_runs max_bytes
returns c =
    let x = c.args.c in
    sym
    (admits-true _ _ _ (record {
      one = omega arith;
      few = omega arith;
      small = omega arith;
      top = omega arith;
      gap = omega (arith, floor-pos x.runs x.last (omega arith));
    }))
