-- `head_at`: what stands at an index. Each early return is neither a run nor a trailer. Assumes nothing.
use native.Mathlib.Omega.{arith}
use Rattle.reading.proofs.Heads.{run_in, trailer-in, neither-in}
use Rattle.reading.proofs.head_at.Goals as goal

pub returns-then-s-at : goal.returns-then-s-at
returns-then-s-at c = neither-in _ _ (λ st n h. omega arith) (λ k h. omega arith)

pub returns-then-left-lt4 : goal.returns-then-left-lt4
returns-then-left-lt4 c = neither-in _ _ (λ st n h. omega arith) (λ k h. omega arith)

pub returns-then-s-at-ne80 : goal.returns-then-s-at-ne80
returns-then-s-at-ne80 c = neither-in _ _ (λ st n h. omega arith) (λ k h. omega arith)

pub returns-then-s-at-eq69 : goal.returns-then-s-at-eq69
returns-then-s-at-eq69 c = trailer-in _ _ _ (record { long = omega arith; mark0 = omega arith; mark1 = omega arith; count = c.le16.ensures.0 })

pub returns-then-s-at-ne82 : goal.returns-then-s-at-ne82
returns-then-s-at-ne82 c = neither-in _ _ (λ st n h. omega arith) (λ k h. omega arith)

pub returns-then-left-lt12 : goal.returns-then-left-lt12
returns-then-left-lt12 c = neither-in _ _ (λ st n h. omega arith) (λ k h. omega arith)

pub returns-then-left-len : goal.returns-then-left-len
returns-then-left-len c = neither-in _ _ (λ st n h. omega arith) (λ k h. omega arith)

pub returns : goal.returns
returns c =
    run_in _ _ _ _ (record {
      long = omega arith;
      mark0 = omega arith;
      mark1 = omega arith;
      start = c.le64.ensures;
      count = c.le16-len.ensures.0;
      fits = omega arith;
    })
