-- `lowest_outside`: the lowest run outside the window. Invariant: the survey is that of the runs that are left. Assumes nothing.
use mathlib.Core.Path.{sym, ◌∙◌}
use Prim.Native.Nat.{◌+◌, ◌≤◌}
use native.Mathlib.Omega.{arith}
use lib.ListN.{length}
use Rattle.patch.proofs.Windowed.{surveying-first, surveying-in, surveying-out, surveying-done}
use Rattle.patch.proofs.Windowed.{head-fits, run_fits}
use Rattle.patch.proofs.placing.lowest_outside.Goals as goal
use Rattle.patch.proofs.placing.lowest_outside.Goals.{After-le16-len, In-loop-k}

pub loop-k-init : goal.loop-k-init
loop-k-init c = surveying-first _ _ _ _ c.requires

-- a run is left: its head and its bytes stand in the string
head : (c : In-loop-k) → c.loop-k.at + 12 ≤ length c.args.s.now
head c = head-fits _ _ _ _ _ c.loop-k.invariant.left c.loop-k-test.true

stands : (k : After-le16-len) → k.loop-k.at + 12 + k.le16-len.result ≤ length k.args.s.now
stands k =
    run_fits _ _ _ _ _ _ k.loop-k.invariant.left k.loop-k-test.true k.le16-len.ensures.0

-- ---- the needs
pub overflow_add-at : goal.overflow_add-at
overflow_add-at c = omega (arith, head (goal.at.overflow_add-at c).In-loop-k)

pub le64-start-requires : goal.le64-start-requires
le64-start-requires c = omega (arith, head (goal.at.le64-start-requires c).In-loop-k)

pub overflow_add-at-in-loop-k : goal.overflow_add-at-in-loop-k
overflow_add-at-in-loop-k c = omega (arith, head (goal.at.overflow_add-at-in-loop-k c).In-loop-k)

pub le16-len-requires : goal.le16-len-requires
le16-len-requires c = omega (arith, head (goal.at.le16-len-requires c).In-loop-k)

pub returns-then-not-inside : goal.returns-then-not-inside
returns-then-not-inside c =
    surveying-out _ _ _ _ _ _ _ _ c.loop-k.invariant c.loop-k-test.true c.le64-start.ensures c.le16-len.ensures.0
    (sym c.inside.ensures ∙ c.if-not-inside.true)

pub overflow_add-at-in-loop-k-2 : goal.overflow_add-at-in-loop-k-2
overflow_add-at-in-loop-k-2 c = omega (arith, stands (goal.at.overflow_add-at-in-loop-k-2 c).After-le16-len)

pub overflow_add-at-in-loop-k-3 : goal.overflow_add-at-in-loop-k-3
overflow_add-at-in-loop-k-3 c = omega (arith, stands (goal.at.overflow_add-at-in-loop-k-3 c).After-le16-len)

pub loop-k-preserved : goal.loop-k-preserved
loop-k-preserved c =
    surveying-in _ _ _ _ _ _ _ _ c.loop-k.invariant c.loop-k-test.true c.le64-start.ensures c.le16-len.ensures.0
    (sym c.inside.ensures ∙ c.if-not-inside.false)

pub returns : goal.returns
returns c = surveying-done _ _ _ _ _ _ c.loop-k.invariant (omega arith)
