-- `place_runs`: all runs put into the window. Invariant: what is left, laid over memory, is the whole. Assumes nothing.
use mathlib.Core.Path.{sym, ◌∙◌}
use Prim.Native.Nat.{◌+◌, ◌-◌, ◌≤◌}
use native.Mathlib.Omega.{arith}
use lib.ListN.{length, take, drop}
use Rattle.endian.proofs.Parts.{length_part, part_length, part-over, part-is}
use Rattle.patch.proofs.Windowed.{writing-first, writing-next, writing-fits, writing-done, head-fits, run_fits}
use Rattle.patch.proofs.placing.place_runs.Goals as goal
use Rattle.patch.proofs.placing.place_runs.Goals.{After-le16-len, In-loop-k}

pub loop-k-init : goal.loop-k-init
loop-k-init c = writing-first _ _ _ _ c.requires

-- its head stands in the string; it lies in the window, and stands in the string whole
head : (c : In-loop-k) → c.loop-k.at + 12 ≤ length c.args.s.now
head c = head-fits _ _ _ _ _ c.loop-k.invariant.left c.loop-k-test.true

lies : (k : After-le16-len)
    → (k.args.base ≤ k.le64-start.result) × (k.le64-start.result - k.args.base + k.le16-len.result ≤ length k.loop-k.memory)
lies k =
    writing-fits _ _ _ _ _ _ _ _ _ k.loop-k.invariant k.loop-k-test.true k.le64-start.ensures
    k.le16-len.ensures.0

stands : (k : After-le16-len) → k.loop-k.at + 12 + k.le16-len.result ≤ length k.args.s.now
stands k = run_fits _ _ _ _ _ _ k.loop-k.invariant.left k.loop-k-test.true k.le16-len.ensures.0

-- ---- the needs
pub overflow_add-at : goal.overflow_add-at
overflow_add-at c = omega (arith, head (goal.at.overflow_add-at c).In-loop-k)

pub le64-start-requires : goal.le64-start-requires
le64-start-requires c = omega (arith, head (goal.at.le64-start-requires c).In-loop-k)

pub overflow_add-at-in-loop-k : goal.overflow_add-at-in-loop-k
overflow_add-at-in-loop-k c = omega (arith, head (goal.at.overflow_add-at-in-loop-k c).In-loop-k)

pub le16-len-requires : goal.le16-len-requires
le16-len-requires c = omega (arith, head (goal.at.le16-len-requires c).In-loop-k)

pub overflow_sub-to : goal.overflow_sub-to
overflow_sub-to c = omega (arith, lies (goal.at.overflow_sub-to c).After-le16-len)

pub overflow_add-from : goal.overflow_add-from
overflow_add-from c = omega (arith, stands (goal.at.overflow_add-from c).After-le16-len)

pub overflow_add-to : goal.overflow_add-to
overflow_add-to c = omega (arith, lies (goal.at.overflow_add-to c).After-le16-len)

pub slice_bounds-copy-end : goal.slice_bounds-copy-end
slice_bounds-copy-end c = omega (arith, lies (goal.at.slice_bounds-copy-end c).After-le16-len)

pub overflow_add-from-in-loop-k : goal.overflow_add-from-in-loop-k
overflow_add-from-in-loop-k c = omega (arith, stands (goal.at.overflow_add-from-in-loop-k c).After-le16-len)

pub slice_bounds-copy-end-in-loop-k : goal.slice_bounds-copy-end-in-loop-k
slice_bounds-copy-end-in-loop-k c = omega (arith, stands (goal.at.slice_bounds-copy-end-in-loop-k c).After-le16-len)

pub copy-requires : goal.copy-requires
copy-requires c =
    let n = c.le16-len.result in
    part_length c.args.s.now (c.loop-k.at + 12) n (stands (goal.at.copy-requires c).After-le16-len)
    ∙ sym (part_length c.loop-k.memory (c.le64-start.result - c.args.base) n (lies (goal.at.copy-requires c).After-le16-len).1)

pub overflow_add-at-in-loop-k-2 : goal.overflow_add-at-in-loop-k-2
overflow_add-at-in-loop-k-2 c =
    omega (arith, stands (goal.at.overflow_add-at-in-loop-k-2 c).After-le16-len)

pub loop-k-preserved : goal.loop-k-preserved
loop-k-preserved c =
    let n = c.le16-len.result in
    let s = c.args.s.now in
    let from = c.loop-k.at + 12 in
    writing-next _ _ _ _ _ _ _ _ _ c.loop-k.invariant c.loop-k-test.true c.le64-start.ensures
    c.le16-len.ensures.0 _
    (part-over c.loop-k.memory (c.le64-start.result - c.args.base) n _ (take n (drop from s))
    (length_part s from n (stands (goal.at.loop-k-preserved c).After-le16-len)) (c.copy.ensures ∙ part-is s from n))

pub returns : goal.returns
returns c = writing-done _ _ _ _ _ _ _ c.loop-k.invariant (omega arith)
