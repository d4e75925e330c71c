-- `copy_each`: element by element, each one's place lent to the byte writer. The invariant is `EachCopied`: e elements are copied and
-- counted. Assumes nothing.
use Rattle.std.proofs.Common.{◌+◌, ◌*◌, ◌≤◌, ℕ, length, ◌∙◌, mul-le-mul_left, arith, length-take, length-drop}
use Rattle.endian.proofs.Parts.{length_part, part-is, part-over}
use Rattle.copying.proofs.Spreading.{each_first, each_in, each-source, each-small, each_next, each-done}
use Rattle.copying.proofs.copy_each.Goals as goal
use Rattle.copying.proofs.copy_each.Goals.{In-loop-e}

pub loop-e-init : goal.loop-e-init
loop-e-init c = each_first c.requires

module _ (k : In-loop-e) where
  abbrev from : ℕ
  from = k.loop-e.e * k.args.gap

  abbrev place : ℕ
  place = k.args.«at» + from

  in_src : from + k.args.size ≤ length k.args.src.now
  in_src = each-source k.requires k.loop-e.invariant k.loop-e-test.true

  in_memory : place + k.args.size ≤ length k.loop-e.memory
  in_memory = each_in k.requires k.loop-e.invariant k.loop-e-test.true

  -- side by side they would lie in both too: a program that closes the gaps is refused for its bytes
  closer : k.loop-e.e * k.args.size ≤ from
  closer = mul-le-mul_left k.loop-e.e k.requires.fit

  small : (k.loop-e.bytes + k.args.size ≤ 1024 * 256) × (place + k.args.size ≤ 65536)
  small = each-small k.requires k.loop-e.invariant k.loop-e-test.true

pub overflow_mul-from : goal.overflow_mul-from
overflow_mul-from c = let k = (goal.at.overflow_mul-from c).In-loop-e in omega (arith, (small k).1, closer k)

pub overflow_add-end : goal.overflow_add-end
overflow_add-end c = let k = (goal.at.overflow_add-end c).In-loop-e in omega (arith, (small k).1, closer k)

pub overflow_add-p : goal.overflow_add-p
overflow_add-p c = let k = (goal.at.overflow_add-p c).In-loop-e in omega (arith, (small k).1, closer k)

pub overflow_add-to : goal.overflow_add-to
overflow_add-to c = let k = (goal.at.overflow_add-to c).In-loop-e in omega (arith, (small k).1, closer k)

pub slice_bounds-copy-end : goal.slice_bounds-copy-end
slice_bounds-copy-end c = let k = (goal.at.slice_bounds-copy-end c).In-loop-e in omega (arith, in_memory k, closer k)

pub slice_bounds-copy-end-in-loop-e : goal.slice_bounds-copy-end-in-loop-e
slice_bounds-copy-end-in-loop-e c =
    let k = (goal.at.slice_bounds-copy-end-in-loop-e c).In-loop-e in omega (arith, in_src k, closer k)

pub copy-requires : goal.copy-requires
copy-requires c =
    let k = (goal.at.copy-requires c).In-loop-e in
    let s = in_src k in
    let d = in_memory k in
    let t = closer k in
    simp (length-take, length-drop) (omega arith)

pub overflow_add-elements : goal.overflow_add-elements
overflow_add-elements c = omega (arith, c.loop-e.invariant.counted, c.loop-e.invariant.most, c.requires.few)

pub overflow_add-bytes : goal.overflow_add-bytes
overflow_add-bytes c = omega (arith, (small (goal.at.overflow_add-bytes c).In-loop-e).0)

pub loop-e-preserved : goal.loop-e-preserved
loop-e-preserved c =
    let k = (goal.at.loop-e-preserved c).In-loop-e in
    let a = c.args in
    let l = c.loop-e in
    let m = c.copy in
    each_next c.requires l.invariant c.loop-e-test.true _ _ _
    (part-over l.memory (place k) a.size m.new.dst _ (length_part a.src.now (from k) a.size (in_src k))
    (m.ensures ∙ part-is a.src.now (from k) a.size))
    (omega arith) (omega arith)

-- ---- behind the loop

pub returns : goal.returns
returns c = each-done c.requires c.loop-e.invariant c.loop-e-test.false
