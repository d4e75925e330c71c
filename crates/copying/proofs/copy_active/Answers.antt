-- `copy_active`. The loop's invariant is `Copied`: the active elements below k, those of the registers passed, are copied and counted.
-- Assumes nothing.
use Rattle.std.proofs.Common.{◌≡◌, ℕ, ◌+◌, ◌-◌, ◌*◌, ◌≤◌, ◌<◌, length, ap, ◌∙◌, mul-le-mul_right, arith, length-drop}
use native.Mathlib.Nat.{mul-le-mul}
use Rattle.elements.specs.declared.StridedAccess.{StridedAccess}
use Rattle.accesses.proofs.Sizes.{gap-small, high_small, row-long}
use Rattle.copying.proofs.Spreading.{row_small, copied-first, copied-off, copied_on, copied-done, part-from, part-high}
use Rattle.copying.proofs.Spreading.{rest-is, part-source, part_out}
use Rattle.copying.proofs.copy_active.Goals as goal
use Rattle.copying.proofs.copy_active.Goals.{After-row_of-reg, Else-to-k}

pub loop-r-init : goal.loop-r-init
loop-r-init c = copied-first c.requires.strided_sound c.args.z.now c.requires.z_len c.args.memory.now c.args.«at»

-- ---- the end of register r's part

pub overflow_add-r : goal.overflow_add-r
overflow_add-r c = omega (arith, c.requires.strided_sound.nreg)

pub overflow_mul-r : goal.overflow_mul-r
overflow_mul-r c = omega (arith, row_small c.args.s c.args.vb c.requires.strided_sound c.loop-r.r c.loop-r-test.true)

-- ---- it has none

pub loop-r-preserved-then-to-k : goal.loop-r-preserved-then-to-k
loop-r-preserved-then-to-k c =
    copied-off c.requires.strided_sound c.args.z.now c.requires.z_len c.args.memory.now c.args.«at» c.loop-r-test.true
    c.loop-r.invariant (omega (arith, c.min-to.ensures)) c.if-to-k.true

-- ---- it is copied: where its elements are in the register, and in memory

module _ (c : Else-to-k) where
  abbrev s : StridedAccess
  s = c.args.s

  abbrev k : ℕ
  k = c.loop-r.k

  abbrev r : ℕ
  r = c.loop-r.r

  abbrev to : ℕ
  to = c.min-to.result

  ends : to ≡ s.high - (s.high - (r + 1) * s.per)
  ends = omega (arith, c.min-to.ensures)

  some : k < to
  some = c.if-to-k.false

  first : r * s.per ≤ k
  first =
      part-from c.requires.strided_sound c.args.z.now c.requires.z_len c.args.memory.now c.args.«at»
      c.loop-r-test.true c.loop-r.invariant ends some

  high : to ≤ s.high
  high =
      part-high c.requires.strided_sound c.args.z.now c.requires.z_len c.args.memory.now c.args.«at»
      c.loop-r-test.true c.loop-r.invariant ends some

  abbrev from : ℕ
  from = (k - r * s.per) * s.gap

  source : (k - r * s.per) * s.gap + (to - k) * s.gap ≤ c.args.vb
  source =
      part-source c.requires.strided_sound c.args.z.now c.requires.z_len c.args.memory.now c.args.«at»
      c.loop-r-test.true c.loop-r.invariant ends some

  out : c.args.«at» + (k - s.low) * s.gap + (to - k) * s.gap ≤ length c.loop-r.memory + (s.gap - s.size)
  out =
      part_out c.requires.strided_sound c.args.z.now c.requires.z_len c.args.memory.now c.args.«at»
      c.loop-r-test.true c.loop-r.invariant ends some (length c.loop-r.memory)
      (omega (arith, c.requires.memory_len_bound.1, c.loop-r.invariant.long))

  -- small enough for sums
  small : (k - s.low) * s.gap + c.args.«at» ≤ 65536 + 256
  small =
      omega (
        arith,
        out,
        c.loop-r.invariant.long,
        c.requires.memory_len_bound.0,
        gap-small s c.args.vb c.requires.strided_sound,
      )

  few : (to - s.low) ≤ 1024
  few = omega (arith, high, high_small s c.args.vb c.requires.strided_sound)

  -- few bytes with them
  bytes-few : (to - s.low) * s.size ≤ 1024 * 256
  bytes-few =
      let l : s.size ≤ 256 =
      omega (arith, gap-small s c.args.vb c.requires.strided_sound, c.requires.strided_sound.size) in
      mul-le-mul few l

pub row_of-reg-requires : goal.row_of-reg-requires
row_of-reg-requires c =
    record { strided_sound = c.requires.strided_sound; z_len = c.requires.z_len; r_lt_nreg = c.loop-r-test.true }

pub overflow_mul-from : goal.overflow_mul-from
overflow_mul-from c = let e = (goal.at.overflow_mul-from c).Else-to-k in omega (arith, first e, few e, some e)

pub overflow_sub-from : goal.overflow_sub-from
overflow_sub-from c = first (goal.at.overflow_sub-from c).Else-to-k

pub overflow_mul-from-in-loop-r : goal.overflow_mul-from-in-loop-r
overflow_mul-from-in-loop-r c =
    omega (arith, source (goal.at.overflow_mul-from-in-loop-r c).Else-to-k, c.requires.strided_sound.high)

pub overflow_sub-p : goal.overflow_sub-p
overflow_sub-p c = c.loop-r.invariant.low

pub overflow_mul-p : goal.overflow_mul-p
overflow_mul-p c = omega (arith, small (goal.at.overflow_mul-p c).Else-to-k)

pub overflow_add-p : goal.overflow_add-p
overflow_add-p c = omega (arith, small (goal.at.overflow_add-p c).Else-to-k)

-- the register is one
row_is : (c : After-row_of-reg) → length c.row_of-reg.result.now ≡ c.args.vb
row_is c =
    ap length c.row_of-reg.ensures
    ∙ row-long c.args.s c.args.vb c.requires.strided_sound c.loop-r.r c.loop-r-test.true c.args.z.now c.requires.z_len

pub slice_bounds-copy_elements-count : goal.slice_bounds-copy_elements-count
slice_bounds-copy_elements-count c =
    let p = goal.at.slice_bounds-copy_elements-count c in omega (arith, source p.Else-to-k, row_is p.After-row_of-reg)

pub slice_bounds-copy_elements-start : goal.slice_bounds-copy_elements-start
slice_bounds-copy_elements-start c =
    let p = goal.at.slice_bounds-copy_elements-start c in omega (arith, source p.Else-to-k, row_is p.After-row_of-reg)

pub overflow_sub-to : goal.overflow_sub-to
overflow_sub-to c = omega (arith, some (goal.at.overflow_sub-to c).Else-to-k)

pub copy_elements-counts-requires : goal.copy_elements-counts-requires
copy_elements-counts-requires c =
    let p = goal.at.copy_elements-counts-requires c in
    let e = p.Else-to-k in
    record {
      few = omega (arith, few e, c.loop-r.invariant.low);
      small = gap-small c.args.s c.args.vb c.requires.strided_sound;
      fit = c.requires.strided_sound.size;
      window = omega (arith, c.loop-r.invariant.long, c.requires.memory_len_bound.0);
      inside = omega (arith, out e);
      source =
          rw (rest-is c.row_of-reg.result.now (from e))
          (omega (arith, source e, row_is p.After-row_of-reg, length-drop (from e) c.row_of-reg.result.now));
    }

pub overflow_add-elements : goal.overflow_add-elements
overflow_add-elements c =
    let e = (goal.at.overflow_add-elements c).Else-to-k in
    omega (arith, c.copy_elements-counts.ensures.counted, few e, some e, c.loop-r.invariant.counted)

pub overflow_add-bytes : goal.overflow_add-bytes
overflow_add-bytes c =
    let e = (goal.at.overflow_add-bytes c).Else-to-k in
    let l : k e - (s e).low ≤ to e - (s e).low = omega (arith, some e) in
    let m : to e - k e ≤ to e - (s e).low = omega (arith, c.loop-r.invariant.low) in
    omega (
      arith,
      c.copy_elements-counts.ensures.weighed,
      c.loop-r.invariant.weighed,
      bytes-few e,
      mul-le-mul_right (s e).size l,
      mul-le-mul_right (s e).size m,
    )

pub loop-r-preserved : goal.loop-r-preserved
loop-r-preserved c =
    let e = (goal.at.loop-r-preserved c).Else-to-k in
    let m = c.copy_elements-counts in
    copied_on c.requires.strided_sound c.args.z.now c.requires.z_len c.args.memory.now c.args.«at» c.loop-r-test.true
    c.loop-r.invariant (ends e) (some e) c.row_of-reg.ensures (rest-is c.row_of-reg.result.now (from e))
    (omega (arith, m.ensures.counted)) (omega (arith, m.ensures.weighed)) m.auto.memory m.ensures.same

-- ---- behind the loop

pub returns : goal.returns
returns c =
    let d =
    copied-done c.requires.strided_sound c.args.z.now c.requires.z_len c.args.memory.now c.args.«at» c.loop-r-test.false
    c.loop-r.invariant in
    record { elements_value = d.0; bytes_value = d.1; memory_after = d.2 }
