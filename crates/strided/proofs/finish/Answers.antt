-- `finish` of a strided store: the active elements are copied, and the patch is cut out of where they lie. Assumes nothing.
use mathlib.Core.Path.{◌≡◌, ap, ◌∙◌}
use Prim.Native.Nat.{ℕ, ◌+◌, ◌-◌, ◌*◌, ◌%◌, ◌^◌, ◌≤◌, ◌<◌}
use native.Mathlib.Nat.{mul-le-mul}
use native.Mathlib.Omega.{arith}
use lib.ListN.{length}
use Rattle.endian.specs.LittleEndian.{Bytes}
use Rattle.endian.proofs.LittleEndian.{bytes-at}
use Rattle.window.proofs.Windows.{window-inv}
use Rattle.elements.specs.Accesses.{StridedSound, strided_address}
use Rattle.elements.specs.declared.StridedAccess.{StridedAccess}
use Rattle.accesses.proofs.Sizes.{gap-small, reach-small}
use Rattle.strided.specs.Runs.{run_count, run_size}
use Rattle.strided.proofs.Covering.{bytes_small, runs-small, bounds, room, total-spaced, separate-as, strided-short, strided-done}
use Rattle.strided.proofs.finish.Goals as goal
use Rattle.strided.proofs.finish.Goals.{After-address}

-- of the runs
module _ (s : StridedAccess) (vb : ℕ) (o : StridedSound s vb) (l : s.low < s.high) where
  abbrev count : ℕ
  count = s.high - s.low

  most : count ≤ s.nreg * s.per
  most = omega (arith, o.most)

  small : (run_count s count ≤ 1024) × (1 ≤ run_size s count) × (run_size s count ≤ 1024)
  small = runs-small s vb o count most (omega arith)

  -- the first one's distance from the store's first address
  leads : s.low * s.gap ≤ 1024
  leads =
      let m : s.low ≤ s.nreg * s.per = omega (arith, o.most) in
      reach-small s vb o s.low m

  module _ (c n : ℕ) (ec : c ≡ run_count s count) (en : n ≡ run_size s count) where
    fill : c * (12 + n) ≡ run_count s count * (12 + run_size s count)
    fill = λ i. ec i * (12 + en i)

    fill-small : c * (12 + n) ≤ 1024 * 1036
    fill-small =
        let f : c ≤ 1024 = omega (arith, ec, small.0) in
        let m : 12 + n ≤ 1036 = omega (arith, en, small.2) in
        mul-le-mul f m

pub runs_of-runs-requires : goal.runs_of-runs-requires
runs_of-runs-requires c =
    let a = c.args in
    let o = c.requires.strided_sound in
    bytes_small a.s a.vb o.0 (count a.s a.vb o.0 o.1) (most a.s a.vb o.0 o.1)

pub overflow_add-size : goal.overflow_add-size
overflow_add-size c =
    let o = c.requires.strided_sound in
    omega (arith, c.runs_of-runs.ensures.1, (small c.args.s c.args.vb o.0 o.1).2)

pub overflow_mul-count : goal.overflow_mul-count
overflow_mul-count c =
    let o = c.requires.strided_sound in
    let r = c.runs_of-runs in
    omega (arith, fill-small c.args.s c.args.vb o.0 o.1 _ _ r.ensures.0 r.ensures.1)

pub overflow_add-count : goal.overflow_add-count
overflow_add-count c =
    let o = c.requires.strided_sound in
    let r = c.runs_of-runs in
    omega (arith, fill-small c.args.s c.args.vb o.0 o.1 _ _ r.ensures.0 r.ensures.1)

pub returns-then-patch-count : goal.returns-then-patch-count
returns-then-patch-count c =
    let a = c.args in
    let o = c.requires.strided_sound in
    let m = c.requires.memory_value in
    let r = c.runs_of-runs in
    strided-short a.s a.vb o.0 a.z.now c.requires.z_len (bytes-at a.z.now (λ i. (c.type_inv.z i).fits)) o.1 a.base
    a.memory.now (bytes-at a.memory.now (λ i. (c.type_inv.memory i).fits)) m.0 m.1 a.patch.now
    (omega (arith, fill a.s a.vb o.0 o.1 _ _ r.ensures.0 r.ensures.1))

-- ---- with the first address at hand: where the elements lie
pub lead-requires : goal.lead-requires
lead-requires c =
    let o = c.requires.strided_sound in
    leads c.args.s c.args.vb o.0 o.1

module _ (d : After-address) where
  z-bytes : Bytes d.args.z.now
  z-bytes = bytes-at d.args.z.now (λ i. (d.type_inv.z i).fits)

  memory-bytes : Bytes d.args.memory.now
  memory-bytes = bytes-at d.args.memory.now (λ i. (d.type_inv.memory i).fits)

  address : d.address.result ≡ strided_address d.args.s d.args.s.low
  unfolding strided_address
  address = d.address.ensures ∙ ap (λ (i : ℕ). (d.args.s.start + i) % 2 ^ 64) d.lead.ensures

  below : d.args.base ≤ d.address.result
  below =
      let a = d.args in
      let o = d.requires.strided_sound in
      let m = d.requires.memory_value in
      omega (arith, (bounds a.s a.vb o.0 a.z.now d.requires.z_len z-bytes o.1 a.base a.memory.now memory-bytes m.0 m.1).0, address)

  abbrev at : ℕ
  at = d.address.result - d.args.base

  at-is : at ≡ strided_address d.args.s d.args.s.low - d.args.base
  at-is = ap (λ (x : ℕ). x - d.args.base) address

  fits : at + (d.args.s.high - d.args.s.low) * d.args.s.gap ≤ length d.args.memory.now + (d.args.s.gap - d.args.s.size)
  fits =
      let a = d.args in
      let o = d.requires.strided_sound in
      let m = d.requires.memory_value in
      omega (arith, room a.s a.vb o.0 a.z.now d.requires.z_len z-bytes o.1 a.base a.memory.now memory-bytes m.0 m.1, at-is)

pub overflow_sub-at : goal.overflow_sub-at
overflow_sub-at c = below (goal.at.overflow_sub-at c).After-address

pub copy_active-counts-requires : goal.copy_active-counts-requires
copy_active-counts-requires c =
    record {
      strided_sound = c.requires.strided_sound.0;
      z_len = c.requires.z_len;
      memory_len_bound =
          ((window-inv _ _ c.requires.memory_value.0).0, fits (goal.at.copy_active-counts-requires c).After-address);
    }

pub compose_spaced-composed-requires : goal.compose_spaced-composed-requires
compose_spaced-composed-requires c =
    let d = (goal.at.compose_spaced-composed-requires c).After-address in
    let a = c.args in
    let o = c.requires.strided_sound in
    let m = c.requires.memory_value in
    let r = c.runs_of-runs in
    let w = window-inv _ _ m.0 in
    let l = c.copy_active-counts.auto.memory in
    record {
      some = omega (arith, r.ensures.1, (small a.s a.vb o.0 o.1).1);
      near = omega (arith, gap-small a.s a.vb o.0);
      small = omega (arith, l, w.0);
      top = omega (arith, l, w.1);
      room = omega (arith, total-spaced (at d) a.s.gap r.result.size r.result.count);
      separate = separate-as a.s a.vb o.0 a.z.now c.requires.z_len (z-bytes d) o.1 a.base a.memory.now (memory-bytes d) m.0 m.1 l (at-is d)
          r.ensures.1 r.ensures.0;
    }

pub returns : goal.returns
returns c =
    let d = (goal.at.returns c).After-address in
    let a = c.args in
    let o = c.requires.strided_sound in
    let m = c.requires.memory_value in
    let r = c.runs_of-runs in
    let y = c.copy_active-counts in
    let k = c.compose_spaced-composed.ensures in
    strided-done a.s a.vb o.0 a.z.now c.requires.z_len (z-bytes d) o.1 a.base a.memory.now (memory-bytes d) m.0 m.1 _ _ _ _ (at d) _ _ _
    a.patch.now _ (omega (arith, fill a.s a.vb o.0 o.1 _ _ r.ensures.0 r.ensures.1)) y.ensures.elements_value y.ensures.bytes_value
    (at-is d) y.ensures.memory_after r.ensures.1 r.ensures.0 k.length_value.0 k.length_value.1 k.out_after
