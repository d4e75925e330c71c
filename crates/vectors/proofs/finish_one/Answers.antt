-- `finish_one`: room, memory, a patch of one run. Each step's facts go to the laws of Finishing. Assumes nothing.
use mathlib.Core.Path.{◌≡◌, ap, ◌∙◌}
use mathlib.Core.List.{[], ◌∷◌}
use Prim.Native.Nat.{ℕ, ◌*◌}
use native.Mathlib.Omega.{arith}
use lib.ListN.{length}
use Rattle.endian.specs.LittleEndian.{Bytes}
use Rattle.endian.specs.Overwriting.{overwritten}
use Rattle.endian.proofs.LittleEndian.{bytes-at}
use Rattle.writes.specs.Encoding.{encode_runs}
use Rattle.stretches.specs.Intervals.{interval}
use Rattle.cutting.specs.Cutting.{cut}
use Rattle.vectors.proofs.Finishing.{ready-placed, one-some, one_inside, one-short, one-done}
use Rattle.vectors.proofs.finish_one.Goals as goal
use Rattle.vectors.proofs.finish_one.Goals.{Else-patch-n}

bytes : (k : Else-patch-n) → Bytes k.args.memory.now
bytes k = bytes-at k.args.memory.now (λ i. (k.type_inv.memory i).fits)

pub returns-then-patch-n : goal.returns-then-patch-n
returns-then-patch-n c =
    let b = bytes-at c.args.memory.now (λ i. (c.type_inv.memory i).fits) in
    λ es R. one-short _ _ _ c.args.memory.now _ _ es R c.requires.one b _ (omega (arith, c.if-patch-n.true))

pub write_sized-counts-requires : goal.write_sized-counts-requires
write_sized-counts-requires c =
    let r = c.requires.ready in
    record {
      few = (r.1.few, omega arith);
      each = ready-placed _ _ _ c.args.memory.now _ _ r.0 r.1;
    }

pub bounds-keys-0 : goal.bounds-keys-0
bounds-keys-0 c =
    let r = c.requires.ready in
    omega (arith, one-some _ _ _ c.args.memory.now _ _ r.0 r.1 c.requires.one)

pub compose_one-written-requires : goal.compose_one-written-requires
compose_one-written-requires c =
    let r = c.requires.ready in
    let M = c.args.memory.now in
    let b = bytes (goal.at.compose_one-written-requires c).Else-patch-n in
    let l : length c.write_sized-counts.new.memory ≡ length c.args.memory.now = c.write_sized-counts.auto.memory in (
      omega (arith, one-some _ _ _ M _ _ r.0 r.1 c.requires.one),
      omega (arith, one_inside _ _ _ M _ _ r.0 r.1 c.requires.one b, c.start_of.ensures.0, l),
      omega (arith, c.if-patch-n.false),
      omega (arith, r.1.top, l),
    )

pub returns : goal.returns
returns c =
    let r = c.write_sized-counts.ensures in
    let b = bytes (goal.at.returns c).Else-patch-n in
    λ es R.
    one-done _ _ _ c.args.memory.now _ _ es R c.requires.one b _ (omega (arith, c.if-patch-n.false)) _ _ _ _ _
    r.elements_value.0 r.elements_value.1 r.memory_after c.compose_one-written.ensures.value
    (c.compose_one-written.ensures.out_after
    ∙ ap (λ (a : ℕ). overwritten c.args.patch.now 0
    (encode_runs (cut c.args.base c.write_sized-counts.new.memory (interval a (length c.args.keys.now * 8) ∷ []))))
    c.start_of.ensures.0)
