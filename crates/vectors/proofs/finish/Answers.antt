-- `finish` of a scatter or quadword store: stretches in order, verdict 12, room, memory, patch. Each step's facts go to the laws of
-- Finishing. Assumes nothing.
use Rattle.std.specs.Prelude.{Option, Some, None}
use mathlib.Core.Path.{◌≡◌, refl, sym, ◌∙◌, subst}
use mathlib.Core.Bool.{Bool, true, false, not, cond, ◌&&◌}
use mathlib.Core.List.{List}
use Prim.Native.Nat.{ℕ}
use native.Mathlib.Omega.{arith}
use lib.Dec.{eqb}
use lib.ListN.{length, take, length-take}
use borrow.Author.Tests.{leb-true, eqb-true}
use Rattle.endian.specs.LittleEndian.{Bytes}
use Rattle.endian.proofs.LittleEndian.{bytes-at}
use Rattle.endian.proofs.Order.{both}
use Rattle.writes.specs.Elements.{Element}
use Rattle.verdicts.specs.Verdicts.{Verdict}
use Rattle.stretches.specs.Stretches.{joined, Ordered}
use Rattle.overlapping.specs.Overlaps.{parted}
use Rattle.outcomes.specs.Steps.{StoredUnder}
use Rattle.vectors.specs.Steps.{Ready}
use Rattle.vectors.proofs.Finishing.{ready-sized, ready-placed, ready-ordered, ready-sum, ready-short, ready-done}
use Rattle.vectors.proofs.Finishing.{ready-address, ready-overlap, ready-under, one-under}
use Rattle.vectors.proofs.finish.Goals as goal
use Rattle.vectors.proofs.finish.Goals.{After-join_in_order-m, Then-is_one_of_eights}

-- ---- after joining and ordering: the stretches
module _ (o : After-join_in_order-m) where
  abbrev S : List ℕ
  S = take o.join_in_order-m.result o.join_in_order-m.new.stretches

  bytes : Bytes o.args.memory.now
  bytes = bytes-at o.args.memory.now (λ i. (o.type_inv.memory i).fits)

  many : length S ≡ o.join_in_order-m.result
  many = simp length-take (omega (arith, o.join_in_order-m.auto.stretches, o.join_in_order-m.ensures.0, o.requires.1.few))

-- ---- one stretch of doublewords
eights : (W L step size : ℕ) (stored K : List ℕ) (es : List Element) → size ≡ 8 → Ready W L step size stored K es
    → Ready W L 8 8 stored K es
eights W L step size stored K es e R =
    subst (λ (k : ℕ). Ready W L 8 k stored K es) e (subst (λ (k : ℕ). Ready W L k size stored K es) (R.doubleword e) R)

of-eights : (t : Bool) (W size : ℕ) (mem out : List ℕ) (es : List Element) (v : Verdict) (mem' out' : List ℕ) → size ≡ 8
    → StoredUnder t W 8 mem out es v mem' out' → StoredUnder t W size mem out es v mem' out'
of-eights t W size mem out es v mem' out' e = subst (λ (k : ℕ). StoredUnder t W k mem out es v mem' out') (sym e)

told : (i : Then-is_one_of_eights) → (i.args.v.size ≡ 8) × (length (joined 8 i.args.keys.now) ≡ 1)
told i =
    let o = i.is_one_of_eights in
    let t = both (eqb i.args.v.size 8) _ (sym o.ensures ∙ i.if-is_one_of_eights.true) in
    (eqb-true _ 8 t.0, eqb-true _ 1 t.1)

pub finish_one-requires : goal.finish_one-requires
finish_one-requires c =
    let t = told (goal.at.finish_one-requires c).Then-is_one_of_eights in
    record { ready = (c.requires.0, eights _ _ _ _ _ _ _ t.0 c.requires.1); one = t.1 }

pub returns-then-is_one_of_eights : goal.returns-then-is_one_of_eights
returns-then-is_one_of_eights c =
    let i = (goal.at.returns-then-is_one_of_eights c).Then-is_one_of_eights in
    let t = told i in
    let b = bytes-at c.args.memory.now (λ j. (i.type_inv.memory j).fits) in
    λ es R.
    let r = eights _ _ _ _ _ _ es t.0 R in
    of-eights _ _ _ _ _ es _ _ _ t.0
    (one-under _ _ _ c.args.memory.now _ _ es r t.1 b c.args.strict (c.finish_one.ensures es r))

pub join_in_order-m-requires : goal.join_in_order-m-requires
join_in_order-m-requires c =
    let r = c.requires in
    (ready-sized _ _ _ c.args.memory.now _ _ r.0 r.1, r.1.few)

-- ---- strict is on, and two keys share a byte
due : (t p : Bool) (o r : Option ℕ) (k : ℕ) → r ≡ cond (t && p) o None → r ≡ Some k → (t ≡ true) × (o ≡ Some k)
due true true o r k e q = (refl, sym e ∙ q)
due true false o r k e q = absurd cc
due false p o r k e q = absurd cc

pub overflow_add-result : goal.overflow_add-result
overflow_add-result c =
    let r = c.requires in
    let o = (goal.at.overflow_add-result c).After-join_in_order-m in
    let d = due c.args.strict (not (parted 0 (S o))) _ _ _ c.lowest.ensures c.in-Some.is in
    omega (arith, ready-address _ _ _ c.args.memory.now _ _ r.0 r.1 _ d.1, c.start_of.ensures.0)

pub returns-in-Some : goal.returns-in-Some
returns-in-Some c =
    let d = due _ _ _ _ _ c.lowest.ensures c.in-Some.is in
    λ es R.
    ready-overlap _ _ _ c.args.memory.now _ _ es R _ d.1 _ d.0 _ _ _ refl (omega (arith, c.start_of.ensures.0))

pub has_room-requires : goal.has_room-requires
has_room-requires c =
    let o = (goal.at.has_room-requires c).After-join_in_order-m in
    let p = c.requires in
    let q = c.join_in_order-m.ensures in (
      omega (arith, many o, q.0, p.1.few),
      omega (arith, ready-sum _ _ _ c.args.memory.now _ _ p.0 p.1 _ q.1 (bytes o)),
      p.1.bytes,
    )

pub returns-then-not-has_room : goal.returns-then-not-has_room
returns-then-not-has_room c =
    let b = bytes (goal.at.returns-then-not-has_room c).After-join_in_order-m in
    let j = c.join_in_order-m.ensures.1 in
    λ es R.
    ready-under _ _ _ c.args.memory.now _ _ es R _ j b c.args.strict (sym c.lowest.ensures ∙ c.in_default.is)
    (ready-short _ _ _ c.args.memory.now _ _ es R _ j b _ (sym c.has_room.ensures ∙ c.if-not-has_room.true))

pub write_vector-counts-requires : goal.write_vector-counts-requires
write_vector-counts-requires c =
    let r = c.requires in
    record {
      few = r.1.few;
      size_value = (r.1.width, r.1.doubleword, r.1.quadword);
      each = ready-placed _ _ _ c.args.memory.now _ _ r.0 r.1;
    }

pub compose-length-requires : goal.compose-length-requires
compose-length-requires c =
    let o = (goal.at.compose-length-requires c).After-join_in_order-m in
    let p = c.requires in
    let l : length c.write_vector-counts.new.memory ≡ length c.args.memory.now = c.write_vector-counts.auto.memory in (
      subst (Ordered (S o)) (sym l) (ready-ordered _ _ _ c.args.memory.now _ _ p.0 p.1 _ c.join_in_order-m.ensures.1 (bytes o)),
      omega (arith, p.1.top, l),
      leb-true _ _ (sym c.has_room.ensures ∙ c.if-not-has_room.false),
    )

pub returns : goal.returns
returns c =
    let o = (goal.at.returns c).After-join_in_order-m in
    let j = c.join_in_order-m.ensures.1 in
    let r = c.write_vector-counts.ensures in
    let k = c.compose-length.ensures in
    λ es R.
    ready-under _ _ _ c.args.memory.now _ _ es R _ j (bytes o) c.args.strict (sym c.lowest.ensures ∙ c.in_default.is)
    (ready-done _ _ _ c.args.memory.now _ _ es R _ j (bytes o) _ _ _ _ _ _ _
    (leb-true _ _ (sym c.has_room.ensures ∙ c.if-not-has_room.false)) r.elements_value.0 r.elements_value.1 r.memory_after k.value k.out_after
    (sym (many o)))
