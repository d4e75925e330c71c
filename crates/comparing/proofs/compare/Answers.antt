-- `compare`: both strings judged, the list's room, then the entries. Assumes nothing.
use mathlib.Core.Bool.{Bool}
use mathlib.Core.Path.{◌≡◌, sym, ap, ◌∙◌}
use Prim.Native.Nat.{◌*◌, ◌≤◌}
use native.Mathlib.Omega.{arith}
use lib.ListN.{length}
use Rattle.std.specs.Prelude.{is_err}
use Rattle.endian.proofs.LittleEndian.{bytes-at}
use Rattle.patch.specs.Judging.{Judged}
use Rattle.patch.specs.Placing.{set_of}
use Rattle.comparing.specs.Merging.{differences, Patches}
use Rattle.comparing.proofs.Outcomes.{is-patch, no-patch, patches, compare-first, compare-second, compare-short, compare-done}
use Rattle.comparing.proofs.Outcomes.{lacks-some, lacks-none, thirds}
use Rattle.comparing.proofs.compare.Goals as goal
use Rattle.comparing.proofs.compare.Goals.{Else-is_err-2, In_default}

-- a judgement tested
tested : {b t : Bool} (j k : Judged) → j ≡ k → b ≡ is_err j → b ≡ t → is_err k ≡ t
tested j k e f g = ap (λ (x : Judged). is_err x) (sym e) ∙ sym f ∙ g

both : (c : Else-is_err-2) → Patches c.args.first.now c.args.second.now
both c =
    patches _ _
    (is-patch _ (bytes-at c.args.first.now (λ i. (c.type_inv.first i).fits))
    (tested _ _ c.judge.ensures c.is_err.ensures.value c.if-is_err.false))
    (is-patch _ (bytes-at c.args.second.now (λ i. (c.type_inv.second i).fits))
    (tested _ _ c.judge-2.ensures c.is_err-2.ensures.value c.if-is_err-2.false))

pub returns-then-is_err : goal.returns-then-is_err
returns-then-is_err c =
    compare-first _ _ _ (no-patch _ (tested _ _ c.judge.ensures c.is_err.ensures.value c.if-is_err.true))

pub returns-then-is_err-2 : goal.returns-then-is_err-2
returns-then-is_err-2 c =
    compare-second _ _ _
    (is-patch _ (bytes-at c.args.first.now (λ i. (c.type_inv.first i).fits))
    (tested _ _ c.judge.ensures c.is_err.ensures.value c.if-is_err.false))
    (no-patch _ (tested _ _ c.judge-2.ensures c.is_err-2.ensures.value c.if-is_err-2.true))

pub lacks-requires : goal.lacks-requires
lacks-requires c = both (goal.at.lacks-requires c).Else-is_err-2

pub returns-in-Some : goal.returns-in-Some
returns-in-Some c =
    let w = lacks-some _ _ _ (sym c.in-Some.is ∙ c.lacks.ensures) in
    compare-short _ _ _ _ (both (goal.at.returns-in-Some c).Else-is_err-2) w.0 (omega (arith, w))

-- the list has room
room : (c : In_default) → 3 * length (differences (set_of c.args.first.now) (set_of c.args.second.now)) ≤ length c.args.list.now
room c = lacks-none _ _ (sym c.in_default.is ∙ c.lacks.ensures)

pub fill-end-requires : goal.fill-end-requires
fill-end-requires c =
    let k = goal.at.fill-end-requires c in
    (both k.Else-is_err-2, room k.In_default)

pub returns : goal.returns
returns c =
    let k = goal.at.returns c in
    compare-done _ _ _ _ _ (both k.Else-is_err-2) (thirds _ _ c.fill-end.ensures.value)
    (omega (arith, room k.In_default, thirds _ _ c.fill-end.ensures.value)) c.fill-end.ensures.list_after
