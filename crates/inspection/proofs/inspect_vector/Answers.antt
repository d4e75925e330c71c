-- `inspect_vector`: the element is held to the access's count, and then lies in its registers. No loop. Assumes nothing.
use mathlib.Core.Path.{refl, ap, ◌∙◌}
use Prim.Native.Nat.{◌+◌, ◌*◌, ◌/◌, ◌≤◌}
use native.Mathlib.Omega.{arith}
use lib.ListN.{length}
use Rattle.elements.proofs.Numbers.{register-in, predicate-in, register-long}
use Rattle.checks.proofs.Spans.{whole_in, offset-in, bit_in, below_end}
use Rattle.inspection.proofs.Inspecting.{vector-past, vector-found}
use Rattle.inspection.proofs.inspect_vector.Goals as goal
use Rattle.inspection.proofs.inspect_vector.Goals.{Else-count-e, Start}

-- the registers of the offsets and of the governing predicate lie in their buffers
offsets-in : (a : Start) → a.args.v.offsets * a.args.vb + a.args.vb ≤ length a.args.z.now
offsets-in a = register-in a.args.vb a.args.v.offsets 32 (length a.args.z.now) a.requires.vector_sound.offsets a.requires.z_len.0

governing-in : (a : Start) → a.args.v.governing * (a.args.vb / 8) + a.args.vb / 8 ≤ length a.args.p.now
governing-in a =
    predicate-in a.args.vb a.args.v.governing (length a.args.p.now) a.requires.vector_sound.governing a.requires.vector_sound.eighth
    a.requires.z_len.1

index-in : (t : Else-count-e) → t.args.v.stored * t.args.vb + t.args.e * t.args.v.step ≤ 32 * 256
index-in t =
    let g = t.args in
    let s = t.requires.vector_sound in
    let r = register-in g.vb g.v.stored 32 (32 * g.vb) s.stored refl in
    omega (arith, r, whole_in g.v g.vb s g.e t.if-count-e.false, s.high)

pub returns-then-count-e : goal.returns-then-count-e
returns-then-count-e c = let a = c.args in vector-past a.v a.vb a.z.now a.p.now a.e c.if-count-e.true

pub register_of-offsets-requires : goal.register_of-offsets-requires
register_of-offsets-requires c = offsets-in (goal.at.register_of-offsets-requires c).Start

pub register_of-governing-requires : goal.register_of-governing-requires
register_of-governing-requires c = governing-in (goal.at.register_of-governing-requires c).Start

pub is_active-active-requires : goal.is_active-active-requires
is_active-active-requires c =
    let g = c.args in
    let s = c.requires.vector_sound in
    let h = c.if-count-e.false in
    let l = ap length c.register_of-governing.ensures ∙ register-long (g.vb / 8) g.v.governing g.p.now (governing-in (goal.at.is_active-active-requires c).Start) in
    record { step_in_bounds = omega (arith, l, bit_in g.v g.vb s g.e h); step_bound = below_end g.v g.vb s g.e h }

pub address-address-requires : goal.address-address-requires
address-address-requires c =
    let g = c.args in
    let s = c.requires.vector_sound in
    let l = ap length c.register_of-offsets.ensures ∙ register-long g.vb g.v.offsets g.z.now (offsets-in (goal.at.address-address-requires c).Start) in
    record { extension_in_bounds = omega (arith, l, offset-in g.v g.vb s g.e c.if-count-e.false); scale_bound = s.scale }

pub overflow_mul-element : goal.overflow_mul-element
overflow_mul-element c = omega (arith, index-in (goal.at.overflow_mul-element c).Else-count-e)

pub overflow_mul-element-2 : goal.overflow_mul-element-2
overflow_mul-element-2 c = omega (arith, index-in (goal.at.overflow_mul-element-2 c).Else-count-e)

pub overflow_add-element : goal.overflow_add-element
overflow_add-element c = omega (arith, index-in (goal.at.overflow_add-element c).Else-count-e)

pub returns : goal.returns
returns c =
    let s = c.address-address in
    let r = c.is_active-active in
    let g = c.register_of-governing in
    let o = c.register_of-offsets in
    let a = c.args in
    vector-found a.v a.vb a.z.now a.p.now a.e o.result.now g.result.now r.result s.result c.if-count-e.false
    o.ensures g.ensures r.ensures s.ensures
