-- `inspect_strided`: the element is held to the count, and then lies in its register. No loop. Assumes nothing.
use mathlib.Core.Path.{refl}
use Prim.Native.Nat.{ℕ, suc, ◌+◌, ◌*◌, ◌/◌, ◌%◌, ◌≤◌, ◌<◌}
use native.Mathlib.Nat.{suc-mul, mul_assoc, mul-pos, mul-le-mul, mul-le-mul_left, mul-le-mul_right, mod-lt, div-mul-le_self, div-le_self}
use native.Mathlib.Omega.{arith}
use Rattle.elements.specs.Accesses.{StridedSound}
use Rattle.elements.specs.declared.StridedAccess.{StridedAccess}
use Rattle.accesses.proofs.Sizes.{gap-some}
use Rattle.checks.proofs.Spans.{register-below, register-fits}
use Rattle.inspection.proofs.Inspecting.{strided-past, strided-found}
use Rattle.inspection.proofs.inspect_strided.Goals as goal
use Rattle.inspection.proofs.inspect_strided.Goals.{Else-count-e}

-- registers have bytes
bytes-some : (s : StridedAccess) (vb : ℕ) → StridedSound s vb → 0 < vb
bytes-some s vb h = omega (arith, h.whole, mul-pos h.per (gap-some s vb h))

pub nonzero_div-count : goal.nonzero_div-count
nonzero_div-count c = omega (arith, c.requires.some)

pub overflow_mul-count : goal.overflow_mul-count
overflow_mul-count c =
    let k : c.args.vb / c.args.s.size ≤ 256 = omega (arith, div-le_self c.args.vb c.args.s.size, c.requires.high) in
    omega (arith, mul-le-mul c.requires.nreg k)

pub returns-then-count-e : goal.returns-then-count-e
returns-then-count-e c = let a = c.args in strided-past a.s a.vb a.e c.if-count-e.true

abbrev s : (t : Else-count-e) → StridedAccess
s t = t.args.s

abbrev at : (t : Else-count-e) → ℕ
at t = t.args.e * (s t).size

inside : (t : Else-count-e) → (at t) < (s t).nreg * t.args.vb
inside t =
    let n = t.args.vb / (s t).size in
    let l : suc t.args.e ≤ (s t).nreg * n = omega (arith, t.if-count-e.false) in
    omega (
      arith,
      suc-mul t.args.e (s t).size,
      mul-le-mul_right (s t).size l,
      mul_assoc (s t).nreg n (s t).size,
      mul-le-mul_left (s t).nreg (div-mul-le_self t.args.vb (s t).size),
      t.requires.some,
    )

small : (t : Else-count-e) → (at t) < 1024
small t = omega (arith, (inside t), mul-le-mul t.requires.nreg t.requires.high)

abbrev register : (t : Else-count-e) → ℕ
register t = (s t).first + (at t) / t.args.vb * (s t).stride

its-register : (t : Else-count-e) → (register t) < 32
its-register t = register-below t.args.s t.args.vb t.requires (at t) (inside t)

its-byte : (t : Else-count-e) → (register t) * t.args.vb + (at t) % t.args.vb ≤ 32 * 256
its-byte t =
    let r = register-fits t.args.s t.args.vb t.requires (at t) (inside t) (32 * t.args.vb) refl in
    omega (arith, r, mod-lt (at t) (bytes-some t.args.s t.args.vb t.requires), t.requires.high)

pub overflow_mul-at : goal.overflow_mul-at
overflow_mul-at c = omega (arith, small (goal.at.overflow_mul-at c).Else-count-e)

pub nonzero_div-register : goal.nonzero_div-register
nonzero_div-register c = omega (arith, bytes-some c.args.s c.args.vb c.requires)

pub overflow_mul-register : goal.overflow_mul-register
overflow_mul-register c = omega (arith, its-register (goal.at.overflow_mul-register c).Else-count-e)

pub overflow_add-register : goal.overflow_add-register
overflow_add-register c = omega (arith, its-register (goal.at.overflow_add-register c).Else-count-e)

pub is_active-active-requires : goal.is_active-active-requires
is_active-active-requires c = gap-some c.args.s c.args.vb c.requires

pub overflow_mul-element : goal.overflow_mul-element
overflow_mul-element c = omega (arith, its-byte (goal.at.overflow_mul-element c).Else-count-e)

pub nonzero_rem-element : goal.nonzero_rem-element
nonzero_rem-element c = omega (arith, bytes-some c.args.s c.args.vb c.requires)

pub overflow_add-element : goal.overflow_add-element
overflow_add-element c = omega (arith, its-byte (goal.at.overflow_add-element c).Else-count-e)

pub returns : goal.returns
returns c =
    let a = c.args in
    let r = c.is_active-active in
    let q = c.address-address in
    strided-found a.s a.vb a.e r.result q.result c.if-count-e.false r.ensures q.ensures
