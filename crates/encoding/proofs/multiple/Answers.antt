-- `multiple`: imm4 below 8 is positive, and from 8 on negative. Assumes nothing.
use mathlib.Core.Path.{◌∙◌, sym}
use Prim.Native.Nat.{ℕ, ◌-◌, ◌*◌, ◌≤◌}
use native.Mathlib.Nat.{mul-le-mul_left}
use native.Mathlib.Omega.{arith}
use Rattle.encoding.proofs.Signed.{multiple-low, multiple-high, pos-is, neg-fits, neg_is}
use Rattle.encoding.proofs.multiple.Goals as goal
use Rattle.encoding.proofs.multiple.Goals.{Else-imm4-lt8, Then-imm4-lt8}

product : (a b : ℕ) → a ≤ 16 → b ≤ 4 → a * b ≤ 64
product a b ha hb = omega (arith, mul-le-mul_left a hb)

low : (c : Then-imm4-lt8) → c.args.imm4 * c.args.nreg ≤ 64
low c = product c.args.imm4 c.args.nreg (omega arith) (omega arith)

high : (c : Else-imm4-lt8) → (16 - c.args.imm4) * c.args.nreg ≤ 64
high c = product (16 - c.args.imm4) c.args.nreg (omega arith) (omega arith)

pub overflow_mul-result : goal.overflow_mul-result
overflow_mul-result c = omega (arith, low (goal.at.overflow_mul-result c).Then-imm4-lt8)

pub overflow_cast-result-then-imm4-lt8 : goal.overflow_cast-result-then-imm4-lt8
overflow_cast-result-then-imm4-lt8 c = omega (arith, low (goal.at.overflow_cast-result-then-imm4-lt8 c).Then-imm4-lt8)

pub overflow_mul-result-else-imm4-lt8 : goal.overflow_mul-result-else-imm4-lt8
overflow_mul-result-else-imm4-lt8 c = omega (arith, high (goal.at.overflow_mul-result-else-imm4-lt8 c).Else-imm4-lt8)

pub overflow_cast-result-else-imm4-lt8-2 : goal.overflow_cast-result-else-imm4-lt8-2
overflow_cast-result-else-imm4-lt8-2 c = omega (arith, high (goal.at.overflow_cast-result-else-imm4-lt8-2 c).Else-imm4-lt8)

pub overflow_sub-result-else-imm4-lt8 : goal.overflow_sub-result-else-imm4-lt8
overflow_sub-result-else-imm4-lt8 c = neg-fits ((16 - c.args.imm4) * c.args.nreg) (omega (arith, high (goal.at.overflow_sub-result-else-imm4-lt8 c).Else-imm4-lt8))

pub returns-then-imm4-lt8 : goal.returns-then-imm4-lt8
returns-then-imm4-lt8 c =
    let a = c.args in
    pos-is (a.imm4 * a.nreg) (omega (arith, low (goal.at.returns-then-imm4-lt8 c).Then-imm4-lt8)) ∙ sym (multiple-low a.nreg a.imm4 c.if-imm4-lt8.true)

pub returns-else-imm4-lt8 : goal.returns-else-imm4-lt8
returns-else-imm4-lt8 c =
    let a = c.args in
    neg_is ((16 - a.imm4) * a.nreg) (omega (arith, high (goal.at.returns-else-imm4-lt8 c).Else-imm4-lt8)) ∙ sym (multiple-high a.nreg a.imm4 c.if-imm4-lt8.false c.requires.0)
