-- `strided`: each field stands at its place, and the multiple is imm4's. Assumes nothing.
use Rattle.std.proofs.Common.{ℕ, ◌+◌, ◌*◌, ◌/◌, ◌%◌, ◌<◌, ap, ◌∙◌, arith}
use native.Mathlib.Nat.{mod-lt}
use mir.Syntax.{w8}
use mir.Val.{SFits}
use Rattle.encoding.specs.Decoding.{multiple_of}
use Rattle.encoding.specs.declared.Store.TheVariants.{Strided}
use Rattle.encoding.proofs.Reading.{bounded, strided-is}
use Rattle.encoding.proofs.Signed.{multiple-fits, narrow-fits, narrow-is}
use Rattle.encoding.proofs.strided.Goals as goal
use Rattle.encoding.proofs.strided.Goals.{After-values}

-- imm4 and the number of registers are small
imm4-small : (c : After-values) → c.args.word / 65536 % c.values.result < 16
imm4-small c =
    let l = (bounded c.args.row c.requires.0).imm4 in
    let some : 0 < c.values.result = omega (arith, c.values.ensures, l.1) in
    omega (arith, mod-lt (c.args.word / 65536) some, c.values.ensures, l.2)

imm4-fits : (c : After-values) → SFits w8 (multiple_of c.args.row.layout.nreg (c.args.word / 65536 % c.values.result))
imm4-fits c = multiple-fits _ _ (bounded c.args.row c.requires.0).nreg (imm4-small c)

pub multiple-multiple-requires : goal.multiple-multiple-requires
multiple-multiple-requires c = (imm4-small (goal.at.multiple-multiple-requires c).After-values, (bounded c.args.row c.requires.0).nreg)

pub overflow_cast-result-2 : goal.overflow_cast-result-2
overflow_cast-result-2 c =
    let m = c.multiple-multiple in
    narrow-fits m.result _ (record { sfits = m.type_inv }) m.ensures (imm4-fits (goal.at.overflow_cast-result-2 c).After-values)

pub returns : goal.returns
returns c =
    let m = c.multiple-multiple in
    let w = c.args.word in
    let l = c.args.row.layout in
    let e = narrow-is m.result _ (record { sfits = m.type_inv }) m.ensures (imm4-fits (goal.at.returns c).After-values) in
    (λ i.
    Strided
    (record {
      class = c.args.row.number;
      rm = w / 65536 % c.values-2.ensures i;
      multiple = e i;
      pc = w / 1024 % 8;
      rn = w / 32 % 32;
      first = w / 16 % 2 * 16 + w % c.values-3.ensures i;
    }))
    ∙ strided-is c.args.row w c.requires.0 c.requires.1 _ (ap (λ (n : ℕ). multiple_of l.nreg (w / 65536 % n)) c.values.ensures)
