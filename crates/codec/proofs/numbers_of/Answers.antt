-- `numbers_of`: by its case. Assumes nothing.
use Rattle.std.proofs.Common.{ℕ, [], ◌∷◌, sym, ap, ◌∙◌, arith, w8, w64, SFits, of_z}
use Rattle.encoding.specs.Answers.{store_numbers}
use Rattle.encoding.proofs.Signed.{wide_fits, wide_is}
use Rattle.codec.proofs.numbers_of.Goals as goal
use Rattle.codec.proofs.numbers_of.Goals.{In-Strided}

-- a strided store's multiple has 8 bits
byte : (c : In-Strided) → SFits w8 c.in-Strided.f.multiple
byte c = record { sfits = omega arith }

pub overflow_cast-f : goal.overflow_cast-f
overflow_cast-f c = wide_fits _ (byte (goal.at.overflow_cast-f c).In-Strided)

pub returns-in-Scatter : goal.returns-in-Scatter
returns-in-Scatter c =
    let f = c.in-Scatter.f in
    c.scatter_numbers.ensures
    ∙ ap (λ (n : ℕ). f.class ∷ f.zm ∷ n ∷ f.pg ∷ f.rn ∷ f.zt ∷ 0 ∷ 0 ∷ []) c.number_of.ensures
    ∙ ap store_numbers (sym c.in-Scatter.is)

pub returns-in-Strided : goal.returns-in-Strided
returns-in-Strided c =
    let f = c.in-Strided.f in
    c.strided_numbers.ensures
    ∙ ap (λ (n : ℕ). f.class ∷ f.rm ∷ 0 ∷ f.pc ∷ f.rn ∷ f.first ∷ n ∷ 0 ∷ [])
    (c.cast_unsigned.ensures ∙ ap (of_z w64) (wide_is f.multiple (byte (goal.at.returns-in-Strided c).In-Strided)))
    ∙ ap store_numbers (sym c.in-Strided.is)

pub returns-in-Quadword : goal.returns-in-Quadword
returns-in-Quadword c = c.quadword_numbers.ensures ∙ ap store_numbers (sym c.in-Quadword.is)
