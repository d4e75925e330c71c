-- `length_ok`: the five, and then the others of the early edition. Assumes nothing.
use mathlib.Core.Path.{◌≡◌, refl, sym, ◌∙◌}
use mathlib.Core.Bool.{Bool, true, false, not, ◌&&◌}
use Prim.Native.Nat.{ℕ, ◌%◌}
use lib.Dec.{eqb, leb}
use Rattle.verdicts.specs.Verdicts.{one_of_five, length_ok}
use Rattle.verdicts.proofs.Words.{five-allowed}
use Rattle.conditions.proofs.length_ok.Goals as goal

-- a length that isn't one of the five
other : (early streaming : Bool) (vb : ℕ) → one_of_five vb ≡ false
    → early && not streaming && eqb (vb % 16) 0 && leb 16 vb && leb vb 256 ≡ length_ok early streaming vb
unfolding length_ok
other true true vb e = sym e
other true false vb e = refl
other false streaming vb e = sym e

pub returns-then-one_of_five : goal.returns-then-one_of_five
returns-then-one_of_five c =
    let g = c.args in
    sym (five-allowed g.early g.streaming g.vb (sym c.one_of_five.ensures ∙ c.if-one_of_five.true))

pub returns : goal.returns
returns c =
    let g = c.args in
    other g.early g.streaming g.vb (sym c.one_of_five.ensures ∙ c.if-one_of_five.false)
