-- `same_eight`: as many bytes, and their numbers. Assumes nothing.
use mathlib.Core.Path.{◌∙◌, ap₂}
use native.Mathlib.Omega.{arith}
use lib.Dec.{eqb}
use Rattle.comparing.proofs.Zipping.{eight-few, eight-told}
use Rattle.comparing.proofs.parts.same_eight.Goals as goal

pub returns-then-p-i-lt8 : goal.returns-then-p-i-lt8
returns-then-p-i-lt8 c = eight-few _ _ _ c.if-p-i-lt8.true

pub le64-requires : goal.le64-requires
le64-requires c = omega (arith, c.if-p-i-lt8.false, c.requires)

pub le64-requires-2 : goal.le64-requires-2
le64-requires-2 c = omega (arith, c.if-p-i-lt8.false, c.requires)

pub returns : goal.returns
returns c =
    ap₂ eqb c.le64.ensures c.le64-2.ensures ∙ eight-told _ _ _ c.if-p-i-lt8.false
