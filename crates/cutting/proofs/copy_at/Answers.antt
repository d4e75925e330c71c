-- `copy_at`: by a move, by two that may overlap, or by parts. No loop. Assumes nothing.
use mathlib.Core.Path.{refl, sym, ap, ◌∙◌}
use Prim.Native.Nat.{ℕ, ◌<◌}
use native.Mathlib.Omega.{arith}
use Rattle.endian.specs.Overwriting.{overwritten}
use Rattle.cutting.specs.Cutting.{part}
use Rattle.cutting.proofs.Copying.{moved_ends, moved-one, between, copied-part}
use Rattle.cutting.proofs.copy_at.Goals as goal
use Rattle.cutting.proofs.copy_at.Goals.{Then-n}

wide : (k : Then-n) → (8 < k.args.n) × (k.args.n < 17)
wide k = between k.args.n k.if-n.true

pub returns-then-n-eq8 : goal.returns-then-n-eq8
returns-then-n-eq8 c =
    let a = c.args in
    c.move8.ensures ∙ ap (λ (z : ℕ). overwritten a.out.now a.at (part a.memory.now a.p z)) (sym c.if-n-eq8.true)

pub returns-then-n-eq1 : goal.returns-then-n-eq1
returns-then-n-eq1 c = moved-one _ _ _ _ _ (omega arith) (omega arith) (omega arith)

pub returns-then-n-lt5 : goal.returns-then-n-lt5
returns-then-n-lt5 c =
    let p = c.requires in
    moved_ends _ _ _ _ _ _ _ _ _ _ (omega arith) (omega arith) p.2 p.1 refl refl c.move2.ensures c.move2-then-n-lt5.ensures

pub move8-requires-then-n : goal.move8-requires-then-n
move8-requires-then-n c = omega (arith, wide (goal.at.move8-requires-then-n c).Then-n)

pub overflow_sub-to-then-n : goal.overflow_sub-to-then-n
overflow_sub-to-then-n c = omega (arith, wide (goal.at.overflow_sub-to-then-n c).Then-n)

pub overflow_sub-q-then-n : goal.overflow_sub-q-then-n
overflow_sub-q-then-n c = omega (arith, wide (goal.at.overflow_sub-q-then-n c).Then-n)

pub move8-requires-then-n-2 : goal.move8-requires-then-n-2
move8-requires-then-n-2 c = omega (arith, wide (goal.at.move8-requires-then-n-2 c).Then-n)

pub returns-then-n : goal.returns-then-n
returns-then-n c =
    let p = c.requires in
    let b = wide (goal.at.returns-then-n c).Then-n in
    moved_ends _ _ _ _ _ _ _ _ _ _ (omega arith) (omega arith) p.2 p.1 refl refl c.move8-then-n.ensures c.move8-then-n-2.ensures

pub returns : goal.returns
returns c =
    copied-part _ _ _ _ _ _ c.requires.2 c.copy_any.ensures
