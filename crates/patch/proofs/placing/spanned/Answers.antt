-- `spanned`: the first run and the last address in the window, or no run. Assumes nothing.
use mathlib.Core.Bool.{false}
use mathlib.Core.Path.{refl, sym, ◌∙◌}
use native.Mathlib.Omega.{arith}
use Rattle.endian.proofs.Order.{not-both}
use Rattle.patch.proofs.Windowed.{left-first, head-fits, spanned-none, spanned-all}
use Rattle.patch.proofs.placing.spanned.Goals as goal

pub returns-then-runs-eq0 : goal.returns-then-runs-eq0
returns-then-runs-eq0 c = λ _. spanned-none _ _ _ _ _ c.requires c.if-runs-eq0.true

pub le64-requires : goal.le64-requires
le64-requires c = omega (arith, head-fits _ _ _ _ _ (left-first _ _ c.requires.runs) (omega (arith, c.if-runs-eq0.false)))

pub returns-then-le64-base : goal.returns-then-le64-base
returns-then-le64-base c = λ e. not-both false e refl

pub returns : goal.returns
returns c =
    λ e.
    spanned-all _ _ _ _ _ _ c.requires c.if-runs-eq0.false c.le64.ensures (omega (arith, c.if-le64-base.false)) _
    (omega arith) (sym c.inside.ensures ∙ e)
