-- `differing`: the loop over the addresses. Invariant: those so far, and those to come. Assumes nothing.
use mathlib.Core.Path.{sym, ◌∙◌}
use native.Mathlib.Omega.{arith}
use Rattle.comparing.proofs.Zipping.{counting-first, counting-same, counting-other, counting-last}
use Rattle.comparing.proofs.parts.differing.Goals as goal
use Rattle.comparing.proofs.parts.differing.Goals.{then-side, else-side}

pub loop-i-init : goal.loop-i-init
loop-i-init c = counting-first _ _ _ c.requires

pub loop-i-preserved : goal.loop-i-preserved
loop-i-preserved c =
    let k = c.loop-i.invariant in
    elim c.if-side.branch [
      | then-side w ↦ rw w.n-is (counting-other _ _ _ _ _ k (λ e. w.if-side.true (c.side.ensures ∙ e ∙ sym c.side-in-loop-i.ensures)))
      | else-side w ↦ rw w.n-is (counting-same _ _ _ _ _ k (sym c.side.ensures ∙ w.if-side.false ∙ c.side-in-loop-i.ensures))
    ]

pub returns : goal.returns
returns c = counting-last _ _ _ _ _ c.loop-i.invariant (omega arith)
