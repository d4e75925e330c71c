-- `next_stretch`: by what is left and by the order of the two addresses. Assumes nothing.
use Rattle.comparing.proofs.Turning.{cut-first, cut-second, cut_below, cut-above, cut-both}
use Rattle.comparing.proofs.fronts.next_stretch.Goals as goal

pub returns-then-m-eq0 : goal.returns-then-m-eq0
returns-then-m-eq0 c = cut-first _ _ c.if-m-eq0.true

pub returns-then-n-eq0 : goal.returns-then-n-eq0
returns-then-n-eq0 c = cut-second _ _ c.if-m-eq0.false c.if-n-eq0.true

pub returns-then-a-b : goal.returns-then-a-b
returns-then-a-b c = cut_below _ _ _ c.if-n-eq0.false c.if-a-b.true c.least-k.ensures

pub returns-then-b-a : goal.returns-then-b-a
returns-then-b-a c = cut-above _ _ _ c.if-m-eq0.false c.if-b-a.true c.least-k-then-b-a.ensures

pub returns : goal.returns
returns c =
    cut-both _ _ _ c.if-n-eq0.false c.if-m-eq0.false c.if-a-b.false
    c.if-b-a.false c.least-k-2.ensures
