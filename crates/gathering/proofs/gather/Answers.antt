-- `gather`: every element's key is put; those of active elements stay. Assumes nothing.
use Rattle.std.proofs.Common.{◌≡◌, ℕ, not, List, length, sym, refl, ◌∙◌, ap₂, arith, rules}
use Rattle.window.specs.Window.{in_window}
use Rattle.window.proofs.Windows.{window-inv, past-limit}
use Rattle.elements.specs.Accesses.{vector_active, vector_address, vector_element, vector_elements}
use Rattle.checks.proofs.Spans.{bytes-long}
use Rattle.gathering.specs.Gathering.{GatheredAs}
use Rattle.gathering.proofs.Gathering.{counted_next, gathering-next, gathering-out, gathering-done, back, key-is}
use Rattle.gathering.proofs.gather.Goals as goal
use Rattle.gathering.proofs.gather.Goals.{After-is_past-past}

-- the code's test is whether the element's bytes lie outside the window
past : (c : After-is_past-past) (stored : List ℕ) → length stored ≡ length c.args.offsets.now
    → c.is_past-past.result
    ≡ not (in_window c.args.base c.args.room
    (vector_element c.args.v c.args.offsets.now stored c.loop-e.e).address
    (length (vector_element c.args.v c.args.offsets.now stored c.loop-e.e).bytes))
unfolding vector_element
past c stored q =
    let a = c.args in
    let p = c.requires in
    c.is_past-past.ensures
    ∙ past-limit a.base a.room a.v.size c.address-address.result _ p.3 p.0.some c.limit_of-limit.ensures (omega arith)
    ∙ ap₂ (λ (x n : ℕ). not (in_window a.base a.room x n)) c.address-address.ensures
    (sym (bytes-long a.v (length a.offsets.now) p.0 c.loop-e.e c.loop-e-test.true a.offsets.now stored q))

pub limit_of-limit-requires : goal.limit_of-limit-requires
limit_of-limit-requires c = omega (arith, window-inv _ _ c.requires.3)

pub returns-then-on-past : goal.returns-then-on-past
unfolding GatheredAs vector_elements vector_element
returns-then-on-past c =
    let l = c.loop-e in
    let a = c.args in
    λ stored q.
    gathering-out (vector_active a.v a.governing.now) (vector_element a.v a.offsets.now stored) a.v.count a.base a.room a.v.size
    l.keys l.n l.e c.loop-e-test.true (l.invariant.1 stored q) _ c.is_active-on.ensures _
    (past (goal.at.returns-then-on-past c).After-is_past-past stored q) c.if-on-past.true _ _ refl c.address-address.ensures

pub loop-e-preserved : goal.loop-e-preserved
unfolding vector_element
loop-e-preserved c =
    let l = c.loop-e in
    let a = c.args in
    let p = c.requires in (
      counted_next _ _ _ _ _ _ _ c.is_active-on.result c.loop-e-test.true l.invariant.0 c.from-n.ensures,
      λ stored q.
          let long = bytes-long a.v (length a.offsets.now) p.0 l.e c.loop-e-test.true a.offsets.now stored q in
          gathering-next (vector_active a.v a.governing.now) (vector_element a.v a.offsets.now stored) a.v.count a.base a.room a.v.size
          l.keys l.n l.e c.loop-e-test.true (l.invariant.1 stored q) _ c.is_active-on.ensures _
          (past (goal.at.loop-e-preserved c).After-is_past-past stored q) c.if-on-past.false _ _
          (omega (arith, l.invariant.0.few, l.invariant.0.long, p.2))
          (λ i.
          key-is a.base a.room a.v.size (vector_address a.v a.offsets.now l.e)
          (length (vector_element a.v a.offsets.now stored l.e).bytes)
          _ l.e _ p.3 (omega (arith, long, p.0.some)) i
          (back _ _ (search rules) (search rules) ∙ c.address-address.ensures) (search rules) c.key.ensures)
          c.from-n.ensures,
    )

pub returns : goal.returns
unfolding GatheredAs vector_elements
returns c =
    let a = c.args in
    let l = c.loop-e in
    λ stored q.
    let d = gathering-done (vector_active a.v a.governing.now) (vector_element a.v a.offsets.now stored) a.v.count a.base a.room a.v.size
    l.keys l.n l.e (omega arith) (l.invariant.1 stored q) in
    (d.0, omega (arith, l.invariant.0.few, l.invariant.0.most, l.invariant.0.long, c.requires.2), d.1)
