-- `count`: the loop over the stretches of both sides. Invariant: the entries so far, and those of what is left. Assumes nothing.
use Prim.Native.Nat.{◌+◌, ◌≤◌}
use native.Mathlib.Omega.{arith}
use Rattle.writes.proofs.Sizes.{bytes_fit}
use Rattle.comparing.specs.Merging.{Fit}
use Rattle.comparing.proofs.Turning.{Counted, counted-first, counted-last, counted-parts, counted_next, most-one, most-two, fewer}
use Rattle.comparing.proofs.count.Goals as goal
use Rattle.comparing.proofs.count.Goals.{After-next_stretch-k, After-skip-g}

one : (k : After-next_stretch-k) → Fit k.args.first.now k.loop-f.f × (k.next_stretch-k.result.one ≤ k.loop-f.f.left)
one k =
    let h = k.loop-f.invariant in
    (h.fit-one, most-one _ _ _ _ _ k.next_stretch-k.ensures h.fit-one h.fit-two)

other : (k : After-next_stretch-k) → Fit k.args.second.now k.loop-f.g × (k.next_stretch-k.result.two ≤ k.loop-f.g.left)
other k =
    let h = k.loop-f.invariant in
    (h.fit-two, most-two _ _ _ _ _ k.next_stretch-k.ensures h.fit-one h.fit-two)

next : (c : After-skip-g)
    → Counted c.args.first.now c.args.second.now c.skip-f.result c.skip-g.result
    (c.loop-f.n + c.differing-d.result)
next c =
    counted_next _ _ _ _ _ _ c.next_stretch-k.ensures c.loop-f.invariant _ _ c.payload_of-p.ensures.bytes
    c.payload_of-q.ensures.bytes _ _ c.skip-f.ensures c.skip-g.ensures _
    (c.differing-d.ensures c.next_stretch-k.result.address)

-- ---- the needs
pub first_front-f-requires : goal.first_front-f-requires
first_front-f-requires c = let p = c.requires in (p.one, p.first)

pub first_front-g-requires : goal.first_front-g-requires
first_front-g-requires c = let p = c.requires in (p.two, p.second)

pub loop-f-init : goal.loop-f-init
loop-f-init c = counted-first _ _ _ _ c.requires c.first_front-f.ensures c.first_front-g.ensures

pub returns-then-k-eq0 : goal.returns-then-k-eq0
returns-then-k-eq0 c =
    counted-last _ _ _ _ _ _ c.next_stretch-k.ensures c.loop-f.invariant c.if-k-eq0.true

pub payload_of-p-requires : goal.payload_of-p-requires
payload_of-p-requires c = omega (arith, (one (goal.at.payload_of-p-requires c).After-next_stretch-k).1, (one (goal.at.payload_of-p-requires c).After-next_stretch-k).0.stands)

pub payload_of-q-requires : goal.payload_of-q-requires
payload_of-q-requires c = omega (arith, (other (goal.at.payload_of-q-requires c).After-next_stretch-k).1, (other (goal.at.payload_of-q-requires c).After-next_stretch-k).0.stands)

pub differing-d-requires : goal.differing-d-requires
differing-d-requires c =
    counted-parts _ _ _ _ _ _ c.next_stretch-k.ensures c.loop-f.invariant _ _ c.payload_of-p.ensures.bytes
    c.payload_of-q.ensures.bytes

pub skip-f-requires : goal.skip-f-requires
skip-f-requires c = one (goal.at.skip-f-requires c).After-next_stretch-k

pub skip-g-requires : goal.skip-g-requires
skip-g-requires c = other (goal.at.skip-g-requires c).After-next_stretch-k

pub overflow_add-n : goal.overflow_add-n
overflow_add-n c = omega (arith, (next (goal.at.overflow_add-n c).After-skip-g).same, (next (goal.at.overflow_add-n c).After-skip-g).small, bytes_fit)

pub loop-f-smaller : goal.loop-f-smaller
loop-f-smaller c =
    fewer _ _ _ _ _ c.next_stretch-k.ensures c.loop-f.invariant.fit-one c.loop-f.invariant.fit-two _ _
    c.skip-f.ensures
    c.skip-g.ensures c.if-k-eq0.false

pub loop-f-preserved : goal.loop-f-preserved
loop-f-preserved c = next (goal.at.loop-f-preserved c).After-skip-g
