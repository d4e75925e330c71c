-- `fill`: the loop over the stretches of both sides. Invariant: the entries of what is left, put into the list as it is, make the whole.
-- Assumes nothing.
use Prim.Native.Nat.{◌≤◌}
use native.Mathlib.Omega.{arith}
use Rattle.comparing.specs.Merging.{Fit}
use Rattle.comparing.proofs.Turning.{listed-first, listed-last, listed-room, listed_next, most-one, most-two, fewer}
use Rattle.comparing.proofs.fill.Goals as goal
use Rattle.comparing.proofs.fill.Goals.{After-next_stretch-k}

one : (k : After-next_stretch-k) → Fit k.args.first.now k.loop-f.f × (k.next_stretch-k.result.one ≤ k.loop-f.f.left)
one k =
    let h = k.loop-f.invariant.counted in
    (h.fit-one, most-one _ _ _ _ _ k.next_stretch-k.ensures h.fit-one h.fit-two)

other : (k : After-next_stretch-k) → Fit k.args.second.now k.loop-f.g × (k.next_stretch-k.result.two ≤ k.loop-f.g.left)
other k =
    let h = k.loop-f.invariant.counted in
    (h.fit-two, most-two _ _ _ _ _ k.next_stretch-k.ensures h.fit-one h.fit-two)

-- ---- the needs
pub first_front-f-requires : goal.first_front-f-requires
first_front-f-requires c = let p = c.requires.0 in (p.one, p.first)

pub first_front-g-requires : goal.first_front-g-requires
first_front-g-requires c = let p = c.requires.0 in (p.two, p.second)

pub loop-f-init : goal.loop-f-init
loop-f-init c =
    listed-first _ _ _ _ _ c.requires.0 c.requires.1 c.first_front-f.ensures c.first_front-g.ensures

pub shape_of-list-then-k-eq0 : goal.shape_of-list-then-k-eq0
shape_of-list-then-k-eq0 c = c.loop-f.invariant.long

pub returns-then-k-eq0 : goal.returns-then-k-eq0
returns-then-k-eq0 c =
    let e = listed-last _ _ _ _ _ _ _ _ c.next_stretch-k.ensures c.loop-f.invariant c.if-k-eq0.true in
    record { value = e.0; list_after = e.1 }

pub payload_of-p-requires : goal.payload_of-p-requires
payload_of-p-requires c = omega (arith, (one (goal.at.payload_of-p-requires c).After-next_stretch-k).1, (one (goal.at.payload_of-p-requires c).After-next_stretch-k).0.stands)

pub payload_of-q-requires : goal.payload_of-q-requires
payload_of-q-requires c = omega (arith, (other (goal.at.payload_of-q-requires c).After-next_stretch-k).1, (other (goal.at.payload_of-q-requires c).After-next_stretch-k).0.stands)

pub skip-f-requires : goal.skip-f-requires
skip-f-requires c = one (goal.at.skip-f-requires c).After-next_stretch-k

pub skip-g-requires : goal.skip-g-requires
skip-g-requires c = other (goal.at.skip-g-requires c).After-next_stretch-k

pub list_part-at-requires : goal.list_part-at-requires
list_part-at-requires c =
    listed-room _ _ _ _ _ _ _ _ c.next_stretch-k.ensures c.loop-f.invariant _ _ c.payload_of-p.ensures.bytes
    c.payload_of-q.ensures.bytes _ _ c.skip-f.ensures c.skip-g.ensures

pub loop-f-smaller : goal.loop-f-smaller
loop-f-smaller c =
    fewer _ _ _ _ _ c.next_stretch-k.ensures c.loop-f.invariant.counted.fit-one c.loop-f.invariant.counted.fit-two _ _
    c.skip-f.ensures c.skip-g.ensures c.if-k-eq0.false

pub loop-f-preserved : goal.loop-f-preserved
loop-f-preserved c =
    listed_next _ _ _ _ _ _ _ _ c.next_stretch-k.ensures c.loop-f.invariant _ _ c.payload_of-p.ensures.bytes
    c.payload_of-q.ensures.bytes _ _ c.skip-f.ensures c.skip-g.ensures _ _ c.list_part-at.ensures.0
    c.list_part-at.ensures.1
