-- `list_both`: the loop over the addresses, eight of them at once where nothing differs. Invariant: as in `list_sides`, and the index is
-- within the parts. Assumes nothing.
use mathlib.Core.Path.{◌≡◌, sym, ◌∙◌}
use Prim.Native.Nat.{ℕ, ◌+◌, ◌≤◌}
use native.Mathlib.Omega.{arith}
use lib.ListN.{length}
use Rattle.comparing.proofs.Zipping.{filling-first, filling-eight, filling-byte-room, filling-byte, filling-last}
use Rattle.comparing.proofs.Zipping.{filling-index, from, same-eight}
use Rattle.comparing.proofs.parts.list_both.Goals as goal
use Rattle.comparing.proofs.parts.list_both.Goals.{Then-same_eight}

passed : (c : Then-same_eight)
    → (c.loop-i.i + 8 ≤ length c.args.p.now)
    × ((b : ℕ) → from b c.args.p.now c.args.q.now c.loop-i.i ≡ from b c.args.p.now c.args.q.now (c.loop-i.i + 8))
passed c =
    let v = c.loop-i.invariant in
    same-eight _ _ _ v.1.parts.first v.1.parts.second v.0 c.requires.1 (sym c.same_eight.ensures ∙ c.if-same_eight.true)

-- ---- the needs
pub loop-i-init : goal.loop-i-init
loop-i-init c = (omega arith, filling-first _ _ _ _ _ _ c.requires.0)

pub same_eight-requires : goal.same_eight-requires
same_eight-requires c =
    (c.loop-i.invariant.0, c.requires.1)

pub overflow_add-i : goal.overflow_add-i
overflow_add-i c = omega (arith, (passed (goal.at.overflow_add-i c).Then-same_eight).0)

pub loop-i-smaller-then-same_eight : goal.loop-i-smaller-then-same_eight
loop-i-smaller-then-same_eight c = omega (arith, (passed (goal.at.loop-i-smaller-then-same_eight c).Then-same_eight).0)

pub loop-i-preserved-then-same_eight : goal.loop-i-preserved-then-same_eight
loop-i-preserved-then-same_eight c = ((passed (goal.at.loop-i-preserved-then-same_eight c).Then-same_eight).0, filling-eight _ _ _ _ _ _ _ _ _ c.loop-i.invariant.1 (passed (goal.at.loop-i-preserved-then-same_eight c).Then-same_eight).1)

pub list_byte-k-requires : goal.list_byte-k-requires
list_byte-k-requires c =
    let f = c.loop-i.invariant.1 in
    (filling-byte-room _ _ _ _ _ _ _ _ _ f, omega (arith, c.loop-i-test.true, f.top))

pub overflow_add-i-in-loop-i : goal.overflow_add-i-in-loop-i
overflow_add-i-in-loop-i c =
    omega (arith, c.loop-i-test.true)

pub loop-i-smaller : goal.loop-i-smaller
loop-i-smaller c =
    omega (arith, c.loop-i-test.true)

pub loop-i-preserved : goal.loop-i-preserved
loop-i-preserved c = (
  omega (arith, c.loop-i-test.true),
  filling-byte _ _ _ _ _ _ _ _ _ c.loop-i.invariant.1 _ _ c.list_byte-k.ensures.0 c.list_byte-k.ensures.1,
)

pub shape_of-list : goal.shape_of-list
shape_of-list c = c.loop-i.invariant.1.long

pub returns : goal.returns
returns c =
    let f = c.loop-i.invariant.1 in (
      filling-last _ _ _ _ _ _ _ _ _ f c.loop-i-test.false,
      filling-index _ _ _ _ _ _ _ _ _ f c.loop-i-test.false,
    )
