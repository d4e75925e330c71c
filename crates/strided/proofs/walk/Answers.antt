-- `walk`: the loop's invariant is that every active element passed lies in the window, whatever data it has. Assumes nothing.
use mathlib.Core.Path.{◌≡◌, refl, sym, ◌∙◌}
use mathlib.Core.List.{List}
use Prim.Native.Nat.{ℕ, ◌*◌, ◌≤◌}
use native.Mathlib.Omega.{arith}
use lib.ListN.{length}
use Rattle.window.specs.Window.{in_window}
use Rattle.elements.specs.Accesses.{strided_address, strided_element}
use Rattle.accesses.proofs.Sizes.{reach-small, bytes-long}
use Rattle.checks.proofs.Ranging.{ranged-first, ranged-in, ranged-out, ranged-done}
use Rattle.checks.proofs.Spans.{window}
use Rattle.strided.proofs.walk.Goals as goal
use Rattle.strided.proofs.walk.Goals.{After-inside}

pub loop-k-init : goal.loop-k-init
loop-k-init c = λ z q. ranged-first c.args.s c.args.vb c.requires z c.args.base c.args.room

pub overflow_mul-at : goal.overflow_mul-at
overflow_mul-at c =
    let l : c.loop-k.k ≤ c.args.s.nreg * c.args.s.per = omega (arith, c.loop-k-test.true, c.requires.most) in
    omega (arith, reach-small c.args.s c.args.vb c.requires c.loop-k.k l)

tested : (k : After-inside) → (z : List ℕ) → length z ≡ 32 * k.args.vb
    → let x = strided_element k.args.s k.args.vb z k.loop-k.k in
    in_window k.args.base k.args.room x.address (length x.bytes) ≡ k.inside.result
unfolding strided_element strided_address
tested k z q =
    window k.args.base k.args.room k.address-address.ensures
    (bytes-long k.args.s k.args.vb k.requires z q k.loop-k.k k.loop-k-test.true)
    ∙ sym k.inside.ensures

pub nonzero_div-result : goal.nonzero_div-result
nonzero_div-result c = omega (arith, c.requires.some)

pub returns-then-not-inside : goal.returns-then-not-inside
unfolding strided_element strided_address
returns-then-not-inside c =
    let l = c.loop-k in
    λ z q. (
      strided_element c.args.s c.args.vb z l.k,
      sym (ranged-out c.args.s c.args.vb c.requires z c.args.base c.args.room l.k c.loop-k-test.true (l.invariant z q)
          c.inside.result (tested (goal.at.returns-then-not-inside c).After-inside z q) c.if-not-inside.true),
      refl,
      c.address-address.ensures,
    )

pub loop-k-preserved : goal.loop-k-preserved
loop-k-preserved c =
    let l = c.loop-k in
    λ z q.
    ranged-in c.args.s c.args.vb c.requires z c.args.base c.args.room l.k c.loop-k-test.true (l.invariant z q)
    c.inside.result (tested (goal.at.loop-k-preserved c).After-inside z q) c.if-not-inside.false

pub returns : goal.returns
returns c =
    let l = c.loop-k in
    λ z q. sym (ranged-done c.args.s c.args.vb c.requires z c.args.base c.args.room l.k c.loop-k-test.false (l.invariant z q))
