-- `join`: each key grows the last stretch, or begins one. Assumes nothing.
use mathlib.Core.Path.{refl}
use native.Mathlib.Omega.{arith}
use Prim.Native.Nat.{ℕ}
use lib.ListN.{length-set, length-drop}
use Rattle.std.proofs.lemmas.List.{drop_more, nil_from_length}
use Rattle.stretches.proofs.Joining.{joining-first, joining-on, joining-new, joining-done, joined-none}
use Rattle.stretches.proofs.join.Goals as goal

pub returns-in_default : goal.returns-in_default
returns-in_default c =
    let e = joined-none _ c.args.stretches.now _ c.in_default.ensures.cases in
    (omega arith, e.0, e.1)

pub loop-k-init : goal.loop-k-init
loop-k-init c = joining-first _ c.in-Some.ensures.cases.0 c.requires.0 c.requires.1

pub loop-k-preserved-then-meets : goal.loop-k-preserved-then-meets
loop-k-preserved-then-meets c =
    joining-on c.loop-k.invariant (omega (arith, length-set {A = ℕ})) (drop_more c.in-Some.behind.now c.loop-k.k-index 0 (omega arith)) _
    (omega (arith, c.start_of.ensures, c.start_of-in-loop-k.ensures, c.if-meets.true)) refl

pub loop-k-preserved : goal.loop-k-preserved
loop-k-preserved c =
    joining-new c.loop-k.invariant (omega (arith, length-set {A = ℕ})) (drop_more c.in-Some.behind.now c.loop-k.k-index 0 (omega arith))
    (λ e. c.if-meets.false (omega (arith, c.start_of.ensures, c.start_of-in-loop-k.ensures)))

pub returns : goal.returns
returns c =
    joining-done c.loop-k.invariant (omega (arith, length-set {A = ℕ}))
    (nil_from_length _ (omega (arith, length-drop c.loop-k.k-index c.in-Some.behind.now)))
