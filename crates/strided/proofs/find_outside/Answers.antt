-- `find_outside`: nothing is active, or all lies in the window, or the walk finds it. Assumes nothing.
use mathlib.Core.Path.{◌≡◌, sym, ap, ◌∙◌}
use Prim.Native.Nat.{ℕ, suc, ◌+◌, ◌-◌, ◌*◌, ◌%◌, ◌^◌, ◌≤◌}
use native.Mathlib.Nat.{suc-mul}
use native.Mathlib.Omega.{arith}
use Rattle.window.proofs.Windows.{window-inv, in-window-inv}
use Rattle.elements.specs.Accesses.{strided_address}
use Rattle.accesses.proofs.Sizes.{reach-small}
use Rattle.accesses.proofs.Spacing.{strided-none}
use Rattle.verdicts.specs.Verdicts.{first_outside}
use Rattle.checks.proofs.Ranging.{all-reached}
use Rattle.strided.proofs.find_outside.Goals as goal
use Rattle.strided.proofs.find_outside.Goals.{Else-s}

pub returns-then-s : goal.returns-then-s
unfolding first_outside
returns-then-s c =
    λ z q. ap (first_outside c.args.base c.args.room)
    (strided-none c.args.s c.args.vb c.requires.0 z (omega (arith, c.if-s.true)))

-- from the first one's first byte to the last one's last, and the first one's distance from the store's first address
spans : (c : Else-s) → (c.args.s.high - 1 - c.args.s.low) * c.args.s.gap + c.args.s.size ≤ 1024
spans c =
    let s = c.args.s in
    let d = s.high - 1 - s.low in
    let l : suc d ≤ s.nreg * s.per = omega (arith, c.if-s.false, c.requires.0.most) in
    omega (arith, reach-small s c.args.vb c.requires.0 (suc d) l, suc-mul d s.gap, c.requires.0.size)

leads : (c : Else-s) → c.args.s.low * c.args.s.gap ≤ 1024
leads c =
    let s = c.args.s in
    let l : s.low ≤ s.nreg * s.per = omega (arith, c.if-s.false, c.requires.0.most) in
    reach-small s c.args.vb c.requires.0 s.low l

pub lead-requires : goal.lead-requires
lead-requires c = leads (goal.at.lead-requires c).Else-s

pub span-requires : goal.span-requires
span-requires c = (omega (arith, c.if-s.false), spans (goal.at.span-requires c).Else-s)

pub returns-then-inside : goal.returns-then-inside
unfolding strided_address
returns-then-inside c =
    let w = window-inv c.args.base c.args.room c.requires.1 in
    let f = in-window-inv c.args.base c.args.room c.address-address.result c.span.result
    (sym c.inside.ensures ∙ c.if-inside.true) in
    let r : c.address-address.result ≡ strided_address c.args.s c.args.s.low =
    c.address-address.ensures ∙ ap (λ (i : ℕ). (c.args.s.start + i) % 2 ^ 64) c.lead.ensures in
    λ z q.
    sym
    (all-reached c.args.s c.args.vb c.requires.0 z c.args.base c.args.room q (omega (arith, c.if-s.false)) w.1
    (omega (arith, f.0, r)) (omega (arith, f.1, r, c.span.ensures)))

pub returns : goal.returns
returns c = c.walk.ensures
