-- `check_store`: verdicts 4 to 6 in their order, or the store's access. Assumes nothing.
use mathlib.Core.Path.{sym, ap, ◌∙◌, subst}
use mathlib.Core.List.{List, []}
use Prim.Native.Nat.{ℕ}
use Rattle.elements.specs.Machine.{Machine, lent_with}
use Rattle.checks.specs.Checking.{AccessSound, elements_in}
use Rattle.checks.specs.declared.Access.{Access}
use Rattle.checks.proofs.Checking.{access-to, access-sound, legal-streams, for-off, for-illegal, for-stack, for-access}
use Rattle.checks.proofs.stores.check_store.Goals as goal
use Rattle.checks.proofs.stores.check_store.Goals.{Start}

-- the machine lent, with any Z buffer
abbrev m : Start → List ℕ → Machine
m a z = lent_with a.args.machine z

pub returns-then-is_off : goal.returns-then-is_off
returns-then-is_off c =
    let o = c.is_off in
    λ z s b.
    for-off c.args.flags (m (goal.at.returns-then-is_off c).Start z) c.args.store _ c.feature_for-feature.ensures o.result o.ensures
    c.if-is_off.true

pub returns-then-is_illegal : goal.returns-then-is_illegal
returns-then-is_illegal c =
    let o = c.is_off in
    let i = c.is_illegal in
    λ z s b.
    for-illegal c.args.flags (m (goal.at.returns-then-is_illegal c).Start z) c.args.store _ c.feature_for-feature.ensures o.result o.ensures
    c.if-is_off.false i.result
    i.ensures c.if-is_illegal.true

pub access_for-access-requires : goal.access_for-access-requires
access_for-access-requires c =
    let i = c.is_illegal in
    let p = c.requires.le_vb in
    let streams = legal-streams c.args.flags _ i.result i.ensures c.if-is_illegal.false in
    record { store_value = c.requires.store_value; le_vb = (p.0, p.1, p.3, λ q. p.4 (streams (c.feature_for-feature.ensures ∙ q))) }

pub is_stack_for-requires : goal.is_stack_for-requires
is_stack_for-requires c =
    let p = c.requires.le_vb in
    record {
      access_sound = subst (λ (y : Access). AccessSound y c.args.machine.vb) (sym (c.access_for-access.ensures []))
          (access-sound (m (goal.at.is_stack_for-requires c).Start []) p.0 p.1 p.2 c.args.store c.requires.store_value);
      vb_value = (p.2, p.3);
    }

pub returns-then-is_stack_for : goal.returns-then-is_stack_for
returns-then-is_stack_for c =
    let g = c.args in
    let o = c.is_off in
    let i = c.is_illegal in
    let s = c.is_stack_for in
    λ z q b.
    let t = access-to (m (goal.at.returns-then-is_stack_for c).Start z) q b g.store c.requires.store_value in
    for-stack g.flags (m (goal.at.returns-then-is_stack_for c).Start z) g.store _ c.feature_for-feature.ensures o.result o.ensures
    c.if-is_off.false
    i.result i.ensures c.if-is_illegal.false _ _ s.result
    (s.ensures z) c.is_on_stack.ensures
    (t.listed ∙ ap (λ (y : Access). elements_in y g.machine.vb z g.machine.p.now) (sym (c.access_for-access.ensures z)))
    c.if-is_stack_for.true

pub returns : goal.returns
returns c =
    let g = c.args in
    let o = c.is_off in
    let i = c.is_illegal in
    let s = c.is_stack_for in
    λ z q b.
    let t = access-to (m (goal.at.returns c).Start z) q b g.store c.requires.store_value in
    for-access g.flags (m (goal.at.returns c).Start z) g.store _ c.feature_for-feature.ensures o.result o.ensures
    c.if-is_off.false
    i.result i.ensures c.if-is_illegal.false _ _ s.result
    (s.ensures z) c.is_on_stack.ensures
    (t.listed ∙ ap (λ (y : Access). elements_in y g.machine.vb z g.machine.p.now) (sym (c.access_for-access.ensures z))) _
    (c.access_for-access.ensures z) c.if-is_stack_for.false
