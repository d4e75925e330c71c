-- `is_stack_for`: by the access's case. Assumes nothing.
use mathlib.Core.Path.{◌≡◌, sym, ap, ◌∙◌, subst}
use mathlib.Core.List.{List}
use Prim.Native.Nat.{ℕ}
use native.Mathlib.Omega.{arith}
use lib.ListN.{length}
use Rattle.elements.specs.Machine.{register}
use Rattle.elements.specs.Accesses.{vector_elements}
use Rattle.elements.proofs.Numbers.{predicate-in, register-long}
use Rattle.verdicts.specs.Verdicts.{stack}
use Rattle.checks.specs.Checking.{AccessSound, elements_in}
use Rattle.checks.specs.declared.Access.{Access}
use Rattle.checks.proofs.stores.is_stack_for.Goals as goal

-- the access's soundness, by its case
sound-as : (vb : ℕ) (c d : Access) → AccessSound c vb → c ≡ d → AccessSound d vb
sound-as vb c d s e = subst (λ (k : Access). AccessSound k vb) e s

pub register_of-governing-requires : goal.register_of-governing-requires
register_of-governing-requires c =
    let s = sound-as c.args.machine.vb c.args.access _ c.requires.access_sound c.in-Vector.is in
    predicate-in c.args.machine.vb _ (length c.args.machine.p.now) s.governing (omega (arith, c.requires.vb_value.0)) c.requires.vb_value.1

pub stack_vector-requires : goal.stack_vector-requires
stack_vector-requires c =
    let s = sound-as c.args.machine.vb c.args.access _ c.requires.access_sound c.in-Vector.is in
    record {
      vector_sound = s;
      governing_len = ap length c.register_of-governing.ensures
          ∙ register-long _ _ c.args.machine.p.now
          (predicate-in c.args.machine.vb _ (length c.args.machine.p.now) s.governing (omega (arith, c.requires.vb_value.0)) c.requires.vb_value.1);
    }

pub stack_strided-requires : goal.stack_strided-requires
stack_strided-requires c =
    sound-as c.args.machine.vb c.args.access _ c.requires.access_sound c.in-Strided.is

pub returns-in-Vector : goal.returns-in-Vector
returns-in-Vector c =
    let g = c.args in
    let v = c.in-Vector in
    let m = g.machine in
    λ z.
    c.stack_vector.ensures (register m.vb z v.v.offsets) (register m.vb z v.v.stored)
    ∙ ap (λ (q : List ℕ). stack g.flags m.sp g.on_stack
    (vector_elements v.v (register m.vb z v.v.offsets) q (register m.vb z v.v.stored)))
    c.register_of-governing.ensures
    ∙ ap (λ (k : Access). stack g.flags m.sp g.on_stack (elements_in k m.vb z m.p.now)) (sym v.is)

pub returns-in-Strided : goal.returns-in-Strided
returns-in-Strided c =
    let g = c.args in
    let m = g.machine in
    λ z.
    c.stack_strided.ensures z ∙ ap (λ (k : Access). stack g.flags m.sp g.on_stack (elements_in k m.vb z m.p.now))
    (sym c.in-Strided.is)
