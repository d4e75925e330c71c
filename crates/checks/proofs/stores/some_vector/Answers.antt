-- `some_vector`: no element passed is active. Assumes nothing.
use mathlib.Core.Path.{sym, ◌∙◌, subst}
use Prim.Native.Nat.{ℕ, ◌*◌, ◌/◌, ◌<◌}
use Rattle.elements.specs.Accesses.{vector_active, vector_element, vector_elements}
use Rattle.verdicts.specs.Verdicts.{some_active}
use Rattle.checks.proofs.Walking.{walked-first, walked-off, sought-found, sought-none}
use Rattle.checks.proofs.Spans.{bit_in, below_end}
use Rattle.checks.proofs.stores.some_vector.Goals as goal

pub loop-e-init : goal.loop-e-init
loop-e-init c =
    let g = c.args in
    λ offsets stored. walked-first (vector_active g.v g.governing.now) (vector_element g.v offsets stored) g.v.count some_active

pub is_active-requires : goal.is_active-requires
is_active-requires c =
    let e = c.loop-e.e in
    record {
      step_in_bounds = subst (λ (n : ℕ). e * c.args.v.step / 8 < n) (sym c.requires.governing_len)
          (bit_in c.args.v c.args.vb c.requires.vector_sound e c.loop-e-test.true);
      step_bound = below_end c.args.v c.args.vb c.requires.vector_sound e c.loop-e-test.true;
    }

pub returns-then-is_active : goal.returns-then-is_active
unfolding vector_elements
returns-then-is_active c =
    let g = c.args in
    let l = c.loop-e in
    λ offsets stored.
    sought-found (vector_active g.v g.governing.now) (vector_element g.v offsets stored) g.v.count l.e
    c.loop-e-test.true
    (l.invariant offsets stored) (sym c.is_active.ensures ∙ c.if-is_active.true)

pub loop-e-preserved : goal.loop-e-preserved
loop-e-preserved c =
    let g = c.args in
    let l = c.loop-e in
    λ offsets stored.
    walked-off (vector_active g.v g.governing.now) (vector_element g.v offsets stored) g.v.count some_active l.e
    c.loop-e-test.true
    (l.invariant offsets stored) (sym c.is_active.ensures ∙ c.if-is_active.false)

pub returns : goal.returns
unfolding vector_elements
returns c =
    let g = c.args in
    let l = c.loop-e in
    λ offsets stored. sought-none (vector_active g.v g.governing.now) (vector_element g.v offsets stored) g.v.count l.e
    c.loop-e-test.false (l.invariant offsets stored)
