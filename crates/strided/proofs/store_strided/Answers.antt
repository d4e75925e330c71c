-- `store_strided`: a fault, nothing active, or the rest. Assumes nothing.
use mathlib.Core.Path.{◌≡◌, sym, ap, ◌∙◌, subst}
use mathlib.Core.Bool.{cond}
use Prim.Native.Nat.{ℕ, ◌+◌, ◌%◌, ◌^◌}
use mathlib.Core.List.{List}
use native.Mathlib.Omega.{arith}
use lib.ListN.{length}
use Rattle.window.specs.Window.{in_window}
use Rattle.writes.specs.Elements.{Element}
use Rattle.elements.specs.Accesses.{strided_elements}
use Rattle.accesses.proofs.Spacing.{strided-none}
use Rattle.strided.specs.Searching.{SearchedAs}
use Rattle.std.specs.Prelude.{Result}
use Rattle.verdicts.specs.declared.Outside.{Outside}
use Rattle.outcomes.proofs.Concluding.{stored-fault, stored-listed}
use Rattle.strided.proofs.store_strided.Goals as goal
use Rattle.strided.proofs.store_strided.Goals.{After-find_outside}

pub find_outside-requires : goal.find_outside-requires
find_outside-requires c = (c.requires.strided_sound, c.requires.memory_value)

abbrev es : (k : After-find_outside) → List Element
es k = strided_elements k.args.s k.args.vb k.args.z.now

found : (k : After-find_outside) → (r : Result (Unit {0}) Outside) → k.find_outside.result ≡ r → SearchedAs k.args.base (length k.args.memory.now) (es k) r
found k r q =
    subst (SearchedAs k.args.base (length k.args.memory.now) (es k)) q
    (k.find_outside.ensures k.args.z.now k.requires.z_len)

pub returns-then-s : goal.returns-then-s
returns-then-s c =
    stored-listed
    (sym (strided-none c.args.s c.args.vb c.requires.strided_sound c.args.z.now (omega (arith, c.if-s.true))))
    (c.store_none.ensures c.args.s.size)

pub finish-requires : goal.finish-requires
finish-requires c =
    record {
      strided_sound = (c.requires.strided_sound, omega (arith, c.if-s.false));
      z_len = c.requires.z_len;
      memory_value = (c.requires.memory_value, found (goal.at.finish-requires c).After-find_outside _ c.in-Ok.is);
    }

pub returns-in-Err : goal.returns-in-Err
returns-in-Err c =
    let W = c.args.base in
    let L = length c.args.memory.now in
    let o = found (goal.at.returns-in-Err c).After-find_outside _ c.in-Err.is in
    stored-fault W c.args.s.size c.args.memory.now c.args.patch.now (es (goal.at.returns-in-Err c).After-find_outside) c.requires.memory_value _ _ o.0 o.1 o.2
    (omega (arith, o.3))
    (c.first_outside-address.ensures ∙ ap (λ (x : ℕ). cond (in_window W L x 1) ((W + L) % 2 ^ 64) x) o.3)

pub returns-else-s : goal.returns-else-s
returns-else-s c = c.finish.ensures
