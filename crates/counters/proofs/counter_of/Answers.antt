-- `counter_of`: the first two bytes of P register 8 + Pc. No loop. Assumes nothing.
use mathlib.Core.List.{List}
use mathlib.Core.Path.{ap, ◌∙◌}
use Prim.Native.Nat.{ℕ, ◌+◌, ◌*◌, ◌/◌, ◌≤◌, ◌<◌}
use native.Mathlib.Omega.{arith}
use lib.ListN.{length, take}
use Rattle.endian.specs.LittleEndian.{le_val}
use Rattle.elements.specs.Machine.{register}
use Rattle.elements.proofs.Numbers.{register-within, register-long}
use Rattle.counters.proofs.counter_of.Goals as goal
use Rattle.counters.proofs.counter_of.Goals.{Start}

-- register g lies in the buffer
inside : (a : Start) (g : ℕ) → g < 16 → g * (a.args.vb / 8) + a.args.vb / 8 ≤ length a.args.p.now
inside a g h = register-within (a.args.vb / 8) g 16 (length a.args.p.now) h (omega (arith, a.requires.3))

pub register_of-requires : goal.register_of-requires
register_of-requires c = inside (goal.at.register_of-requires c).Start _ (omega (arith, c.requires.0))

pub le16-requires : goal.le16-requires
le16-requires c =
    omega (
      arith,
      ap length c.register_of.ensures ∙ register-long (c.args.vb / 8) _ c.args.p.now (inside (goal.at.le16-requires c).Start _ (omega (arith, c.requires.0))),
      c.requires.1,
    )

pub returns : goal.returns
returns c =
    c.le16.ensures.0 ∙ ap (λ (r : List ℕ). le_val (take 2 r)) c.register_of.ensures
    ∙ ap (λ (n : ℕ). le_val (take 2 (register (c.args.vb / 8) c.args.p.now (8 + n)))) c.from.ensures
