-- `part`: the arithmetic of its bounds.
use mathlib.Core.Path.{refl, ap}
use Prim.Native.Nat.{ℕ, ◌+◌, ◌-◌}
use native.Mathlib.Omega.{arith}
use lib.ListN.{take, drop}
use Rattle.reader.proofs.part.Goals as goal

pub returns : goal.returns
returns c = record {
  place = refl;
  bytes = ap (λ (k : ℕ). take k (drop c.args.at c.args.s.now))
      {x = c.args.at + c.args.n - c.args.at} {y = c.args.n} (omega arith);
}
