-- `values`: a small power of 2. Assumes nothing.
use mathlib.Core.Path.{◌∙◌, ap}
use Prim.Native.Nat.{ℕ, ◌%◌, ◌^◌}
use native.Mathlib.Nat.{one-mul, mod-eq_of_lt}
use native.Mathlib.Omega.{arith}
use lib.Pow.{pow-lt}
use Rattle.encoding.proofs.values.Goals as goal

pub returns : goal.returns
returns c = ap (λ (n : ℕ). n % 2 ^ 32) (one-mul (2 ^ c.args.bits)) ∙ mod-eq_of_lt (pow-lt {i = c.args.bits} {j = 32} (omega arith))
