-- `imm4_of`: a search. Invariant: no imm4 below v has the multiple. Assumes nothing.
use Prim.Native.Nat.{ℕ, ◌-◌, ◌≤◌, ◌<◌}
use lib.Dec.{T}
use Rattle.encoding.specs.Decoding.{multiple_of}
use Rattle.encoding.specs.Encoding.{eqℤ}
use Rattle.encoder.proofs.imm4_of.Given as goal

abbrev pub invariant-loop-v : goal.invariant-loop-v
invariant-loop-v l = (l.v ≤ l.n) × ((k : ℕ) → k < l.v → T (eqℤ (multiple_of l.nreg k) l.z) → ⊥)

abbrev pub decreases-loop-v : goal.decreases-loop-v
decreases-loop-v l = l.n - l.v
