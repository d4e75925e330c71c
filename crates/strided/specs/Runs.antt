-- The runs of a strided store's patch: one for all n active elements where they lie side by side, else one for each of them. For the
-- contracts of the code's own functions. Assumes nothing.
use Rattle.std.specs.Prelude.{ℕ, ◌*◌, cond, eqb}
use Rattle.elements.specs.declared.StridedAccess.{StridedAccess}

unfoldable pub run_count : StridedAccess → ℕ → ℕ
run_count s n = cond (eqb s.gap s.size) 1 n

unfoldable pub run_size : StridedAccess → ℕ → ℕ
run_size s n = cond (eqb s.gap s.size) (n * s.size) s.size
