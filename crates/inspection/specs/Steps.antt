-- What element e of an access is. For the contracts of the code's own functions. Assumes nothing.
use Rattle.std.specs.Prelude.{ℕ, ◌+◌, ◌*◌, ◌/◌, ◌%◌, ◌^◌, List}
use Rattle.elements.specs.Machine.{register}
use Rattle.elements.specs.Accesses.{vector_active, vector_address, strided_active}
use Rattle.elements.specs.declared.VectorAccess.{VectorAccess}
use Rattle.elements.specs.declared.StridedAccess.{StridedAccess}
use Rattle.inspection.specs.Inspection.{counted}
use Rattle.inspection.specs.declared.Inspected.{Inspected}

unfoldable pub vector_inspected : VectorAccess → ℕ → List ℕ → List ℕ → ℕ → Inspected
vector_inspected v vb z p e =
    counted e v.count (vector_active v (register (vb / 8) p v.governing) e) (vector_address v (register vb z v.offsets) e)
    (v.stored * vb + e * v.step) v.size

-- a strided store's elements are counted by their bytes: the i-th byte of all registers' is byte i % vb of register i / vb
unfoldable pub strided_inspected : StridedAccess → ℕ → ℕ → Inspected
strided_inspected s vb e =
    counted e (s.nreg * (vb / s.size)) (strided_active s (e * s.size)) ((s.start + e * s.size) % 2 ^ 64)
    ((s.first + e * s.size / vb * s.stride) * vb + e * s.size % vb) s.size
