-- Document 01's number and values for each answer of this crate. Assumes nothing.
use Rattle.std.specs.Prelude.{ℕ, List, [], ◌∷◌, replicate, Option, Some, None}
use Rattle.std.specs.Int.{w64}
use Rattle.std.proofs.Common.{of_z}
use Rattle.encoding.specs.declared.Extension.{Extension}
use Rattle.encoding.specs.declared.Extension.TheVariants.{Uxtw, Sxtw}
use Rattle.encoding.specs.declared.Store.{Store}
use Rattle.encoding.specs.declared.Store.TheVariants.{Scatter, Strided, Quadword}

-- "Done is number 0"; 4 undefined
abbrev pub decoded_number : Option Store → ℕ
decoded_number (Some s) = 0
decoded_number None = 4

abbrev pub extension_number : Option Extension → ℕ
extension_number None = 0
extension_number (Some Uxtw) = 1
extension_number (Some Sxtw) = 2

-- a store as eight numbers: class, Zm or Rm, extension, Pg or Pc, Rn or Zn, Zt or first register, the signed multiple in two's
-- complement (`of_z w64 z` is the 64 bits of z), and zero
abbrev pub store_numbers : Store → List ℕ
store_numbers (Scatter f) = f.class ∷ f.zm ∷ extension_number f.extension ∷ f.pg ∷ f.rn ∷ f.zt ∷ 0 ∷ 0 ∷ []
store_numbers (Strided f) = f.class ∷ f.rm ∷ 0 ∷ f.pc ∷ f.rn ∷ f.first ∷ of_z w64 f.multiple ∷ 0 ∷ []
store_numbers (Quadword f) = f.class ∷ f.rm ∷ 0 ∷ f.pg ∷ f.zn ∷ f.zt ∷ 0 ∷ 0 ∷ []

-- a refusal's values are zeros
abbrev pub decoded_numbers : Option Store → List ℕ
decoded_numbers (Some s) = store_numbers s
decoded_numbers None = replicate 8 0

-- 11 fields
abbrev pub encoded_number : Option ℕ → ℕ
encoded_number (Some w) = 0
encoded_number None = 11

abbrev pub encoded_word : Option ℕ → ℕ
encoded_word (Some w) = w
encoded_word None = 0
