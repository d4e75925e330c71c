-- For the contracts of the code's own functions: the entries that a store keeps in a byte fit one. Assumes nothing.
use Rattle.std.specs.Prelude.{ℕ, ◌<◌, Bool, ◌&&◌, List, FitsSigned, nat_lt}
use Rattle.std.specs.Int.Signed.{mag}
use Rattle.std.specs.Int.{w8, w64}
use Rattle.std.proofs.Common.{to_z}
use Rattle.codec.specs.Codec.{entry}

-- 64 bits that are -128..127 in two's complement
abbrev pub signed_byte : ℕ → Bool
signed_byte n = nat_lt (mag (to_z w64 n)) 128

abbrev pub narrow : List ℕ → Bool
narrow es =
    nat_lt (entry es 0) 256
    && nat_lt (entry es 1) 256
    && nat_lt (entry es 3) 256
    && nat_lt (entry es 4) 256
    && nat_lt (entry es 5) 256
    && signed_byte (entry es 6)

pub record Narrow (es : List ℕ) : Type 0 where
  pub at0 : entry es 0 < 256
  pub at1 : entry es 1 < 256
  pub at3 : entry es 3 < 256
  pub at4 : entry es 4 < 256
  pub at5 : entry es 5 < 256
  pub at6 : FitsSigned w8 (to_z w64 (entry es 6))
