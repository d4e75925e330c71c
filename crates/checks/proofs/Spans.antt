-- Where the elements of an access lie in their registers. Assumes nothing.
use mathlib.Core.Path.{◌≡◌, sym, ap₂}
use mathlib.Core.List.{List}
use Prim.Native.Nat.{ℕ, ◌+◌, ◌-◌, ◌*◌, ◌/◌, ◌≤◌, ◌<◌}
use native.Mathlib.Nat.{mul-pos, mul-le-mul_left, mul-le-mul_right, div-lt_iff_lt-mul}
use native.Mathlib.Omega.{arith}
use lib.ListN.{length, drop, length-take, length-drop}
use Rattle.elements.specs.Accesses.{offset_bytes, VectorSound, vector_element, StridedSound}
use Rattle.window.specs.Window.{in_window}
use Rattle.elements.specs.Machine.{register}
use Rattle.elements.specs.declared.VectorAccess.{VectorAccess}
use Rattle.elements.specs.declared.StridedAccess.{StridedAccess}
use Rattle.elements.proofs.Numbers.{register-in, predicate-in, register-long}
use Rattle.accesses.proofs.Sizes.{gap-some}
use Rattle.checks.specs.Checking.{Sound}

-- registers lie in their buffers
module _ (vb : ℕ) (z p : List ℕ) (o : Sound vb z p) (r : ℕ) where
  pub z-room : r < 32 → r * vb + vb ≤ length z
  z-room h = register-in vb r 32 (length z) h o.long_z

  pub z-long : r < 32 → length (register vb z r) ≡ vb
  z-long h = register-long vb r z (z-room h)

  pub p-room : r < 16 → r * (vb / 8) + vb / 8 ≤ length p
  p-room h = predicate-in vb r (length p) h (omega (arith, o.sixteen)) o.long_p

  pub p-long : r < 16 → length (register (vb / 8) p r) ≡ vb / 8
  p-long h = register-long (vb / 8) r p (p-room h)

-- ---- scatter and quadword stores

module _ (v : VectorAccess) (vb : ℕ) (s : VectorSound v vb) (e : ℕ) (h : e < v.count) where
  pub whole_in : e * v.step + v.step ≤ vb
  whole_in = omega (arith, mul-le-mul_right v.step h, s.whole)

  pub offset-in : e * v.step + offset_bytes v.extension ≤ vb
  offset-in = omega (arith, whole_in, s.offset)

  pub bit_in : e * v.step / 8 < vb / 8
  bit_in = omega (arith, whole_in, s.offset, s.eighth, s.some, s.size)

  pub below_end : e * v.step < 0x10000
  below_end = omega (arith, whole_in, s.high, s.some, s.size)

  pub bytes-in : e * v.step + v.size ≤ vb
  bytes-in = omega (arith, whole_in, s.size)

  pub bytes-long : (offsets stored : List ℕ) → length stored ≡ vb → length (vector_element v offsets stored e).bytes ≡ v.size
  unfolding vector_element
  bytes-long offsets stored q =
      omega (arith, bytes-in, length-take v.size (drop (e * v.step) stored), length-drop (e * v.step) stored)

-- at most 256 elements
pub few : (v : VectorAccess) (vb : ℕ) → VectorSound v vb → v.count ≤ 256
few v vb s = omega (arith, times v.count v.step (omega (arith, s.some, s.size)), s.whole, s.high)
  where
    times : (a b : ℕ) → 1 ≤ b → a ≤ a * b
    times a b h = omega (arith, mul-le-mul_left a h)

-- ---- strided stores: byte i of all registers' bytes

module _ (s : StridedAccess) (vb : ℕ) (o : StridedSound s vb) (i : ℕ) (h : i < s.nreg * vb) where
  -- its register
  pub register-below : s.first + i / vb * s.stride < 32
  register-below =
      let p : 0 < vb = omega (arith, o.whole, mul-pos o.per (gap-some s vb o)) in
      let l : i / vb < s.nreg = (div-lt_iff_lt-mul p).1 h in
      let k : i / vb ≤ s.nreg - 1 = omega arith in
      omega (arith, mul-le-mul_right s.stride k, o.last)

  pub register-fits : (n : ℕ) → n ≡ 32 * vb → (s.first + i / vb * s.stride) * vb + vb ≤ n
  register-fits n q = omega (arith, mul-le-mul_right vb register-below)

-- ---- both

-- an element's window test by the address and size at hand
pub window : (W L : ℕ) {a b n k : ℕ} → a ≡ b → n ≡ k → in_window W L b n ≡ in_window W L a k
window W L p q = ap₂ (in_window W L) (sym p) q
