-- A strided store's registers and the bytes of its active elements: how many, and where in their register an element's bytes are. Assumes
-- nothing.
use mathlib.Core.Path.{◌≡◌, ap, ap₂, ◌∙◌}
use mathlib.Core.List.{List}
use Prim.Native.Nat.{ℕ, suc, ◌+◌, ◌-◌, ◌*◌, ◌/◌, ◌%◌, ◌≤◌, ◌<◌}
use native.Mathlib.Nat.{suc-mul, mul_assoc, mul_comm, mul-le-mul, mul-le-mul_right, le-mul_of_pos_right}
use native.Mathlib.Nat.{div-add-mod', div-lt_iff_lt-mul, le-div_iff_mul-le}
use native.Mathlib.Omega.{arith}
use lib.ListN.{length, take, drop, length-take, length-drop}
use Rattle.writes.specs.Elements.{Element}
use Rattle.elements.specs.Machine.{register}
use Rattle.elements.specs.Accesses.{StridedSound, strided_element}
use Rattle.elements.specs.declared.StridedAccess.{StridedAccess}
use Rattle.elements.proofs.Numbers.{register-in, register-long}

-- ---- in one register

module _ (s : StridedAccess) (vb : ℕ) (o : StridedSound s vb) where
  pub gap-some : 0 < s.gap
  gap-some = omega (arith, o.some, o.size)

  pub per_small : s.per ≤ 256
  per_small = omega (arith, le-mul_of_pos_right s.per gap-some, o.whole, o.high)

  pub gap-small : s.gap ≤ 256
  gap-small = omega (arith, le-mul_of_pos_right s.gap o.per, mul_comm s.per s.gap, o.whole, o.high)

  pub high_small : s.high ≤ 1024
  high_small = omega (arith, o.most, mul-le-mul o.nreg per_small)

  -- all registers together have at most 1,024 bytes
  pub reach-small : (k : ℕ) → k ≤ s.nreg * s.per → k * s.gap ≤ 1024
  reach-small k h =
      omega (
        arith,
        mul-le-mul_right s.gap h,
        mul_assoc s.nreg s.per s.gap,
        ap (λ (n : ℕ). s.nreg * n) o.whole,
        mul-le-mul o.nreg o.high,
      )

  module _ (r : ℕ) (h : r < s.nreg) where
    -- register r is one
    pub row_below : s.first + r * s.stride < 32
    row_below =
        let l : r ≤ s.nreg - 1 = omega arith in
        omega (arith, mul-le-mul_right s.stride l, o.last)

    pub row-long : (z : List ℕ) → length z ≡ 32 * vb → length (register vb z (s.first + r * s.stride)) ≡ vb
    row-long z q = register-long vb (s.first + r * s.stride) z (register-in vb (s.first + r * s.stride) 32 (length z) row_below q)

  -- an element of register r
  module _ (r k : ℕ) (a : r * s.per ≤ k) (b : k < r * s.per + s.per) where
    in_row : k / s.per ≡ r
    in_row =
        let l : r ≤ k / s.per = (le-div_iff_mul-le o.per).1 a in
        let u : k / s.per < suc r = (div-lt_iff_lt-mul o.per).1 (omega (arith, suc-mul r s.per)) in
        omega arith

    in-it : k % s.per ≡ k - r * s.per
    in-it = omega (arith, div-add-mod' k s.per, ap (λ (n : ℕ). n * s.per) in_row)

    pub its-bytes : (z : List ℕ)
        → (strided_element s vb z k).bytes
        ≡ take s.size (drop ((k - r * s.per) * s.gap) (register vb z (s.first + r * s.stride)))
    unfolding strided_element
    its-bytes z = ap₂ (λ (n i : ℕ). take s.size (drop (n * s.gap) (register vb z (s.first + i * s.stride)))) in-it in_row

-- ---- of all

module _ (s : StridedAccess) (vb : ℕ) (o : StridedSound s vb) (z : List ℕ) (q : length z ≡ 32 * vb) where
  abbrev el : ℕ → Element
  el = strided_element s vb z

  pub bytes-long : (k : ℕ) → k < s.high → length (el k).bytes ≡ s.size
  bytes-long k h =
      let r = k / s.per in
      let l : r < s.nreg = (div-lt_iff_lt-mul o.per).1 (omega (arith, o.most)) in
      let a : r * s.per ≤ k = (le-div_iff_mul-le o.per).0 (omega arith) in
      let b : k < suc r * s.per = (div-lt_iff_lt-mul o.per).0 (omega arith) in
      let c : k < r * s.per + s.per = omega (arith, suc-mul r s.per) in
      let g = register vb z (s.first + r * s.stride) in
      ap length (its-bytes s vb o r k a c z)
      ∙ omega (
        arith,
        fits (k - r * s.per) (omega arith),
        row-long s vb o r l z q,
        length-take s.size (drop ((k - r * s.per) * s.gap) g),
        length-drop ((k - r * s.per) * s.gap) g,
      )
    where
      fits : (d : ℕ) → d < s.per → d * s.gap + s.size ≤ vb
      fits d h = omega (arith, suc-mul d s.gap, mul-le-mul_right s.gap h, o.whole, o.size)
