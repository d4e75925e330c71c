-- Signed numbers: imm4's multiples, the bits of a small number and its negation, and of any number by its sign. Assumes nothing.
use mathlib.Core.Path.{◌≡◌, refl, sym, ap, ◌∙◌, subst}
use mathlib.Core.Bool.{Bool, true, false, true≢false, false≢true}
use Prim.Native.Nat.{ℕ, zero, suc, ◌-◌, ◌*◌, ◌/◌, ◌^◌, ◌≤◌, ◌<◌}
use native.Mathlib.Nat.{mul-div_cancel, not-suc-le-zero, one-mul, mul-le-mul, mul-le-mul_right, lt_of_lt_of_le}
use native.Mathlib.Omega.{arith}
use borrow.Author.Tests.{ltb-true, ltb-false}
use lib.Dec.{T, ltb, eqb→eq, eqb_refl, lt→ltb, ltb→lt, leb-zero}
use lib.IntN.{ℤ, pos, negsuc, neg_ℤ, nat_abs, ◌-ℤ◌, ◌*ℤ◌, +ℤ_idl}
use lib.Signed.{le_z, non_neg}
use mir.Syntax.{w8, w64}
use mir.Val.{SFits, Fits, to_z, of_z}
use mir.Facts.{sfits_widen}
use mir.ValLaws.{to_z_pos, to_z-of_z}
use Rattle.encoding.specs.Decoding.{multiple_of}
use Rattle.encoding.specs.Encoding.{eqℤ, imm_of}
use Rattle.encoding.proofs.Tests.{cond-true, cond-false}
use Rattle.encoding.proofs.Search.{lowest-only, lowest-holds}

-- ---- multiples

module _ (m v : ℕ) where
  pub multiple-low : v < 8 → multiple_of m v ≡ pos (v * m)
  unfolding multiple_of
  multiple-low h = ap (λ (z : ℤ). z *ℤ pos m) (cond-true (ltb v 8) (pos v) (pos v -ℤ pos 16) (lt→ltb v 8 h))

  pub multiple-high : 8 ≤ v → v < 16 → multiple_of m v ≡ neg_ℤ (pos ((16 - v) * m))
  unfolding multiple_of
  multiple-high l h =
      let n : suc (16 - suc v) ≡ 16 - v = omega arith in
      ap (λ (z : ℤ). z *ℤ pos m)
      (cond-false (ltb v 8) (pos v) (pos v -ℤ pos 16) (λ t. omega (arith, ltb→lt v 8 t))
      ∙ cond-true (ltb v 16) (negsuc (16 - suc v)) (pos (v - 16)) (lt→ltb v 16 h))
      ∙ ap (λ (x : ℕ). neg_ℤ (pos (x * m))) n

pub eqℤ-refl : (z : ℤ) → T (eqℤ z z)
eqℤ-refl (pos n) = eqb_refl n
eqℤ-refl (negsuc n) = eqb_refl n

pub eqℤ→eq : (y z : ℤ) → T (eqℤ y z) → y ≡ z
eqℤ→eq (pos m) (pos n) t = ap pos (eqb→eq m n t)
eqℤ→eq (pos m) (negsuc n) t = absurd t
eqℤ→eq (negsuc m) (pos n) t = absurd t
eqℤ→eq (negsuc m) (negsuc n) t = ap negsuc (eqb→eq m n t)

-- a multiple shows its imm4
back : ℕ → ℤ → ℕ
back m (pos n) = n / m
back m (negsuc n) = 16 - suc n / m

back-neg : (m n : ℕ) → 0 < n → back m (neg_ℤ (pos n)) ≡ 16 - n / m
unfolding back
back-neg m zero h = absurd (not-suc-le-zero h)
back-neg m (suc n) h = refl

pub mul-pos : (a b : ℕ) → 0 < a → 0 < b → 0 < a * b
mul-pos a b ha hb = lt_of_lt_of_le hb (subst (λ (x : ℕ). x ≤ a * b) (one-mul b) (mul-le-mul_right b ha))

module _ (m : ℕ) (hm : 0 < m) where
  back-multiple : (v : ℕ) → v < 16 → back m (multiple_of m v) ≡ v
  unfolding back
  back-multiple v hv = go (ltb v 8) refl
    where
      go : (b : Bool) → ltb v 8 ≡ b → back m (multiple_of m v) ≡ v
      go true e = ap (back m) (multiple-low m v (ltb→lt v 8 (subst T (sym e) tt))) ∙ mul-div_cancel v hm
      go false e =
          let l : 8 ≤ v = omega (arith, ltb-false v 8 e) in
          ap (back m) (multiple-high m v l hv)
          ∙ back-neg m ((16 - v) * m) (mul-pos (16 - v) m (omega arith) hm)
          ∙ ap (λ (x : ℕ). 16 - x) (mul-div_cancel (16 - v) hm)
          ∙ omega arith

  -- imm4 is found again in its multiple
  pub imm-multiple : (n v : ℕ) → v < n → n ≤ 16 → imm_of m n (multiple_of m v) ≡ v
  unfolding imm_of
  imm-multiple n v hv hn =
      lowest-only (λ u. eqℤ (multiple_of m u) (multiple_of m v)) n v hv (eqℤ-refl (multiple_of m v))
      (λ u hu t.
      sym (back-multiple u (omega arith))
      ∙ ap (back m) (eqℤ→eq (multiple_of m u) (multiple_of m v) t)
      ∙ back-multiple v (omega arith))

-- and a multiple in its imm4
pub multiple-imm : (m n : ℕ) (z : ℤ) → imm_of m n z < n → multiple_of m (imm_of m n z) ≡ z
unfolding imm_of
multiple-imm m n z h = eqℤ→eq (multiple_of m (imm_of m n z)) z (lowest-holds (λ v. eqℤ (multiple_of m v) z) n h)

-- imm4's multiples are small
small-multiple : (m v : ℕ) → m ≤ 4 → v < 16 → nat_abs (multiple_of m v) ≤ 64
small-multiple m v hm hv = go (ltb v 8) refl
  where
    abs_neg : (n : ℕ) → nat_abs (neg_ℤ (pos n)) ≡ n
    abs_neg zero = refl
    abs_neg (suc n) = refl

    size : (a : ℕ) → a ≤ 16 → a * m ≤ 64
    size a h = mul-le-mul h hm

    go : (b : Bool) → ltb v 8 ≡ b → nat_abs (multiple_of m v) ≤ 64
    go true e = omega (arith, ap nat_abs (multiple-low m v (ltb-true v 8 e)), size v (omega arith))
    go false e =
        omega (arith, ap nat_abs (multiple-high m v (ltb-false v 8 e) hv) ∙ abs_neg ((16 - v) * m), size (16 - v) (omega arith))

pub named_small : (m n : ℕ) (z : ℤ) → m ≤ 4 → n ≤ 16 → imm_of m n z < n → nat_abs z ≤ 64
named_small m n z hm hn h =
    subst (λ (y : ℤ). nat_abs y ≤ 64) (multiple-imm m n z h) (small-multiple m (imm_of m n z) hm (omega arith))

-- ---- numbers of 8 bits

pub small-fits : (z : ℤ) → nat_abs z ≤ 64 → SFits w8 z
small-fits (pos n) h = record { sfits = omega arith }
small-fits (negsuc n) h = record { sfits = omega arith }

pub multiple-fits : (m v : ℕ) → m ≤ 4 → v < 16 → SFits w8 (multiple_of m v)
multiple-fits m v hm hv = small-fits (multiple_of m v) (small-multiple m v hm hv)

-- as the code narrows them from 64 bits: r is the number z
module _ (r z : ℤ) (f : SFits w64 r) (e : r ≡ z) (g : SFits w8 z) where
  whole : to_z w64 (of_z w64 r) ≡ z
  whole = to_z-of_z w64 r f ∙ e

  pub narrow-fits : SFits w8 (to_z w64 (of_z w64 r))
  narrow-fits = subst (SFits w8) (sym whole) g

  pub narrow-is : to_z w8 (of_z w8 (to_z w64 (of_z w64 r))) ≡ z
  narrow-is = ap (λ (y : ℤ). to_z w8 (of_z w8 y)) whole ∙ to_z-of_z w8 z g

-- and as it widens them
module _ (z : ℤ) (f : SFits w8 z) where
  pub wide_fits : SFits w64 (to_z w8 (of_z w8 z))
  wide_fits = subst (SFits w64) (sym (to_z-of_z w8 z f)) (sfits_widen tt f)

  pub wide_is : to_z w64 (of_z w64 (to_z w8 (of_z w8 z))) ≡ z
  wide_is = ap (λ (y : ℤ). to_z w64 (of_z w64 y)) (to_z-of_z w8 z f) ∙ to_z-of_z w64 z (sfits_widen tt f)

-- ---- bits

module _ (n : ℕ) (h : n < 2 ^ 63) where
  pub pos-is : to_z w64 n ≡ pos n
  pos-is = to_z_pos w64 n h

  negated : pos 0 -ℤ to_z w64 n ≡ neg_ℤ (pos n)
  negated = ap (λ (z : ℤ). pos 0 -ℤ z) pos-is ∙ +ℤ_idl (neg_ℤ (pos n))

neg_small : (n : ℕ) → n < 2 ^ 63 → SFits w64 (neg_ℤ (pos n))
neg_small zero h = record { sfits = omega arith }
neg_small (suc n) h = record { sfits = omega arith }

module _ (n : ℕ) (h : n < 2 ^ 63) where
  pub neg-fits : SFits w64 (pos 0 -ℤ to_z w64 n)
  neg-fits = subst (SFits w64) (sym (negated n h)) (neg_small n h)

  pub neg_is : to_z w64 (of_z w64 (pos 0 -ℤ to_z w64 n)) ≡ neg_ℤ (pos n)
  neg_is = to_z-of_z w64 (pos 0 -ℤ to_z w64 n) neg-fits ∙ negated n h

-- numbers with the same bits are equal
pub same_bits : (a b : ℤ) → SFits w64 a → SFits w64 b → of_z w64 a ≡ of_z w64 b → a ≡ b
same_bits a b ha hb e = sym (to_z-of_z w64 a ha) ∙ ap (to_z w64) e ∙ to_z-of_z w64 b hb

-- ---- the 64 bits of a number that is not negative

module _ (z : ℤ) (f : SFits w64 z) (h : le_z (pos 0) (to_z w64 (of_z w64 z)) ≡ true) where
  same : to_z w64 (of_z w64 z) ≡ z
  same = to_z-of_z w64 z f

  at_least : le_z (pos 0) z ≡ true
  at_least = ap (le_z (pos 0)) (sym same) ∙ h

  plain : (y : ℤ) → SFits w64 y → le_z (pos 0) y ≡ true → T (non_neg y) × Fits w64 (nat_abs y) × (nat_abs y ≡ of_z w64 y)
  plain (pos n) g e = (tt, record { fits = omega (arith, g.sfits) }, refl)
  plain (negsuc n) g e = absurd (false≢true e)

  pub unsigned-fits : T (non_neg (to_z w64 (of_z w64 z))) × Fits w64 (nat_abs (to_z w64 (of_z w64 z)))
  unsigned-fits =
      let p = plain z f at_least in
      subst (λ (y : ℤ). T (non_neg y) × Fits w64 (nat_abs y)) (sym same) (p.0, p.1)

  pub unsigned_is : nat_abs (to_z w64 (of_z w64 z)) ≡ of_z w64 z
  unsigned_is = ap nat_abs same ∙ (plain z f at_least).2

-- ---- and of a negative one: the other bits are those of a small number

pub record Flipped (z : ℤ) : Type 0 where
  pub n : ℕ
  pub small : n < 2 ^ 63
  pub flipped : to_z w64 (18446744073709551615 - of_z w64 z) ≡ pos n
  pub whole : 18446744073709551615 - n ≡ of_z w64 z

flip : (z : ℤ) → SFits w64 z → le_z (pos 0) z ≡ false → Flipped z
flip (pos n) f e = absurd (true≢false (sym (leb-zero n) ∙ e))
flip (negsuc n) f e =
    let q : 18446744073709551615 - (2 ^ 64 - suc n) ≡ n = omega (arith, f.sfits) in
    record { n = n; small = f.sfits; flipped = ap (to_z w64) q ∙ to_z_pos w64 n f.sfits; whole = omega (arith, f.sfits) }

module _ (z : ℤ) (f : SFits w64 z) (h : le_z (pos 0) (to_z w64 (of_z w64 z)) ≡ false) where
  pub told : Flipped z
  told = flip z f (ap (le_z (pos 0)) (sym (to_z-of_z w64 z f)) ∙ h)

  pub other_fits : T (non_neg (to_z w64 (18446744073709551615 - of_z w64 z))) × Fits w64 (nat_abs (to_z w64 (18446744073709551615 - of_z w64 z)))
  other_fits =
      subst (λ (y : ℤ). T (non_neg y) × Fits w64 (nat_abs y)) (sym told.flipped) (tt, record { fits = omega (arith, told.small) })

  other-is : nat_abs (to_z w64 (18446744073709551615 - of_z w64 z)) ≡ told.n
  other-is = ap nat_abs told.flipped

  pub other-small : nat_abs (to_z w64 (18446744073709551615 - of_z w64 z)) ≤ 18446744073709551615
  other-small = omega (arith, other-is, told.small)

  pub negative-is : 18446744073709551615 - nat_abs (to_z w64 (18446744073709551615 - of_z w64 z)) ≡ of_z w64 z
  negative-is = ap (λ (x : ℕ). 18446744073709551615 - x) other-is ∙ told.whole
