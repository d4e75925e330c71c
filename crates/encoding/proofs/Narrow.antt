-- What a store that encodes to a word has: numbers below 256, and a multiple of 8 bits. Assumes nothing.
use Rattle.std.specs.Prelude.{Some}
use mathlib.Core.Path.{◌≡◌}
use mathlib.Core.Bool.{Bool, true, false, cond}
use mathlib.Core.List.{List, [], ◌∷◌}
use Prim.Native.Nat.{ℕ, ◌/◌, ◌%◌, ◌^◌, ◌≤◌, ◌<◌}
use native.Mathlib.Omega.{arith}
use lib.Dec.{T, ltb, ltb→lt, lt→ltb, lit≤}
use lib.Ieee.Fits.{and_i, and_l, and_r}
use lib.IntN.{ℤ, pos, nat_abs}
use mir.Syntax.{w8}
use mir.Val.{SFits}
use Rattle.encoding.specs.Classes as C
use Rattle.encoding.specs.Classes.{Field, Zm, Rm, imm4, xs, Pg, Pc, Rn, Zn, Zt, Zt3, Zt2, size, Class, classes, class_at, has, width}
use Rattle.encoding.specs.Decoding.{zt_of}
use Rattle.encoding.specs.Encoding.{Value, numbers_in, imm_of, number_of, feature_of, row_for, encode_of}
use Rattle.encoding.specs.declared.Store.{Store}
use Rattle.encoding.specs.declared.Store.TheVariants.{Scatter, Strided, Quadword}
use Rattle.encoding.proofs.Tests.{every}
use Rattle.encoding.proofs.Rows.{Small, small_at, row-holds}
use Rattle.encoding.proofs.Signed.{named_small, small-fits}
use Rattle.encoding.proofs.Causes.{ranged, fits, in-range, is-named}
use Rattle.encoding.proofs.Inverse.{named-parts}
use Rattle.encoding.proofs.Statements.{encoded-fits}

size_small : (f : Field) → 2 ^ size f ≤ 32
size_small Zm = lit≤ tt
size_small Rm = lit≤ tt
size_small imm4 = lit≤ tt
size_small xs = lit≤ tt
size_small Pg = lit≤ tt
size_small Pc = lit≤ tt
size_small Rn = lit≤ tt
size_small Zn = lit≤ tt
size_small Zt = lit≤ tt
size_small C.T = lit≤ tt
size_small Zt3 = lit≤ tt
size_small Zt2 = lit≤ tt

pub width_small : (c : Class) (f : Field) → 2 ^ width c f ≤ 32
width_small c f = go (has c f)
  where
    go : (b : Bool) → 2 ^ cond b (size f) 0 ≤ 32
    go true = size_small f
    go false = lit≤ tt

ranged-small : (c : Class) (vs : List Value) → T (ranged c vs) → T (every (λ v. ltb v.number 256) vs)
unfolding every
ranged-small c [] t = tt
ranged-small c (v ∷ vs) t =
    let b = ltb v.number (2 ^ width c v.field) in
    let l = ltb→lt v.number (2 ^ width c v.field) (and_l b (ranged c vs) t) in
    and_i (ltb v.number 256) (every (λ v. ltb v.number 256) vs)
    (lt→ltb v.number 256 (omega (arith, width_small c v.field)))
    (ranged-small c vs (and_r b (ranged c vs) t))

-- a strided store's first register; 0 in other cases
abbrev pub first_of : Store → ℕ
first_of (Scatter f) = 0
first_of (Strided f) = f.first
first_of (Quadword f) = 0

first_small : (c : Class) (s : Store) → T (fits c s) → first_of s < 256
first_small c (Scatter f) t = omega arith
first_small c (Strided f) t =
    let n = 2 ^ width c imm4 in
    let i = imm_of c.nreg n f.multiple in
    let a = ltb (f.first / 16) (2 ^ width c C.T) in
    let b = ltb (f.first % 16) (2 ^ width c (zt_of c)) in
    let p = named-parts a b (ltb i n) (is-named c (Strided f) t) in
    let l = ltb→lt (f.first / 16) (2 ^ width c C.T) p.0 in
    let h = top_small c in
    omega arith
  where
    top_small : (d : Class) → 2 ^ width d C.T ≤ 2
    top_small d = go (has d C.T)
      where
        go : (b : Bool) → 2 ^ cond b 1 0 ≤ 2
        go true = lit≤ tt
        go false = lit≤ tt
first_small c (Quadword f) t = omega arith

-- a strided store's multiple; 0 in other cases
abbrev pub multiple_in : Store → ℤ
multiple_in (Scatter f) = pos 0
multiple_in (Strided f) = f.multiple
multiple_in (Quadword f) = pos 0

multiple-small : (c : Class) (s : Store) → Small c → T (fits c s) → nat_abs (multiple_in s) ≤ 64
multiple-small c (Scatter f) b t = lit≤ tt
multiple-small c (Strided f) b t =
    let n = 2 ^ width c imm4 in
    let i = imm_of c.nreg n f.multiple in
    let h = ltb (f.first / 16) (2 ^ width c C.T) in
    let l = ltb (f.first % 16) (2 ^ width c (zt_of c)) in
    let p = named-parts h l (ltb i n) (is-named c (Strided f) t) in
    named_small c.nreg n f.multiple b.nreg b.imm4.1 (ltb→lt i n p.2)
multiple-small c (Quadword f) b t = lit≤ tt

pub record Narrow (s : Store) : Type 0 where
  pub class : number_of s < 256
  pub numbers : T (every (λ v. ltb v.number 256) (numbers_in s))
  pub first : first_of s < 256
  pub multiple : SFits w8 (multiple_in s)

pub encoded-narrow : (s : Store) (w : ℕ) → encode_of s ≡ Some w → Narrow s
unfolding classes
encoded-narrow s w e =
    let t = encoded-fits s w e in
    let c = class_at (row_for s) in
    record {
      class = omega (arith, (row-holds (number_of s) (feature_of s) t.0).0, t.0);
      numbers = ranged-small c (numbers_in s) (in-range c s t.1);
      first = first_small c s t.1;
      multiple = small-fits (multiple_in s) (multiple-small c s (small_at (row_for s) t.0) t.1);
    }
