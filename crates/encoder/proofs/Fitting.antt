-- The encoder's tests and sums are those of the definitions, for each case of store. Assumes nothing.
use Rattle.std.specs.Prelude.{Some, None}
use mathlib.Core.Path.{◌≡◌, refl, sym, ap, ap₂, ◌∙◌}
use mathlib.Core.Bool.{Bool, true, false, not, cond, ◌&&◌, ◌||◌, and-true}
use Prim.Native.Nat.{ℕ, ◌+◌, ◌*◌, ◌/◌, ◌%◌, ◌^◌, ◌<◌, ◌≤◌}
use native.Mathlib.Omega.{arith}
use lib.Dec.{eqb, ltb}
use lib.ListN.{length}
use Rattle.encoding.specs.Classes.{imm4, Zt3, Zt2, low, Class, classes, class_at, has, width}
use Rattle.encoding.specs.declared.Feature.TheVariants.{SVE, SME2, SVE2p1}
use Rattle.encoding.specs.Decoding.{zt_of}
use Rattle.encoding.specs.Encoding.{number_of, feature_of, row_for, class_for, misextends, xs_of, imm_of, placed, values_in, encode_of}
use Rattle.encoding.specs.Layouts.{layout_of, listed}
use Rattle.encoding.specs.declared.table.Row.{Row}
use Rattle.encoding.specs.declared.Store.{Store}
use Rattle.encoding.specs.declared.Layout.{Layout}
use Rattle.encoding.specs.declared.ScatterFields.{ScatterFields}
use Rattle.encoding.specs.declared.StridedFields.{StridedFields}
use Rattle.encoding.specs.declared.QuadwordFields.{QuadwordFields}
use Rattle.encoding.specs.declared.Store.TheVariants.{Scatter, Strided, Quadword}
use Rattle.encoding.proofs.Tests.{every}
use Rattle.encoding.proofs.Causes.{fits, encode-out}
use Rattle.encoding.proofs.Rows.{scattered, striding, quad, found-feature, known-row, unknown-row, is-listed}
use Rattle.encoding.proofs.Reading.{has-xs, Bounded, bounded, base-bounded}

and4 : (a b c d : Bool) → a && b && c && d ≡ a && (b && (c && (d && true)))
and4 false b c d = refl
and4 true false c d = refl
and4 true true false d = refl
and4 true true true d = sym (and-true d)

-- a strided store's six tests: three fields, T and Zt of its first register, imm4 of its multiple
and6 : (r p n a b i : Bool) → r && p && n && a && b && i ≡ r && (p && (n && true)) && not (not (a && b) || not i) && not false
and6 false p n a b i = refl
and6 true false n a b i = refl
and6 true true false a b i = refl
and6 true true true false b i = refl
and6 true true true true false i = refl
and6 true true true true true false = refl
and6 true true true true true true = refl

pub zt-low : (c : Class) → low (zt_of c) ≡ 0
zt-low c = go (has c Zt3)
  where
    go : (b : Bool) → low (cond b Zt3 Zt2) ≡ 0
    go true = refl
    go false = refl

module _ (k : ℕ) (h : k < length classes) where
  pub scatter-fit : (class_at k).feature ≡ SVE → (f : ScatterFields) (l : Layout) → l ≡ layout_of (class_at k) → (a b : Bool)
      → a ≡ ltb f.zm 32 && ltb f.pg 8 && ltb f.rn 32 && ltb f.zt 32
      → b ≡ not (misextends (eqb l.xs 1) f.extension)
      → a && b ≡ fits (class_at k) (Scatter f)
  unfolding fits every
  scatter-fit e f l g a b p q =
      let s = scattered k h e in
      let zm = sym s.first in
      let pg = sym s.pg in
      let rn = sym s.second in
      let zt = sym s.zt in
      ap₂ ◌&&◌
      (p
      ∙ and4 (ltb f.zm 32) (ltb f.pg 8) (ltb f.rn 32) (ltb f.zt 32)
      ∙ (λ i. ltb f.zm (2 ^ zm i) && (ltb f.pg (2 ^ pg i) && (ltb f.rn (2 ^ rn i) && (ltb f.zt (2 ^ zt i) && true))))
      ∙ sym (and-true _))
      (q
      ∙ ap (λ (y : Layout). not (misextends (eqb y.xs 1) f.extension)) g
      ∙ ap (λ (x : Bool). not (misextends x f.extension)) (has-xs (class_at k)))

  pub strided-fit : (class_at k).feature ≡ SME2 → (f : StridedFields) (l : Layout) → l ≡ layout_of (class_at k) → (a : Bool) (i : ℕ)
      → i ≡ imm_of l.nreg (2 ^ l.imm4) f.multiple
      → a
      ≡ ltb f.rm (2 ^ l.rm) && ltb f.pc 8 && ltb f.rn 32 && ltb (f.first / 16) 2 && ltb (f.first % 16) (2 ^ l.zt) && ltb i (2 ^ l.imm4)
      → a ≡ fits (class_at k) (Strided f)
  unfolding fits every
  strided-fit e f l g a i q p =
      let s = striding k h e in
      let pc = sym s.pc in
      let rn = sym s.rn in
      let t = sym s.t in
      p
      ∙ and6 (ltb f.rm (2 ^ l.rm)) (ltb f.pc 8) (ltb f.rn 32) (ltb (f.first / 16) 2) (ltb (f.first % 16) (2 ^ l.zt)) (ltb i (2 ^ l.imm4))
      ∙ ap
      (λ (n : ℕ).
      ltb f.rm (2 ^ l.rm)
      && (ltb f.pc 8 && (ltb f.rn 32 && true))
      && not (not (ltb (f.first / 16) 2 && ltb (f.first % 16) (2 ^ l.zt)) || not (ltb n (2 ^ l.imm4)))
      && true)
      q
      ∙ (λ j.
      ltb f.rm (2 ^ (g j).rm)
      && (ltb f.pc (2 ^ pc j) && (ltb f.rn (2 ^ rn j) && true))
      && not
      (not (ltb (f.first / 16) (2 ^ t j) && ltb (f.first % 16) (2 ^ (g j).zt))
      || not (ltb (imm_of (g j).nreg (2 ^ (g j).imm4) f.multiple) (2 ^ (g j).imm4)))
      && true)

  pub quadword-fit : (class_at k).feature ≡ SVE2p1 → (f : QuadwordFields) (a : Bool)
      → a ≡ ltb f.rm 32 && ltb f.pg 8 && ltb f.zn 32 && ltb f.zt 32
      → a ≡ fits (class_at k) (Quadword f)
  unfolding fits every
  quadword-fit e f a p =
      let s = quad k h e in
      let rm = sym s.first in
      let pg = sym s.pg in
      let zn = sym s.second in
      let zt = sym s.zt in
      p
      ∙ and4 (ltb f.rm 32) (ltb f.pg 8) (ltb f.zn 32) (ltb f.zt 32)
      ∙ (λ i. ltb f.rm (2 ^ rm i) && (ltb f.pg (2 ^ pg i) && (ltb f.zn (2 ^ zn i) && (ltb f.zt (2 ^ zt i) && true))))
      ∙ sym (and-true _)
      ∙ sym (and-true _)

pub scatter-word : (c : Class) (f : ScatterFields) (b x s : ℕ) → b ≡ c.base → x ≡ xs_of f.extension
    → s ≡ f.zm * 65536 + x * 16384 + f.pg * 1024 + f.rn * 32 + f.zt → b + s ≡ c.base + placed (values_in c (Scatter f))
scatter-word c f b x s p q r = omega arith

pub strided-word : (c : Class) (f : StridedFields) (l : Layout) (b i s : ℕ) → l ≡ layout_of c → b ≡ c.base
    → i ≡ imm_of l.nreg (2 ^ l.imm4) f.multiple
    → s ≡ f.rm * 65536 + i * 65536 + f.pc * 1024 + f.rn * 32 + f.first → b + s ≡ c.base + placed (values_in c (Strided f))
strided-word c f l b i s g p q r =
    let v : i ≡ imm_of c.nreg (2 ^ width c imm4) f.multiple = q ∙ ap (λ (y : Layout). imm_of y.nreg (2 ^ y.imm4) f.multiple) g in
    let z : f.first % 16 * 2 ^ low (zt_of c) ≡ f.first % 16 * 1 = ap (λ (n : ℕ). f.first % 16 * 2 ^ n) (zt-low c) in
    omega arith

pub quadword-word : (c : Class) (f : QuadwordFields) (b s : ℕ) → b ≡ c.base
    → s ≡ f.rm * 65536 + f.pg * 1024 + f.zn * 32 + f.zt → b + s ≡ c.base + placed (values_in c (Quadword f))
quadword-word c f b s p q = omega arith

-- ---- the row that is found

module _ (s : Store) where
  pub not-found : None ≡ listed (row_for s) → None ≡ encode_of s
  not-found e = encode-out s (row_for s) refl (let f = unknown-row (row_for s) e in omega arith)

  module _ (r : Row) (e : Some r ≡ listed (row_for s)) where
    pub row-listed : row_for s < length classes
    row-listed = (known-row (row_for s) r e).0

    pub row-feature : (class_for s).feature ≡ feature_of s
    row-feature = found-feature (number_of s) (row_for s) (feature_of s) refl row-listed

    pub row-layout : r.layout ≡ layout_of (class_for s)
    row-layout = ap (λ (y : Row). y.layout) (known-row (row_for s) r e).1

    pub row-base : r.base ≡ (class_for s).base
    row-base = ap (λ (y : Row). y.base) (known-row (row_for s) r e).1

    pub row-bounded : Bounded r.layout
    row-bounded = bounded r (is-listed (row_for s) r e).0

    pub row-base-bounded : r.base ≤ 0xF0000000
    row-base-bounded = base-bounded r (is-listed (row_for s) r e).0
