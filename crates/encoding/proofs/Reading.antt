-- What the code's functions read and answer is what the definitions say. Assumes nothing.
use Rattle.std.specs.Prelude.{Option, Some, None}
use mathlib.Core.Path.{◌≡◌, refl, sym, ap, ◌∙◌, subst}
use mathlib.Core.Bool.{Bool, true, false, cond}
use Prim.Native.Nat.{ℕ, ◌+◌, ◌*◌, ◌/◌, ◌%◌, ◌^◌, ◌≤◌, ◌<◌}
use native.Mathlib.Nat.{div-one}
use native.Mathlib.Omega.{arith}
use lib.Dec.{eqb, ltb, ltb→lt, lt→ltb}
use lib.IntN.{ℤ}
use lib.ListN.{length}
use borrow.Author.Tests.{eq-eqb, ne_eqb}
use Rattle.encoding.specs.Classes.{imm4, xs, Zt3, Zt2, Class, classes, class_at, has, width, read}
use Rattle.encoding.specs.declared.Feature.{Feature}
use Rattle.encoding.specs.declared.Feature.TheVariants.{SVE, SME2, SVE2p1}
use Rattle.encoding.specs.Decoding.{extension_of, multiple_of, zt_of, store_as, store_of, index_of, decode_of}
use Rattle.encoding.specs.Encoding.{row_numbered, class_numbered}
use Rattle.encoding.specs.Layouts.{layout_of, listed, IsListed}
use Rattle.encoding.specs.declared.table.Row.{Row}
use Rattle.encoding.specs.declared.Extension.{Extension}
use Rattle.encoding.specs.declared.Extension.TheVariants.{Uxtw, Sxtw}
use Rattle.encoding.specs.declared.Layout.{Layout}
use Rattle.encoding.specs.declared.Store.{Store}
use Rattle.encoding.specs.declared.Store.TheVariants.{Scatter, Strided, Quadword}
use Rattle.encoding.proofs.Tests.{cond-true, cond-false}
use Rattle.encoding.proofs.Rows.{small_at, narrow_at, unknown-row, is-listed, scattered, striding, quad}

-- ---- extensions

pub uxtw : (v : ℕ) → v ≡ 0 → (Some Uxtw) ≡ extension_of true v
uxtw v e = sym (ap (λ (b : Bool). cond b (Some Uxtw) (Some Sxtw)) (eq-eqb v 0 e))

pub sxtw : (v : ℕ) → (v ≡ 0 → ⊥) → (Some Sxtw) ≡ extension_of true v
sxtw v f = sym (ap (λ (b : Bool). cond b (Some Uxtw) (Some Sxtw)) (ne_eqb v 0 f))

-- a class has xs where xs has a bit
pub has-xs : (c : Class) → eqb (width c xs) 1 ≡ has c xs
has-xs c = go (has c xs)
  where
    go : (b : Bool) → eqb (cond b 1 0) 1 ≡ b
    go true = refl
    go false = refl

-- Zt3 and Zt2 are a word's lowest bits
pub zt-whole : (c : Class) (w : ℕ) → w % 2 ^ width c (zt_of c) ≡ read c (zt_of c) w
zt-whole c w = go (has c Zt3)
  where
    go : (b : Bool) → w % 2 ^ width c (cond b Zt3 Zt2) ≡ read c (cond b Zt3 Zt2) w
    go true = ap (λ (x : ℕ). x % 2 ^ width c Zt3) (sym (div-one w))
    go false = ap (λ (x : ℕ). x % 2 ^ width c Zt2) (sym (div-one w))

-- ---- stores

-- how large a row's numbers are
pub record Bounded (l : Layout) : Type 0 where
  pub nreg : l.nreg ≤ 4
  pub xs : (l.xs ≤ 5) × (1 ≤ 2 ^ l.xs) × (2 ^ l.xs ≤ 2)
  pub rm : (l.rm ≤ 5) × (1 ≤ 2 ^ l.rm) × (2 ^ l.rm ≤ 32)
  pub imm4 : (l.imm4 ≤ 5) × (1 ≤ 2 ^ l.imm4) × (2 ^ l.imm4 ≤ 16)
  pub zt : (l.zt ≤ 5) × (1 ≤ 2 ^ l.zt) × (2 ^ l.zt ≤ 8)

module _ (r : Row) (li : IsListed r) where
  numbered : r.number ≡ (class_numbered r.number).number
  numbered = ap (λ (x : Row). x.number) li.1

  formed : (x : Feature) → r.feature ≡ x → (class_numbered r.number).feature ≡ x
  formed x f = sym (ap (λ (x : Row). x.feature) li.1) ∙ f

  laid : r.layout ≡ layout_of (class_numbered r.number)
  laid = ap (λ (x : Row). x.layout) li.1

  pub bounded : Bounded r.layout
  bounded =
      let s = small_at (row_numbered r.number) li.0 in
      let n = narrow_at (row_numbered r.number) li.0 in
      subst Bounded (sym laid)
      (record {
        nreg = s.nreg;
        xs = (n.0, s.xs.0, s.xs.1);
        rm = (n.1, s.rm.0, s.rm.1);
        imm4 = (n.2, s.imm4.0, s.imm4.1);
        zt = (n.3, s.zt.0, s.zt.1);
      })

  pub base-bounded : r.base ≤ 0xF0000000
  base-bounded = subst (λ (x : Row). x.base ≤ 0xF0000000) (sym li.1) (small_at (row_numbered r.number) li.0).base

module _ (r : Row) (w : ℕ) (li : IsListed r) where
  pub scatter-is : r.feature ≡ SVE → (e : Option Extension) → e ≡ extension_of (eqb r.layout.xs 1) (w / 16384 % 2 ^ r.layout.xs)
      → Scatter (record { class = r.number; zm = w / 65536 % 32; extension = e; pg = w / 1024 % 8; rn = w / 32 % 32; zt = w % 32 })
      ≡ store_of (class_numbered r.number) w
  unfolding store_of
  scatter-is f e q =
      let c = class_numbered r.number in
      let s = scattered (row_numbered r.number) li.0 (formed r li SVE f) in
      let number = numbered r li in
      let x : e ≡ extension_of (has c xs) (read c xs w) =
      q
      ∙ ap (λ (y : Layout). extension_of (eqb y.xs 1) (w / 16384 % 2 ^ y.xs)) (laid r li)
      ∙ ap (λ (b : Bool). extension_of b (read c xs w)) (has-xs c) in
      let zm = sym s.first in
      let pg = sym s.pg in
      let rn = sym s.second in
      let zt = sym s.zt in
      let whole = sym (div-one w) in
      (λ i.
      Scatter
      (record {
        class = number i;
        zm = w / 65536 % 2 ^ zm i;
        extension = x i;
        pg = w / 1024 % 2 ^ pg i;
        rn = w / 32 % 2 ^ rn i;
        zt = whole i % 2 ^ zt i;
      }))
      ∙ ap (λ (y : Feature). store_as y c w) (sym (formed r li SVE f))

  pub strided-is : r.feature ≡ SME2 → (m : ℤ) → m ≡ multiple_of r.layout.nreg (w / 65536 % 2 ^ r.layout.imm4)
      → Strided
      (record {
        class = r.number;
        rm = w / 65536 % 2 ^ r.layout.rm;
        multiple = m;
        pc = w / 1024 % 8;
        rn = w / 32 % 32;
        first = w / 16 % 2 * 16 + w % 2 ^ r.layout.zt;
      })
      ≡ store_of (class_numbered r.number) w
  unfolding store_of
  strided-is f m q =
      let c = class_numbered r.number in
      let s = striding (row_numbered r.number) li.0 (formed r li SME2 f) in
      let number = numbered r li in
      let g = laid r li in
      let x : m ≡ multiple_of c.nreg (read c imm4 w) = q ∙ ap (λ (y : Layout). multiple_of y.nreg (w / 65536 % 2 ^ y.imm4)) g in
      let pc = sym s.pc in
      let rn = sym s.rn in
      let t = sym s.t in
      let zt : w % 2 ^ r.layout.zt ≡ read c (zt_of c) w = ap (λ (y : Layout). w % 2 ^ y.zt) g ∙ zt-whole c w in
      (λ i.
      Strided
      (record {
        class = number i;
        rm = w / 65536 % 2 ^ (g i).rm;
        multiple = x i;
        pc = w / 1024 % 2 ^ pc i;
        rn = w / 32 % 2 ^ rn i;
        first = w / 16 % 2 ^ t i * 16 + zt i;
      }))
      ∙ ap (λ (y : Feature). store_as y c w) (sym (formed r li SME2 f))

  pub quadword-is : r.feature ≡ SVE2p1
      → Quadword (record { class = r.number; rm = w / 65536 % 32; pg = w / 1024 % 8; zn = w / 32 % 32; zt = w % 32 })
      ≡ store_of (class_numbered r.number) w
  unfolding store_of
  quadword-is f =
      let c = class_numbered r.number in
      let s = quad (row_numbered r.number) li.0 (formed r li SVE2p1 f) in
      let number = numbered r li in
      let rm = sym s.first in
      let pg = sym s.pg in
      let zn = sym s.second in
      let zt = sym s.zt in
      let whole = sym (div-one w) in
      (λ i.
      Quadword
      (record {
        class = number i;
        rm = w / 65536 % 2 ^ rm i;
        pg = w / 1024 % 2 ^ pg i;
        zn = w / 32 % 2 ^ zn i;
        zt = whole i % 2 ^ zt i;
      }))
      ∙ ap (λ (y : Feature). store_as y c w) (sym (formed r li SVE2p1 f))

-- ---- decoding

module _ (w k : ℕ) (e : k ≡ index_of w) where
  pub undefined : length classes ≤ k → None ≡ decode_of w
  unfolding decode_of
  undefined h =
      sym (cond-false (ltb (index_of w) (length classes)) (Some (store_of (class_at (index_of w)) w)) None
      (λ t. omega (arith, ltb→lt (index_of w) (length classes) t)))

  pub defined : k < length classes → (s : Store) → s ≡ store_of (class_at k) w → Some s ≡ decode_of w
  unfolding decode_of
  defined h s f =
      ap Some (f ∙ ap (λ (j : ℕ). store_of (class_at j) w) e)
      ∙ sym (cond-true (ltb (index_of w) (length classes)) (Some (store_of (class_at (index_of w)) w)) None
      (lt→ltb (index_of w) (length classes) (omega arith)))

module _ (w : ℕ) where
  pub none-found : None ≡ listed (index_of w) → None ≡ decode_of w
  none-found e = undefined w (index_of w) refl ((let f = unknown-row (index_of w) e in omega arith))

  pub row-decoded : (r : Row) → Some r ≡ listed (index_of w) → (s : Store) → s ≡ store_of (class_numbered r.number) w → Some s ≡ decode_of w
  row-decoded r e s f =
      let l = is-listed (index_of w) r e in
      defined w (row_numbered r.number) l.1 l.0.0 s f
