-- An element of a store as its access's, and the refusals in their order. Assumes nothing.
use Rattle.std.specs.Prelude.{Option, Some, None, Err}
use mathlib.Core.Path.{◌≡◌, refl, sym, ap, ap₂, ◌∙◌}
use mathlib.Core.Bool.{Bool, true, false, not, cond, ◌&&◌, ◌||◌}
use mathlib.Core.List.{List}
use Prim.Native.Nat.{ℕ, zero, suc, ◌+◌, ◌*◌, ◌/◌, ◌%◌, ◌^◌, ◌≤◌, ◌<◌}
use native.Mathlib.Nat.{zero-mul, mul-mod_left, mul-div_cancel, mul-div-mul_right}
use native.Mathlib.Omega.{arith}
use lib.Arith.{mod-mul}
use lib.Dec.{eqb}
use lib.ListN.{length}
use borrow.Author.Tests.{eq-eqb, ne_eqb, lt-ltb, le-ltb}
use Rattle.encoding.specs.Decoding.{decode_of}
use Rattle.encoding.specs.Encoding.{class_for, feature_of}
use Rattle.encoding.specs.declared.Feature.TheVariants.{SME2}
use Rattle.encoding.specs.declared.ScatterFields.{ScatterFields}
use Rattle.encoding.specs.declared.StridedFields.{StridedFields}
use Rattle.encoding.specs.declared.QuadwordFields.{QuadwordFields}
use Rattle.encoding.specs.declared.Store.{Store}
use Rattle.encoding.specs.declared.Store.TheVariants.{Scatter, Strided, Quadword}
use Rattle.endian.specs.LittleEndian.{Bytes}
use Rattle.writes.specs.Elements as W
use Rattle.endian.proofs.Order.{two, both, absurdly}
use Rattle.elements.specs.Machine.{Machine, register}
use Rattle.elements.specs.Counter.{highest}
use Rattle.elements.specs.Stores.{step_of, size_of, per_register, stride_of, count_of}
use Rattle.elements.specs.Accesses.{vector_active, vector_address, vector_element, strided_active}
use Rattle.elements.specs.Accesses.{scatter_access, quadword_access, strided_access}
use Rattle.elements.specs.declared.VectorAccess.{VectorAccess}
use Rattle.elements.specs.declared.StridedAccess.{StridedAccess}
use Rattle.elements.proofs.Shapes.{ScatterIn, QuadwordIn, StridedIn}
use Rattle.accesses.proofs.Listing.{scatter-count, scatter-active, scatter-element, quadword-count, quadword-active, quadword-element}
use Rattle.accesses.proofs.Listing.{strided-whole, strided-active, strided-address}
use Rattle.verdicts.specs.Verdicts.{one_of_five, length_ok, registers_ok}
use Rattle.verdicts.specs.declared.Flags.{Flags}
use Rattle.checks.proofs.Order.{five-power}
use Rattle.inspection.specs.Inspection.{counted, inspected_at, inspected_for, is_strided, length_for, inspected_of}
use Rattle.inspection.specs.Steps.{vector_inspected, strided_inspected}
use Rattle.inspection.specs.declared.InspectError.TheVariants.{Length, Registers}
use Rattle.inspection.specs.declared.Inspected.{Inspected}

-- ---- an element of an access, by its count

abbrev pub past-all : ℕ → Inspected
past-all n = record { count = n; element = None }

abbrev pub one_of : Bool → ℕ → ℕ → ℕ → ℕ → Inspected
one_of active address index size n =
    record { count = n; element = Some (record { active = active; address = address; index = index; size = size }) }

-- element e of n, by whether it is one
abbrev counted_by : ℕ → Bool → ℕ → ℕ → ℕ → Bool → Inspected
counted_by n active address index size b =
    record { count = n; element = cond b (Some (record { active = active; address = address; index = index; size = size })) None }

past : (e n : ℕ) (active : Bool) (address index size : ℕ) → n ≤ e → past-all n ≡ counted e n active address index size
past e n active address index size h = sym (ap (counted_by n active address index size) (le-ltb e n h))

found : (e n : ℕ) (active : Bool) (address index size : ℕ) → e < n
    → one_of active address index size n ≡ counted e n active address index size
found e n active address index size h = sym (ap (counted_by n active address index size) (lt-ltb e n h))

module _ (v : VectorAccess) (vb : ℕ) (z p : List ℕ) (e : ℕ) where
  pub vector-past : v.count ≤ e → past-all v.count ≡ vector_inspected v vb z p e
  unfolding vector_inspected
  vector-past h = past e v.count _ _ _ _ h

  pub vector-found : (o g : List ℕ) (active : Bool) (address : ℕ) → e < v.count → o ≡ register vb z v.offsets
      → g ≡ register (vb / 8) p v.governing → active ≡ vector_active v g e → address ≡ vector_address v o e
      → one_of active address (v.stored * vb + e * v.step) v.size v.count ≡ vector_inspected v vb z p e
  unfolding vector_inspected
  vector-found o g active address h qo qg r s =
      ap₂ (λ (b : Bool) (a : ℕ). one_of b a (v.stored * vb + e * v.step) v.size v.count)
      (r ∙ ap (λ (y : List ℕ). vector_active v y e) qg) (s ∙ ap (λ (y : List ℕ). vector_address v y e) qo)
      ∙ found e v.count _ _ _ _ h

module _ (s : StridedAccess) (vb e : ℕ) where
  abbrev count : ℕ
  count = s.nreg * (vb / s.size)

  -- the element's first byte in the Z buffer
  abbrev index : ℕ
  index = (s.first + e * s.size / vb * s.stride) * vb + e * s.size % vb

  pub strided-past : count ≤ e → past-all count ≡ strided_inspected s vb e
  unfolding strided_inspected
  strided-past h = past e count _ _ _ _ h

  pub strided-found : (active : Bool) (address : ℕ) → e < count → active ≡ strided_active s (e * s.size)
      → address ≡ (s.start + e * s.size) % 2 ^ 64 → one_of active address index s.size count ≡ strided_inspected s vb e
  unfolding strided_inspected
  strided-found active address h r q =
      ap₂ (λ (b : Bool) (a : ℕ). one_of b a index s.size count) r q ∙ found e count _ _ _ _ h

-- ---- a store's element is its access's

counted_same : (e : ℕ) {n n' a a' index index' : ℕ} {b b' : Bool} (size : ℕ) → n ≡ n' → b ≡ b' → a ≡ a' → index ≡ index'
    → counted e n b a index size ≡ counted e n' b' a' index' size
counted_same e size q r s t = λ i. counted e (q i) (r i) (s i) (t i) size

module _ (m : Machine) (e : ℕ) where
  pub scatter-inspected : (f : ScatterFields) → ScatterIn f (class_for (Scatter f)) → Bytes m.z
      → vector_inspected (scatter_access m (class_for (Scatter f)) f) m.vb m.z m.p e ≡ inspected_at m (Scatter f) e
  unfolding inspected_at vector_inspected vector_element
  scatter-inspected f s b =
      let a = ap (λ (y : W.Element). y.address) (scatter-element m b f s e) in
      sym (counted_same e _ (scatter-count m f s) (scatter-active m f s e) a refl)

  pub quadword-inspected : (f : QuadwordFields) → QuadwordIn f (class_for (Quadword f))
      → vector_inspected (quadword_access m (class_for (Quadword f)) f) m.vb m.z m.p e ≡ inspected_at m (Quadword f) e
  unfolding inspected_at vector_inspected vector_element
  quadword-inspected f s =
      let a = ap (λ (y : W.Element). y.address) (quadword-element m f s e) in
      sym (counted_same e _ (quadword-count m f s) (quadword-active m f s e) a refl)

  pub strided-inspected : (f : StridedFields) → StridedIn f (class_for (Strided f)) → 16 ≤ m.vb → m.vb % 16 ≡ 0
      → strided_inspected (strided_access m (class_for (Strided f)) f) m.vb e ≡ inspected_at m (Strided f) e
  unfolding inspected_at strided_inspected
  strided-inspected f s low sixteen =
      let c = class_for (Strided f) in
      let k = size_of c in
      let p = per_register m c in
      let n = count_of m (Strided f) in
      let w : p * k ≡ m.vb = strided-whole m f s sixteen in
      let o : 0 < k = s.small.size.0 in
      let many : p ≡ m.vb / k = sym (ap (λ (y : ℕ). y / k) (sym w) ∙ mul-div_cancel p o) in
      let h : 0 < p = some p k (omega arith) in
      let row : e / p ≡ e * k / m.vb = sym (ap (λ (y : ℕ). e * k / y) (sym w) ∙ mul-div-mul_right e p o) in
      let column : e % p * step_of c ≡ e * k % m.vb =
      ap (λ (y : ℕ). e % p * y) (s.step ∙ sym s.size)
      ∙ sym
      (ap (λ (y : ℕ). e * k % y) (sym w) ∙ mod-mul (e * k) h o
      ∙ omega (arith, mul-mod_left e k, ap (λ (y : ℕ). y % p * k) (mul-div_cancel e o))) in
      let index = ap₂ (λ (y x : ℕ). (f.first + y * stride_of c) * m.vb + x) row column in
      let count = ap (λ (y : ℕ). c.nreg * y) many in
      two e n
      (λ l. sym (counted_same e k count (strided-active m f s sixteen e l) (strided-address m f s sixteen e) index))
      (λ l. sym (past e _ _ _ _ _ (omega (arith, count))) ∙ ap past-all (sym count) ∙ past e n _ _ _ _ l)
    where
      some : (a b : ℕ) → 16 ≤ a * b → 0 < a
      some zero b l = absurd (omega (arith, zero-mul b))
      some (suc a) b l = omega arith

-- ---- refusals in their order

-- past 1 VB is a length of the machine's, and a strided word's is one of the five
pub length-for-ok : (f : Flags) (vb : ℕ) (d : Option Store) → length_for f vb d ≡ true → length_ok f.early f.streaming vb ≡ true
unfolding length_for
length-for-ok f vb d e = (both (length_ok f.early f.streaming vb) (not (is_strided d) || one_of_five vb) e).0

pub length-for-power : (f : Flags) (vb : ℕ) (s : Store) → length_for f vb (Some s) ≡ true → feature_of s ≡ SME2 → 4 * vb ≡ 2 ^ highest vb
unfolding length_for
length-for-power f vb (Strided g) e q = five-power vb (both (length_ok f.early f.streaming vb) (one_of_five vb) e).1
length-for-power f vb (Scatter g) e q = absurdly cc
length-for-power f vb (Quadword g) e q = absurdly cc

module _ (f : Flags) (m : Machine) (word e : ℕ) where
  pub inspected-length : (b : Bool) → b ≡ length_for f m.vb (decode_of word) → b ≡ false → Err Length ≡ inspected_of f m word e
  unfolding inspected_of
  inspected-length b q t =
      sym
      (ap (λ (y : Bool). cond y (Err Length) (cond (not (registers_ok m)) (Err Registers) (inspected_for m (decode_of word) e))) (ap not (sym q ∙ t)))

  module _ (b : Bool) (q : b ≡ length_for f m.vb (decode_of word)) (t : b ≡ true) where
    past-1 : inspected_of f m word e ≡ cond (not (registers_ok m)) (Err Registers) (inspected_for m (decode_of word) e)
    unfolding inspected_of
    past-1 =
        ap (λ (y : Bool). cond y (Err Length) (cond (not (registers_ok m)) (Err Registers) (inspected_for m (decode_of word) e))) (ap not (sym q ∙ t))

    by-registers : (d : Bool) → registers_ok m ≡ d → inspected_of f m word e ≡ cond (not d) (Err Registers) (inspected_for m (decode_of word) e)
    by-registers d r = past-1 ∙ ap (λ (y : Bool). cond (not y) (Err Registers) (inspected_for m (decode_of word) e)) r

    pub inspected-z : (length m.z ≡ 32 * m.vb → ⊥) → Err Registers ≡ inspected_of f m word e
    unfolding registers_ok
    inspected-z h =
        sym (by-registers false (ap (λ (y : Bool). y && eqb (length m.p) (2 * m.vb)) (ne_eqb (length m.z) (32 * m.vb) h)))

    module _ (qz : length m.z ≡ 32 * m.vb) where
      pub inspected-p : (length m.p ≡ 2 * m.vb → ⊥) → Err Registers ≡ inspected_of f m word e
      unfolding registers_ok
      inspected-p h =
          sym (by-registers false (ap₂ ◌&&◌ (eq-eqb (length m.z) (32 * m.vb) qz) (ne_eqb (length m.p) (2 * m.vb) h)))

      module _ (qp : length m.p ≡ 2 * m.vb) where
        pub inspected-decoded : (d : Option Store) → d ≡ decode_of word → inspected_for m d e ≡ inspected_of f m word e
        unfolding registers_ok
        inspected-decoded d r =
            ap (λ (y : Option Store). inspected_for m y e) r
            ∙ sym (by-registers true (ap₂ ◌&&◌ (eq-eqb (length m.z) (32 * m.vb) qz) (eq-eqb (length m.p) (2 * m.vb) qp)))
