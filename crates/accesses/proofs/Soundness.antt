-- The access of a store that isn't refused is sound on a machine with registers of vb bytes. Assumes nothing.
use mathlib.Core.Path.{◌≡◌, sym, ap, ◌∙◌, subst}
use Prim.Native.Nat.{ℕ, zero, suc, ◌+◌, ◌-◌, ◌*◌, ◌/◌, ◌%◌, ◌^◌, ◌≤◌, ◌<◌}
use native.Mathlib.Nat.{div-mul-le_self, le-div_iff_mul-le, suc-mul}
use mathlib.Core.Logic.{◌⊎◌, inl, inr}
use native.Mathlib.Omega.{arith}
use lib.Pow.{pow_pos, pow_mono}
use Rattle.encoding.specs.Classes.{Class}
use Rattle.encoding.specs.Encoding.{class_for}
use Rattle.encoding.specs.declared.ScatterFields.{ScatterFields}
use Rattle.encoding.specs.declared.StridedFields.{StridedFields}
use Rattle.encoding.specs.declared.QuadwordFields.{QuadwordFields}
use Rattle.encoding.specs.declared.Store.TheVariants.{Scatter, Strided, Quadword}
use Rattle.elements.specs.Machine.{Machine}
use Rattle.elements.specs.Counter.{counter_of}
use Rattle.elements.specs.Stores.{step_of, per_register, stride_of}
use Rattle.elements.specs.Accesses.{is_width, VectorSound, StridedSound, scatter_access, quadword_access, strided_access}
use Rattle.elements.specs.Accesses.{exponent_of, spacing, range_of}
use Rattle.elements.proofs.Numbers.{per-is}
use Rattle.elements.proofs.Shapes.{ScatterIn, QuadwordIn, StridedIn}
use Rattle.accesses.proofs.Masks.{range-order, range-most}
use Rattle.accesses.proofs.Listing.{few, divides}

module _ (m : Machine) (c : Class) (e : c.esize / 8 * 8 ≡ c.esize) where
  per-whole : per_register m c * step_of c ≤ m.vb
  per-whole = subst (λ (n : ℕ). n * step_of c ≤ m.vb) (per-is m.vb c e) (div-mul-le_self m.vb (step_of c))

eight-step : (n : ℕ) → (n ≡ 8) ⊎ (n ≡ 4) → 8 ≤ n → n ≡ 8
eight-step n (inl e) h = e
eight-step n (inr e) h = absurd (omega arith)

module _ (m : Machine) (low : 16 ≤ m.vb) (high : m.vb ≤ 256) (sixteen : m.vb % 16 ≡ 0) where
  pub scatter-sound : (f : ScatterFields) → ScatterIn f (class_for (Scatter f))
      → VectorSound (scatter_access m (class_for (Scatter f)) f) m.vb
  scatter-sound f s =
      record {
        scale = omega (arith, s.small.scale);
        offset = s.offset;
        some = s.small.size.0;
        size = s.small.size.1;
        steps = s.steps;
        wide = s.small.step.1;
        width = s.width;
        doubleword = λ q. eight-step (step_of (class_for (Scatter f))) s.eight-or-four (omega (arith, s.small.size.1));
        whole = per-whole m (class_for (Scatter f)) s.eight;
        low = low;
        high = high;
        eighth = omega arith;
        offsets = s.zm;
        governing = omega (arith, s.pg);
        stored = s.zt;
      }

  pub quadword-sound : (f : QuadwordFields) → QuadwordIn f (class_for (Quadword f))
      → VectorSound (quadword_access m (class_for (Quadword f)) f) m.vb
  quadword-sound f s =
      record {
        scale = omega arith;
        offset = omega (arith, s.sixteen);
        some = s.small.size.0;
        size = s.small.size.1;
        steps = inr s.sixteen;
        wide = s.small.step.1;
        width = ap is_width s.whole;
        doubleword = λ q. absurd (omega (arith, s.whole));
        whole = per-whole m (class_for (Quadword f)) s.eight;
        low = low;
        high = high;
        eighth = omega arith;
        offsets = s.zn;
        governing = omega (arith, s.pg);
        stored = s.zt;
      }

  pub strided-sound : (f : StridedFields) → StridedIn f (class_for (Strided f))
      → StridedSound (strided_access m (class_for (Strided f)) f) m.vb
  unfolding range_of
  strided-sound f s =
      let c = class_for (Strided f) in
      let v = counter_of m f.pc in
      let g = spacing (exponent_of c) v in
      let n = c.nreg * (m.vb / 2 ^ g) in
      let three = few m f s sixteen in
      record {
        order = range-order m.vb v g n;
        most = range-most m.vb v g n;
        some = s.small.size.0;
        size = subst (λ (k : ℕ). k ≤ 2 ^ g) (sym s.size) (pow_mono {j = g} (omega arith));
        whole = divides m f s sixteen g three;
        per = (le-div_iff_mul-le (pow_pos g)).1 (omega (arith, pow_mono three));
        nreg = s.small.nreg;
        high = high;
        last = registers c.nreg (stride_of c) f.first s.nreg s.registers s.first s.zt;
      }
    where
      less : (n d : ℕ) → 0 < n → (n - 1) * d + d ≡ n * d
      less zero d h = absurd (omega arith)
      less (suc n) d h =
          let q : suc n - 1 ≡ n = omega arith in
          ap (λ (k : ℕ). k * d + d) q ∙ sym (suc-mul n d)

      registers : (n d r : ℕ) → 0 < n → n * d ≡ 16 → r / 16 < 2 → r % 16 < d → r + (n - 1) * d < 32
      registers n d r h q a b = omega (arith, less n d h)
