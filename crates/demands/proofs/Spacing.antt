-- Document 02 (vii): a strided store's active elements, whatever their width. Assumes nothing.
use Rattle.std.specs.Prelude.{Some}
use mathlib.Core.Path.{◌≡◌, sym, ap, ◌∙◌, subst}
use Prim.Native.Nat.{ℕ, ◌+◌, ◌-◌, ◌*◌, ◌/◌, ◌%◌, ◌^◌, ◌≤◌, ◌<◌}
use mathlib.Core.Bool.{false, ◌&&◌}
use native.Mathlib.Omega.{arith}
use lib.Dec.{eqb, leb, ltb}
use lib.ListN.{length}
use lib.Pow.{pow_mono}
use Rattle.encoding.specs.Decoding.{decode_of}
use Rattle.encoding.specs.Encoding.{class_for, refused}
use Rattle.encoding.specs.declared.Store.TheVariants.{Strided}
use Rattle.encoding.specs.declared.StridedFields.{StridedFields}
use Rattle.encoding.proofs.Statements.{known-accepted}
use Rattle.endian.proofs.Order.{two}
use Rattle.writes.specs.Elements.{InWindow, InSpace, steps_of}
use Rattle.writes.proofs.Counting.{in-space}
use Rattle.window.proofs.Windows.{window-inv}
use Rattle.elements.specs.Counter.{lowest_set, counter_of}
use Rattle.elements.specs.Elements.{elements}
use Rattle.elements.specs.Machine.{Machine}
use Rattle.elements.specs.Accesses.{exponent_of, spacing, range_of, between, strided_active, strided_access}
use Rattle.elements.proofs.Shapes.{strided-in}
use Rattle.accesses.proofs.Listing.{strided-active}
use Rattle.verdicts.specs.Verdicts.{elements_for, table}
use Rattle.verdicts.specs.Statements.{before}
use Rattle.verdicts.specs.declared.Flags.{Flags}
use Rattle.verdicts.proofs.Rows.{none-parted}
use Rattle.checks.specs.Checking.{Sound}
use Rattle.demands.specs.Demand3.{DoneOver}
use Rattle.demands.specs.Spacing.{bytes_of, unit_in, gap_in, StridedSpaced}
use Rattle.demands.proofs.Storing.{settled, all-inside}
use Rattle.demands.proofs.Effects.{of_size, steps-joined, steps_apart}

-- the larger of two powers of 2 has the larger exponent
larger : (x l : ℕ) → 2 ^ (x + (l - x)) ≡ 2 ^ x + (2 ^ l - 2 ^ x)
larger x l =
    two x l
    (λ h.
    let w : x + (l - x) ≡ l = omega arith in
    let k : x ≤ l = omega arith in
    ap (λ (n : ℕ). 2 ^ n) w ∙ omega (arith, pow_mono k))
    (λ h. let w : x + (l - x) ≡ x = omega arith in ap (λ (n : ℕ). 2 ^ n) w ∙ omega (arith, pow_mono h))

module _ (m : Machine) (f : StridedFields) (a : refused (Strided f) ≡ false) where
  gap_is : 2 ^ spacing (exponent_of (class_for (Strided f))) (counter_of m f.pc) ≡ gap_in m f
  gap_is =
      larger (exponent_of (class_for (Strided f))) (lowest_set (counter_of m f.pc))
      ∙ ap (λ (n : ℕ). n + (unit_in m f - n)) (sym (strided-in f a).size)

-- of a done store
module _ (fl : Flags) (m : Machine) (W L word : ℕ) (f : StridedFields) (d : DoneOver fl m W L word)
    (e : decode_of word ≡ Some (Strided f)) where
  accepted : refused (Strided f) ≡ false
  accepted = known-accepted word (Strided f) e

  record Ready : Type 0 where
    buffers : Sound m.vb m.z m.p
    most : L ≤ 65536
    top : W + L ≤ 2 ^ 64
    fit : InWindow W L (elements m (Strided f))
    space : InSpace (elements m (Strided f))

  ready : Ready
  ready =
      let t = settled fl m W L word 0 (none-parted 7 (before 8 (table fl m W L (decode_of word) 0)) d.none_due).0 in
      let w = window-inv W L t.window in
      let fit : InWindow W L (elements m (Strided f)) =
      subst (InWindow W L) (ap (elements_for m) e) (all-inside fl m W L word d.none_due) in
      record {
        buffers = t.buffers;
        most = w.0;
        top = w.1;
        fit = fit;
        space = in-space W L (bytes_of f) (elements m (Strided f)) w.1 (of_size m t.buffers d.lent (Strided f) accepted) fit;
      }

  one-stretch : unit_in m f ≤ bytes_of f → steps_of (elements m (Strided f)) ≤ 1
  unfolding range_of
  one-stretch h =
      let r = ready in
      steps-joined m r.buffers d.lent f accepted W L r.most r.top r.fit r.space (gap_is m f accepted ∙ omega arith)

  with-gaps : bytes_of f < unit_in m f → steps_of (elements m (Strided f)) ≡ length (elements m (Strided f))
  unfolding range_of
  with-gaps h =
      let r = ready in
      steps_apart m r.buffers d.lent f accepted W L r.most r.top r.fit r.space (omega (arith, gap_is m f accepted))

pub strided-spaced : StridedSpaced
unfolding strided_active between range_of
strided-spaced =
    record {
      equally =
          λ m word f e sixteen.
          let a = known-accepted word (Strided f) e in
          let s = strided_access m (class_for (Strided f)) f in (
            s.low,
            s.high,
            (λ i h.
                strided-active m f (strided-in f a) sixteen i h
                ∙ ap
                (λ (g : ℕ). eqb (i * bytes_of f % g) 0 && (leb s.low (i * bytes_of f / g) && ltb (i * bytes_of f / g) s.high))
                (gap_is m f a)),
          );
      stretch = one-stretch;
      gaps = with-gaps;
    }
