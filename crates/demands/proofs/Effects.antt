-- What a done store comes with: its elements lie in the window, and its net effect is within the sizes. Assumes nothing.
use Rattle.std.specs.Prelude.{Some}
use mathlib.Core.Path.{◌≡◌, sym, ap, ◌∙◌, subst}
use Prim.Native.Nat.{ℕ, suc, ◌+◌, ◌-◌, ◌*◌, ◌/◌, ◌^◌, ◌≤◌, ◌<◌}
use mathlib.Core.Bool.{true, false}
use mathlib.Core.List.{List}
use mathlib.Core.Option.{none}
use native.Mathlib.Nat.{one-mul, mul-suc, mul-le-mul_left, mul-le-mul_right}
use native.Mathlib.Omega.{arith}
use lib.ListN.{length, drop}
use Rattle.encoding.specs.Decoding.{decode_of}
use Rattle.encoding.specs.Encoding.{row_for, class_for, refused}
use Rattle.encoding.specs.declared.Store.{Store}
use Rattle.encoding.specs.declared.Store.TheVariants.{Scatter, Strided, Quadword}
use Rattle.encoding.specs.declared.StridedFields.{StridedFields}
use Rattle.encoding.proofs.Rows.{small_at}
use Rattle.encoding.proofs.Statements.{accepted}
use Rattle.endian.specs.LittleEndian.{Bytes}
use Rattle.writes.specs.Elements.{Element, InSpace, InWindow, net_effect, steps_from, steps_of}
use Rattle.writes.specs.Encoding.{encode, Within}
use Rattle.writes.specs.Sets.{runs}
use Rattle.writes.specs.Sizes.{max_runs, max_bytes}
use Rattle.window.specs.Window.{window_ok}
use Rattle.writes.proofs.Counting.{OfSize, in-space, steps-length, runs-steps, length-net}
use Rattle.endian.proofs.LittleEndian.{bytes_take, bytes_drop}
use Rattle.endian.proofs.Order.{two}
use Rattle.writes.proofs.Runs.{length-encode}
use Rattle.writes.proofs.Statements.{net-effect-is-a-set}
use Rattle.window.proofs.Windows.{window-inv}
use Rattle.elements.specs.Machine.{Machine, vector}
use Rattle.elements.specs.Stores.{step_of, size_of, per_register, count_of, register_in, index_in}
use Rattle.elements.specs.Accesses.{StridedSound, strided_elements, strided_access}
use Rattle.elements.specs.declared.StridedAccess.{StridedAccess}
use Rattle.elements.specs.Elements.{active_at, element_at, elements}
use Rattle.elements.proofs.Shapes.{scatter-in, quadword-in, strided-in}
use Rattle.accesses.proofs.Actives.{actives-length, actives-sized}
use Rattle.accesses.proofs.Listing.{strided-elements}
use Rattle.accesses.proofs.Sizes.{reach-small}
use Rattle.accesses.proofs.Soundness.{strided-sound}
use Rattle.accesses.proofs.Spacing.{strided-count, strided-none, strided-joined, strided-apart}
use Rattle.verdicts.specs.Verdicts.{elements_for, patch_of, table}
use Rattle.verdicts.specs.Statements.{before}
use Rattle.verdicts.specs.declared.Flags.{Flags}
use Rattle.verdicts.proofs.Rows.{none-parted}
use Rattle.demands.specs.Demand3.{DoneOver, effect_for, patch_for}
use Rattle.checks.specs.Checking.{Sound}
use Rattle.demands.proofs.Sources.{whole, element-of}
use Rattle.demands.proofs.Storing.{settled, all-inside}

-- ---- how many elements, and how many runs

-- at most this many runs and bytes
pub record Sizes (m : Machine) (s : Store) : Type 0 where
  pub most-runs : ℕ
  pub most_bytes : ℕ
  pub runs : length (runs (net_effect (elements m s))) ≤ most-runs
  pub bytes : length (net_effect (elements m s)) ≤ most_bytes
  pub few : most-runs ≤ 512
  pub small : most_bytes ≤ 1024
  pub short : 4 + 12 * most-runs + most_bytes ≤ 6660

module _ (m : Machine) (o : Sound m.vb m.z m.p) (lent : Bytes m.z) where
  element-are-bytes : (s : Store) (e : ℕ) → Bytes (element_at m s e).bytes
  unfolding element_at
  element-are-bytes s e =
      let r = register_in m (class_for s) s e in
      bytes_take (size_of (class_for s)) (drop (index_in m (class_for s) s e) (vector m r))
      (bytes_drop (index_in m (class_for s) s e) (vector m r)
      (bytes_take m.vb (drop (r * m.vb) m.z) (bytes_drop (r * m.vb) m.z lent)))

  module _ (s : Store) (a : refused s ≡ false) where
    pub of_size : OfSize (size_of (class_for s)) (elements m s)
    unfolding elements
    of_size =
        actives-sized (active_at m s) (element_at m s) (size_of (class_for s)) (count_of m s) 0
        (λ i h. ((element-of m s i o a (omega arith)).0, element-are-bytes s i))

    -- no more runs than the elements start anew
    module _ (some : 1 ≤ size_of (class_for s)) (space : InSpace (elements m s)) where
      runs-most : length (runs (net_effect (elements m s))) ≤ steps_from none (elements m s)
      runs-most = runs-steps (size_of (class_for s)) (elements m s) some of_size space

      runs-all : length (runs (net_effect (elements m s))) ≤ count_of m s
      unfolding elements
      runs-all =
          omega (arith, runs-most, steps-length none (elements m s), actives-length (active_at m s) (element_at m s) (count_of m s) 0)

      bytes-all : length (net_effect (elements m s)) ≤ count_of m s * size_of (class_for s)
      unfolding elements
      bytes-all =
          omega (
            arith,
            length-net (size_of (class_for s)) (elements m s) of_size,
            mul-le-mul_right (size_of (class_for s)) (actives-length (active_at m s) (element_at m s) (count_of m s) 0),
          )

      -- scatter and quadword stores: at most 64 elements, of at most 256 bytes together
      vector-sizes : (class_for s).nreg ≡ 1 → (class_for s).esize / 8 * 8 ≡ (class_for s).esize → 4 ≤ step_of (class_for s)
          → size_of (class_for s) ≤ step_of (class_for s) → Sizes m s
      vector-sizes q e four k =
          let c = class_for s in
          let n : count_of m s ≡ per_register m c = ap (λ (j : ℕ). j * per_register m c) q ∙ one-mul (per_register m c) in
          let w = whole m c e in
          let f : per_register m c ≤ 64 = omega (arith, mul-le-mul_left (per_register m c) four, o.high) in
          let p : count_of m s * size_of c ≤ 256 =
          subst (λ (j : ℕ). j * size_of c ≤ 256) (sym n) (omega (arith, mul-le-mul_left (per_register m c) k, o.high)) in
          record {
            most-runs = 64;
            most_bytes = 256;
            runs = omega (arith, runs-all, n);
            bytes = omega (arith, bytes-all);
            few = omega arith;
            small = omega arith;
            short = omega arith;
          }

  -- strided stores: one stretch of at most 1,024 bytes, or at most 512 elements with gaps between them
  module _ (f : StridedFields) (a : refused (Strided f) ≡ false) (W L : ℕ) (most : L ≤ 65536) (top : W + L ≤ 2 ^ 64)
      (fit : InWindow W L (elements m (Strided f))) (space : InSpace (elements m (Strided f))) where
    abbrev access : StridedAccess
    access = strided_access m (class_for (Strided f)) f

    sound : StridedSound access m.vb
    sound = strided-sound m o.low o.high o.sixteen f (strided-in f a)

    are : elements m (Strided f) ≡ strided_elements access m.vb m.z
    are = strided-elements m f (strided-in f a) o.sixteen o.low

    inside : InWindow W L (strided_elements access m.vb m.z)
    inside = subst (InWindow W L) are fit

    abbrev count : ℕ
    count = access.high - access.low

    reaches : count * access.gap ≤ 1024
    reaches = reach-small access m.vb sound count (omega (arith, sound.most))

    some : 1 ≤ size_of (class_for (Strided f))
    some = sound.some

    bytes_count : length (net_effect (elements m (Strided f))) ≤ count * access.size
    bytes_count =
        omega (
          arith,
          length-net (size_of (class_for (Strided f))) (elements m (Strided f)) (of_size (Strided f) a),
          ap (λ (l : List Element). length l * access.size) are,
          ap (λ (n : ℕ). n * access.size) (strided-count access m.vb sound m.z),
        )

    pub steps-joined : access.gap ≡ access.size → steps_of (elements m (Strided f)) ≤ 1
    unfolding steps_from
    steps-joined g =
        two access.low access.high
        (λ h.
        omega (
          arith,
          ap (λ (l : List Element). steps_of l) are,
          strided-joined access m.vb sound m.z o.long_z W L most top inside g h,
        ))
        (λ h. omega (arith, ap (λ (l : List Element). steps_of l) (are ∙ strided-none access m.vb sound m.z h)))

    pub steps_apart : access.size < access.gap → steps_of (elements m (Strided f)) ≡ length (elements m (Strided f))
    steps_apart g =
        ap (λ (l : List Element). steps_of l) are
        ∙ strided-apart access m.vb sound m.z o.long_z W L most top inside g
        ∙ sym (ap length are ∙ strided-count access m.vb sound m.z)

    strided-sizes : Sizes m (Strided f)
    strided-sizes =
        two access.size access.gap
        (λ g.
        let n : length (elements m (Strided f)) ≡ count = ap length are ∙ strided-count access m.vb sound m.z in
        let l : 2 ≤ access.gap = omega (arith, some) in
        let k : count ≤ 512 = omega (arith, reaches, mul-le-mul_left count l) in
        let j : suc access.size ≤ access.gap = omega arith in
        let b : count * access.size + count ≤ 1024 = omega (arith, reaches, mul-le-mul_left count j, mul-suc count access.size) in
        record {
          most-runs = count;
          most_bytes = count * access.size;
          runs = omega (arith, runs-most (Strided f) a some space, steps_apart g, n);
          bytes = bytes_count;
          few = k;
          small = omega arith;
          short = omega arith;
        })
        (λ g.
        let e : access.gap ≡ access.size = omega (arith, sound.size) in
        record {
          most-runs = 1;
          most_bytes = 1024;
          runs = omega (arith, runs-most (Strided f) a some space, steps-joined e);
          bytes = omega (arith, bytes_count, reaches, ap (λ (n : ℕ). count * n) e);
          few = omega arith;
          small = omega arith;
          short = omega arith;
        })

  pub sizes : (s : Store) → refused s ≡ false → (W L : ℕ) → L ≤ 65536 → W + L ≤ 2 ^ 64 → InWindow W L (elements m s)
      → InSpace (elements m s) → Sizes m s
  sizes (Scatter f) a W L most top fit space =
      let s = scatter-in f a in
      vector-sizes (Scatter f) a s.small.size.0 space s.nreg s.eight s.four s.small.size.1
  sizes (Strided f) a W L most top fit space = strided-sizes f a W L most top fit space
  sizes (Quadword f) a W L most top fit space =
      let s = quadword-in f a in
      vector-sizes (Quadword f) a s.small.size.0 space s.nreg s.eight (omega (arith, s.sixteen)) s.small.size.1

-- ---- together

-- no more runs than steps
pub runs-within : (f : Flags) (m : Machine) (W L word : ℕ) (s : Store) → DoneOver f m W L word → decode_of word ≡ Some s
    → length (runs (net_effect (elements m s))) ≤ steps_of (elements m s)
runs-within f m W L word s d e =
    let t = settled f m W L word 0 (none-parted 7 (before 8 (table f m W L (decode_of word) 0)) d.none_due).0 in
    let x = t.store in
    let es = elements m x in
    let q : elements_for m (decode_of word) ≡ es = ap (elements_for m) t.decoded in
    let sized = of_size m t.buffers d.lent x t.accepted in
    let fit : InWindow W L es = subst (InWindow W L) q (all-inside f m W L word d.none_due) in
    let space = in-space W L (size_of (class_for x)) es (window-inv W L t.window).1 sized fit in
    let some = (small_at (row_for x) (accepted x t.accepted).0).size.0 in
    subst (λ (l : List Element). length (runs (net_effect l)) ≤ steps_of l) (sym q ∙ ap (elements_for m) e)
    (runs-steps (size_of (class_for x)) es some sized space)

pub record Effect (m : Machine) (W L word : ℕ) : Type 0 where
  pub window : window_ok W L ≡ true
  pub inside : InWindow W L (elements_for m (decode_of word))
  pub within : Within (effect_for m word)
  pub short : length (patch_for m word) ≤ 6660

pub effect : (f : Flags) (m : Machine) (W L word : ℕ) → DoneOver f m W L word → Effect m W L word
unfolding patch_of max_runs max_bytes
effect f m W L word d =
    let t = settled f m W L word 0 (none-parted 7 (before 8 (table f m W L (decode_of word) 0)) d.none_due).0 in
    let s = t.store in
    let w = window-inv W L t.window in
    let q : elements_for m (decode_of word) ≡ elements m s = ap (elements_for m) t.decoded in
    let inside = all-inside f m W L word d.none_due in
    let fit : InWindow W L (elements m s) = subst (InWindow W L) q inside in
    let space : InSpace (elements m s) =
    in-space W L (size_of (class_for s)) (elements m s) w.1 (of_size m t.buffers d.lent s t.accepted) fit in
    let z = sizes m t.buffers d.lent s t.accepted W L w.0 w.1 fit space in
    record {
      window = t.window;
      inside = inside;
      within =
          subst (λ (xs : List Element). Within (net_effect xs)) (sym q)
          (record {
            set = net-effect-is-a-set (elements m s) space;
            few = omega (arith, z.runs, z.few);
            small = omega (arith, z.bytes, z.small);
          });
      short =
          subst (λ (xs : List Element). length (encode (net_effect xs)) ≤ 6660) (sym q)
          (omega (arith, length-encode (net_effect (elements m s)), z.runs, z.bytes, z.short));
    }
