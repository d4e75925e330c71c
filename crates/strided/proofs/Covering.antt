-- A strided store's active elements at equal distances: what their patch's runs cover, how long it is, and what they leave. Assumes
-- nothing.
use Rattle.std.specs.Prelude.{Err}
use mathlib.Core.Path.{◌≡◌, refl, sym, ap, ◌∙◌, subst}
use mathlib.Core.Bool.{Bool, true, false, cond}
use mathlib.Core.List.{List, [], ◌∷◌}
use mathlib.Core.Option.{none}
use Prim.Native.Nat.{ℕ, zero, suc, ◌+◌, ◌-◌, ◌*◌, ◌^◌, ◌≤◌, ◌<◌}
use native.Mathlib.Nat.{zero-mul, suc-mul, mul-pos, mul-le-mul_left}
use native.Mathlib.Omega.{arith}
use lib.Dec.{eqb}
use lib.ListN.{length}
use borrow.Author.Tests.{eqb-true, eqb-false}
use Rattle.endian.specs.LittleEndian.{Bytes}
use Rattle.endian.specs.Overwriting.{overwritten}
use Rattle.endian.proofs.Order.{two}
use Rattle.writes.specs.Sets.{ByteWrite, lookup}
use Rattle.writes.specs.Encoding.{encode_runs}
use Rattle.writes.specs.Elements.{Element, InWindow, written, splice, splice_all, net_effect, steps_from, steps_of}
use Rattle.writes.proofs.Net.{lookup-splice}
use Rattle.window.specs.Window.{window_ok}
use Rattle.window.proofs.Windows.{window-inv}
use Rattle.elements.specs.Accesses.{StridedSound, strided_address, strided_element, strided_elements}
use Rattle.elements.specs.declared.StridedAccess.{StridedAccess}
use Rattle.accesses.proofs.Sizes.{gap-small, reach-small, bytes-long}
use Rattle.accesses.proofs.Spacing.{listed, reach, strided-listed, strided-count, element_bytes, inside, reached, strided-bounds}
use Rattle.accesses.proofs.Spacing.{strided-joined, strided-apart}
use Rattle.stretches.specs.Intervals.{Interval, Separate, total}
use Rattle.stretches.proofs.Covering.{or, or_swap, or_assoc, among, among-low, among-high, hull, covered, is_some, some-writes_at, some_or}
use Rattle.copying.specs.Spreading.{spread_over, spread}
use Rattle.cutting.specs.Cutting.{cut, spaced, Fits}
use Rattle.cutting.proofs.Made.{made-length, made-buffer}
use Rattle.cutting.proofs.Spacing.{spaced-separate}
use Rattle.verdicts.specs.Verdicts.{patch_of, first_outside, done}
use Rattle.verdicts.specs.declared.Refusal.TheVariants.{NoRoom}
use Rattle.checks.proofs.Walking.{inside-all}
use Rattle.outcomes.specs.Steps.{StoredOf}
use Rattle.outcomes.proofs.Concluding.{stored_short, stored-done}
use Rattle.strided.specs.Runs.{run_count, run_size}

-- ---- nothing active

module _ (W : ℕ) (mem : List ℕ) (t : W + length mem ≤ 2 ^ 64) (b : Bytes mem) where
  none-covered : (x : ℕ) → covered W x [] ≡ is_some (lookup x (net_effect []))
  unfolding covered splice_all lookup
  none-covered x = refl

  pub none-length : length (patch_of []) ≡ 4
  unfolding patch_of total
  none-length = made-length W mem [] [] t b tt tt none-covered

  pub none-short : (size : ℕ) (out : List ℕ) → length out < 4 → StoredOf W size mem out [] (Err NoRoom) mem out
  unfolding first_outside
  none-short size out h = stored_short W size mem out [] refl (omega (arith, none-length))

  pub none_done : (size gap s r p : ℕ) (out out' : List ℕ) → 4 ≤ length out → r ≡ total (spaced 0 gap s 0) + 4 → p ≡ 0
      → out' ≡ overwritten out 0 (encode_runs (cut W mem (spaced 0 gap s 0))) → StoredOf W size mem out [] (done 0 0 r p) mem out'
  unfolding first_outside written spaced total patch_of steps_from
  none_done size gap s r p out out' h er ep eo =
      stored-done W size mem out [] refl 0 0 r p mem out' refl (omega arith) (omega (arith, none-length)) ep
      (omega (arith, none-length)) refl
      (made-buffer W mem [] [] t b tt tt none-covered mem out out' refl eo)

-- ---- elements at equal distances

-- address x is written by one of them
unfoldable hits : ℕ → List Element → Bool
hits x [] = false
hits x (e ∷ es) = or (among e.address (length e.bytes) x) (hits x es)

net-hits : (x : ℕ) (S : List ByteWrite) (es : List Element)
    → or (hits x es) (is_some (lookup x S)) ≡ is_some (lookup x (splice_all S es))
unfolding hits splice_all
net-hits x S [] = refl
net-hits x S (e ∷ es) =
    let a = among e.address (length e.bytes) x in
    let rest = hits x es in
    or_assoc a rest (is_some (lookup x S)) ∙ or_swap a rest (is_some (lookup x S))
    ∙ ap (or rest)
    (ap (λ (b : Bool). or b (is_some (lookup x S))) (sym (some-writes_at x e.address e.bytes))
    ∙ sym (ap is_some (lookup-splice x e.address e.bytes S) ∙ some_or _ (lookup x S)))
    ∙ net-hits x (splice e.address e.bytes S) es

or-false : (b : Bool) → or b false ≡ b
or-false true = refl
or-false false = refl

among_none : (s x : ℕ) → among s 0 x ≡ false
among_none s x = two x s (λ h. among-low s 0 x h) (λ h. among-high s 0 x (omega arith))

pub total-spaced : (p gap size n : ℕ) → total (spaced p gap size n) ≡ n * (12 + size)
unfolding spaced total
total-spaced p gap size zero = sym (zero-mul (12 + size))
total-spaced p gap size (suc n) = omega (arith, total-spaced (p + gap) gap size n, suc-mul n (12 + size))

-- n elements of `size` bytes from number k on, the first p behind W, each `gap` behind the one before
pub record Spaced (el : ℕ → Element) (W p gap size n k : ℕ) : Type 0 where
  pub starts : (j : ℕ) → j < n → (el (k + j)).address ≡ W + (p + j * gap)
  pub long : (j : ℕ) → j < n → length (el (k + j)).bytes ≡ size

module _ (el : ℕ → Element) (W gap size : ℕ) where
  module _ {p n k : ℕ} (s : Spaced el W p gap size (suc n) k) where
    first : ((el k).address ≡ W + p) × (length (el k).bytes ≡ size)
    first =
        let w : k + 0 ≡ k = omega arith in (
          ap (λ (i : ℕ). (el i).address) (sym w) ∙ s.starts 0 (omega arith) ∙ omega (arith, zero-mul gap),
          ap (λ (i : ℕ). length (el i).bytes) (sym w) ∙ s.long 0 (omega arith),
        )

    others : Spaced el W (p + gap) gap size n (suc k)
    others =
        record {
          starts =
              λ j h.
              let w : suc k + j ≡ k + suc j = omega arith in
              ap (λ (i : ℕ). (el i).address) w ∙ s.starts (suc j) (omega arith) ∙ omega (arith, suc-mul j gap);
          long =
              λ j h.
              let w : suc k + j ≡ k + suc j = omega arith in
              ap (λ (i : ℕ). length (el i).bytes) w ∙ s.long (suc j) (omega arith);
        }

  -- one interval for each
  each-covered : (x n p k : ℕ) → Spaced el W p gap size n k → covered W x (spaced p gap size n) ≡ hits x (listed el n k)
  unfolding covered spaced hits listed
  each-covered x zero p k s = refl
  each-covered x (suc n) p k s =
      let f = first s in
      (λ i. or (among (sym f.0 i) (sym f.1 i) x) (covered W x (spaced (p + gap) gap size n)))
      ∙ ap (or (among (el k).address (length (el k).bytes) x)) (each-covered x n (p + gap) (suc k) (others s))

  -- one for all, where they lie side by side
  all-covered : (x n p k : ℕ) → gap ≡ size → 1 ≤ size → Spaced el W p gap size n k → among (W + p) (n * size) x ≡ hits x (listed el n k)
  unfolding hits listed
  all-covered x zero p k e o s = ap (λ (m : ℕ). among (W + p) m x) (zero-mul size) ∙ among_none (W + p) x
  all-covered x (suc n) p k e o s =
      let f = first s in
      let m : ℕ = n * size in
      let u : p - (p - (p + size)) ≡ p = omega arith in
      let v : p + size + (p + size + m - (p + size)) - (p - (p - (p + size))) ≡ suc n * size = omega (arith, suc-mul n size) in
      let w : p + size - p ≡ size = omega arith in
      sym (λ i. among (W + u i) (v i) x)
      ∙ hull W x p (p + size) (p + size) m (omega arith) (omega arith) (omega arith)
      ∙ (λ i. or (among (sym f.0 i) ((w ∙ sym f.1) i) x) (among (W + (p + sym e i)) m x))
      ∙ ap (or (among (el k).address (length (el k).bytes) x)) (all-covered x n (p + gap) (suc k) e o (others s))

  -- written in turn
  spread_written : (mem : List ℕ) (n p k : ℕ) → Spaced el W p gap size n k
      → spread_over (λ i. (el i).bytes) gap n k mem p ≡ written W mem (listed el n k)
  unfolding spread_over listed written
  spread_written mem zero p k s = refl
  spread_written mem (suc n) p k s =
      let w : p ≡ (el k).address - W = omega (arith, (first s).0) in
      ap (λ (a : ℕ). spread_over (λ i. (el i).bytes) gap n (suc k) (overwritten mem a (el k).bytes) (p + gap)) w
      ∙ spread_written (overwritten mem ((el k).address - W) (el k).bytes) n (p + gap) (suc k) (others s)

fits-listed : (el : ℕ → Element) (W L n k : ℕ)
    → ((i : ℕ) → k ≤ i → i < k + n → (W ≤ (el i).address) × ((el i).address + length (el i).bytes ≤ W + L)) → ((i : ℕ) → Bytes (el i).bytes)
    → Fits W L (listed el n k)
unfolding listed
fits-listed el W L zero k f b = tt
fits-listed el W L (suc n) k f b =
    let x = f k (omega arith) (omega arith) in
    (x.0, x.1, b k, fits-listed el W L n (suc k) (λ i c d. f i (omega arith) (omega arith)) b)

-- ---- how many runs, and how long they are

module _ (s : StridedAccess) (vb : ℕ) (o : StridedSound s vb) (n : ℕ) (h : n ≤ s.nreg * s.per) where
  pub bytes_small : n * s.size ≤ 1024
  bytes_small = omega (arith, reach-small s vb o n h, mul-le-mul_left n o.size)

  pub runs-small : 1 ≤ n → (run_count s n ≤ 1024) × (1 ≤ run_size s n) × (run_size s n ≤ 1024)
  unfolding run_count run_size
  runs-small k = go (eqb s.gap s.size)
    where
      few : n ≤ 1024
      few = omega (arith, bytes_small, mul-le-mul_left n o.some)

      go : (t : Bool) → (cond t 1 n ≤ 1024) × (1 ≤ cond t (n * s.size) s.size) × (cond t (n * s.size) s.size ≤ 1024)
      go true = (omega arith, mul-pos k o.some, bytes_small)
      go false = (few, o.some, omega (arith, gap-small s vb o, o.size))

-- ---- a strided store's active elements, of which there are some, in the window

module _ (s : StridedAccess) (vb : ℕ) (o : StridedSound s vb) (z : List ℕ) (q : length z ≡ 32 * vb) (bz : Bytes z) (h : s.low < s.high)
    (W : ℕ) (mem : List ℕ) (b : Bytes mem) (ok : window_ok W (length mem) ≡ true)
    (n : first_outside W (length mem) (strided_elements s vb z) ≡ none) where
  abbrev es : List Element
  es = strided_elements s vb z

  abbrev el : ℕ → Element
  el = strided_element s vb z

  abbrev count : ℕ
  count = s.high - s.low

  abbrev from : ℕ
  from = strided_address s s.low - W

  abbrev runs : List Interval
  runs = spaced from s.gap (run_size s count) (run_count s count)

  window : (length mem ≤ 65536) × (W + length mem ≤ 2 ^ 64)
  window = window-inv W (length mem) ok

  fit : InWindow W (length mem) es
  fit = inside-all W (length mem) es n

  pub bounds : (W ≤ strided_address s s.low) × (strided_address s s.low + reach s ≤ W + length mem)
  bounds = strided-bounds s vb o z q W (length mem) window.0 window.1 fit h

  -- the last one's distance from the first, and the bytes of all
  last-gap : (s.high - 1 - s.low) * s.gap + s.gap ≡ count * s.gap
  last-gap =
      let w : suc (s.high - 1 - s.low) ≡ count = omega arith in
      omega (arith, suc-mul (s.high - 1 - s.low) s.gap, ap (λ (k : ℕ). k * s.gap) w)

  pub room : from + count * s.gap ≤ length mem + (s.gap - s.size)
  room = omega (arith, bounds.0, bounds.1, last-gap, o.size)

  equally : Spaced el W from s.gap s.size count s.low
  unfolding strided_element
  equally =
      record {
        starts = λ j k. omega (arith, reached s vb o z q W (length mem) window.0 window.1 fit j (omega arith), bounds.0);
        long = λ j k. bytes-long s vb o z q (s.low + j) (omega arith);
      }

  fits : Fits W (length mem) es
  unfolding strided_element
  fits =
      subst (Fits W (length mem)) (sym (strided-listed s vb o z))
      (fits-listed el W (length mem) count s.low
      (λ i c d.
      let u : i < s.high = omega arith in
      let f = inside s vb o z q W (length mem) window.0 window.1 fit i c u in
      (f.0, omega (arith, f.1, bytes-long s vb o z q i u)))
      (element_bytes s vb o z bz))

  -- by whether they lie side by side
  by-gap : {X : Type 0} → (eqb s.gap s.size ≡ true → s.gap ≡ s.size → X)
      → (eqb s.gap s.size ≡ false → s.size < s.gap → X) → X
  by-gap {X} f g = go (eqb s.gap s.size) refl
    where
      go : (t : Bool) → eqb s.gap s.size ≡ t → X
      go true e = f e (eqb-true s.gap s.size e)
      go false e =
          g e
          (two s.size s.gap (λ l. l) (λ l. absurd (eqb-false s.gap s.size e (omega (arith, o.size)))))

  joined : eqb s.gap s.size ≡ true → runs ≡ spaced from s.gap (count * s.size) 1
  unfolding run_size run_count
  joined e = ap (λ (t : Bool). spaced from s.gap (cond t (count * s.size) s.size) (cond t 1 count)) e

  apart : eqb s.gap s.size ≡ false → runs ≡ spaced from s.gap s.size count
  unfolding run_size run_count
  apart e = ap (λ (t : Bool). spaced from s.gap (cond t (count * s.size) s.size) (cond t 1 count)) e

  pub separate : Separate (length mem) 0 runs
  unfolding spaced
  separate =
      by-gap
      (λ e g.
      let c : 0 < count = omega arith in
      let w : count * s.gap ≡ count * s.size = ap (λ (k : ℕ). count * k) g in
      let r : from + count * s.size ≤ length mem = omega (arith, room) in
      subst (Separate (length mem) 0) (sym (joined e)) (omega arith, mul-pos c o.some, r, tt))
      (λ e g.
      subst (Separate (length mem) 0) (sym (apart e))
      (spaced-separate s.gap s.size (length mem) 0 from count o.some g (omega arith) room))

  -- with equal numbers
  pub separate-as : {L at size runs' : ℕ} → L ≡ length mem → at ≡ from → size ≡ run_size s count → runs' ≡ run_count s count
      → Separate L 0 (spaced at s.gap size runs')
  separate-as el ea es er =
      subst (λ (X : Type 0). X) (λ i. Separate (sym el i) 0 (spaced (sym ea i) s.gap (sym es i) (sym er i))) separate

  covers : (x : ℕ) → covered W x runs ≡ is_some (lookup x (net_effect es))
  unfolding covered spaced lookup
  covers x =
      by-gap
      (λ e g.
      ap (covered W x) (joined e) ∙ or-false (among (W + from) (count * s.size) x)
      ∙ all-covered el W s.gap s.size x count from s.low g o.some equally)
      (λ e g. ap (covered W x) (apart e) ∙ each-covered el W s.gap s.size x count from s.low equally)
      ∙ sym (ap (hits x) (strided-listed s vb o z)) ∙ sym (or-false (hits x es)) ∙ net-hits x [] es

  pub strided_length : length (patch_of es) ≡ run_count s count * (12 + run_size s count) + 4
  unfolding patch_of
  strided_length =
      made-length W mem es runs window.1 b fits separate covers
      ∙ ap (λ (k : ℕ). k + 4) (total-spaced from s.gap (run_size s count) (run_count s count))

  steps : steps_of es ≡ run_count s count
  unfolding run_count
  steps =
      by-gap
      (λ e g.
      strided-joined s vb o z q W (length mem) window.0 window.1 fit g h ∙ sym (ap (λ (t : Bool). cond t 1 count) e))
      (λ e g.
      strided-apart s vb o z q W (length mem) window.0 window.1 fit g ∙ sym (ap (λ (t : Bool). cond t 1 count) e))

  pub strided-short : (out : List ℕ) → length out < run_count s count * (12 + run_size s count) + 4
      → StoredOf W s.size mem out es (Err NoRoom) mem out
  strided-short out l = stored_short W s.size mem out es n (omega (arith, strided_length))

  pub strided-done : (k c r p at size runs' : ℕ) (mem' out out' : List ℕ) → run_count s count * (12 + run_size s count) + 4 ≤ length out
      → k ≡ count → c ≡ count * s.size → at ≡ from → mem' ≡ spread s vb z count s.low mem at → size ≡ run_size s count
      → runs' ≡ run_count s count → r ≡ total (spaced at s.gap size runs') + 4 → p ≡ runs'
      → out' ≡ overwritten out 0 (encode_runs (cut W mem' (spaced at s.gap size runs')))
      → StoredOf W s.size mem out es (done k c r p) mem' out'
  unfolding patch_of
  strided-done k c r p at size runs' mem' out out' fill ek ec ea em es' er el' ep eo =
      let number = strided-count s vb o z in
      let same : spaced at s.gap size runs' ≡ runs = λ i. spaced (ea i) s.gap (es' i) (er i) in
      let w : mem' ≡ written W mem es =
      em ∙ ap (spread s vb z count s.low mem) ea ∙ spread_written el W s.gap s.size mem count from s.low equally
      ∙ ap (written W mem) (sym (strided-listed s vb o z)) in
      stored-done W s.size mem out es n k c r p mem' out' (ek ∙ sym number) (ec ∙ ap (λ (y : ℕ). y * s.size) (sym number))
      (el' ∙ ap (λ (I : List Interval). total I + 4) same ∙ sym (made-length W mem es runs window.1 b fits separate covers))
      (ep ∙ er ∙ sym steps) (omega (arith, strided_length)) w
      (made-buffer W mem es runs window.1 b fits separate covers mem' out out' w
      (eo ∙ ap (λ (I : List Interval). overwritten out 0 (encode_runs (cut W mem' I))) same))
