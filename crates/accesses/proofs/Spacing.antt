-- Active elements as a list, from the first to the last, and a strided store's: they lie at equal distances, side by side or not.
-- Assumes nothing.
use mathlib.Core.Path.{◌≡◌, refl, sym, ap, ap₂, ◌∙◌, subst}
use mathlib.Core.Bool.{Bool, true, false, cond, ◌&&◌, and-false}
use mathlib.Core.List.{List, [], ◌∷◌}
use mathlib.Core.Option.{Option, none, some}
use Prim.Native.Nat.{ℕ, zero, suc, ◌+◌, ◌-◌, ◌*◌, ◌/◌, ◌%◌, ◌^◌, ◌≤◌, ◌<◌}
use native.Mathlib.Nat.{zero-mul, suc-mul, mul-le-mul_right}
use native.Mathlib.Omega.{arith}
use lib.Dec.{leb, ltb}
use lib.ListN.{length, drop}
use borrow.Author.Tests.{eq-eqb, ne_eqb, lt-ltb, le-ltb, lt-leb, le-leb}
use Rattle.endian.specs.LittleEndian.{Bytes}
use Rattle.writes.specs.Elements.{Element, InWindow, fresh, steps_from, steps_of}
use Rattle.endian.proofs.LittleEndian.{bytes_take, bytes_drop}
use Rattle.endian.proofs.Order.{two}
use Rattle.elements.specs.Machine.{register}
use Rattle.elements.specs.Elements.{actives}
use Rattle.elements.specs.Accesses.{StridedSound, between, strided_address, strided_element, strided_elements}
use Rattle.elements.specs.declared.StridedAccess.{StridedAccess}
use Rattle.accesses.proofs.Actives.{actives-on, actives-off, none_left, active-in}
use Rattle.accesses.proofs.Sizes.{gap-small, bytes-long}

-- n elements from number e on
unfoldable pub listed : (ℕ → Element) → ℕ → ℕ → List Element
listed el zero e = []
listed el (suc n) e = el e ∷ listed el n (suc e)

module _ (el : ℕ → Element) where
  length-listed : (n e : ℕ) → length (listed el n e) ≡ n
  unfolding listed
  length-listed zero e = refl
  length-listed (suc n) e = ap suc (length-listed n (suc e))

  -- ---- the active ones, where those are from low up to high

  module _ (on : ℕ → Bool) (low high : ℕ) (yes : (i : ℕ) → low ≤ i → i < high → on i ≡ true) (before : (i : ℕ) → i < low → on i ≡ false)
      (after : (i : ℕ) → high ≤ i → on i ≡ false) where
    from_low : (n e : ℕ) → low ≤ e → high ≤ e + n → actives on el n e ≡ listed el (high - e) e
    unfolding actives listed
    from_low zero e l h = let w : 0 ≡ high - e = omega arith in ap (λ (k : ℕ). listed el k e) w
    from_low (suc n) e l h =
        two e high
        (λ a.
        let w : suc (high - suc e) ≡ high - e = omega arith in
        actives-on on el n e (yes e l a)
        ∙ ap (λ (x : List Element). el e ∷ x) (from_low n (suc e) (omega arith) (omega arith))
        ∙ ap (λ (k : ℕ). listed el k e) w)
        (λ a.
        let w : 0 ≡ high - e = omega arith in
        none_left on el (suc n) e (λ j k. after j (omega arith)) ∙ ap (λ (k : ℕ). listed el k e) w)

    range_listed : (n e : ℕ) → e ≤ low → low ≤ high → high ≤ e + n → actives on el n e ≡ listed el (high - low) low
    unfolding actives
    range_listed zero e l o h =
        let w : e ≡ low = omega arith in
        from_low zero e (omega arith) h ∙ ap (λ (k : ℕ). listed el (high - k) k) w
    range_listed (suc n) e l o h =
        two e low
        (λ a. actives-off on el n e (before e a) ∙ range_listed n (suc e) (omega arith) o (omega arith))
        (λ a.
        let w : e ≡ low = omega arith in
        from_low (suc n) e a h ∙ ap (λ (k : ℕ). listed el (high - k) k) w)

  -- ---- where all are

  pub actives-listed : (on : ℕ → Bool) (n e : ℕ) → ((i : ℕ) → e ≤ i → i < e + n → on i ≡ true) → actives on el n e ≡ listed el n e
  unfolding actives listed
  actives-listed on zero e f = refl
  actives-listed on (suc n) e f =
      actives-on on el n e (f e (omega arith) (omega arith))
      ∙ ap (λ (x : List Element). el e ∷ x) (actives-listed on n (suc e) (λ i a b. f i (omega arith) (omega arith)))

  -- ---- elements of which each starts where the one before ends

  -- n of them, from number e on
  abbrev pub Consecutive : ℕ → ℕ → Type 0
  Consecutive n e = (i : ℕ) → e ≤ i → suc i < e + n → (el (suc i)).address ≡ (el i).address + length (el i).bytes

  -- and they are one step
  steps-behind : (n e a : ℕ) → (0 < n → (el e).address ≡ a) → Consecutive n e → steps_from (some a) (listed el n e) ≡ 0
  unfolding listed steps_from
  steps-behind zero e a g f = refl
  steps-behind (suc n) e a g f =
      omega (
        arith,
        ap (λ (t : Bool). cond {A = ℕ} t 0 1) (eq-eqb a (el e).address (sym (g (omega arith)))),
        steps-behind n (suc e) ((el e).address + length (el e).bytes) (λ k. f e (omega arith) (omega arith))
            (λ i k l. f i (omega arith) (omega arith)),
      )

  pub steps-listed : (n e : ℕ) → Consecutive (suc n) e → steps_of (listed el (suc n) e) ≡ 1
  unfolding listed steps_from
  steps-listed n e f =
      omega (
        arith,
        steps-behind n (suc e) ((el e).address + length (el e).bytes) (λ k. f e (omega arith) (omega arith))
            (λ i k l. f i (omega arith) (omega arith)),
      )

  -- elements of which none starts where the one before ends: each is a step
  abbrev pub Apart : ℕ → ℕ → Type 0
  Apart n e = (i : ℕ) → e ≤ i → suc i < e + n → (el (suc i)).address ≡ (el i).address + length (el i).bytes → ⊥

  each-fresh : (n e : ℕ) (o : Option ℕ) → (0 < n → fresh o (el e).address ≡ 1) → Apart n e → steps_from o (listed el n e) ≡ n
  unfolding listed steps_from
  each-fresh zero e o g f = refl
  each-fresh (suc n) e o g f =
      omega (
        arith,
        g (omega arith),
        each-fresh n (suc e) (some ((el e).address + length (el e).bytes))
            (λ k.
            ap (λ (t : Bool). cond {A = ℕ} t 0 1)
            (ne_eqb ((el e).address + length (el e).bytes) (el (suc e)).address (λ q. f e (omega arith) (omega arith) (sym q))))
            (λ i k l. f i (omega arith) (omega arith)),
      )

  pub steps_apart : (n e : ℕ) → Apart n e → steps_of (listed el n e) ≡ n
  steps_apart n e f = each-fresh n e none (λ k. refl) f

-- ---- strided stores

-- the bytes from the first active element's first to the last one's last
abbrev pub reach : StridedAccess → ℕ
reach s = (s.high - 1 - s.low) * s.gap + s.size

module _ (s : StridedAccess) (vb : ℕ) (o : StridedSound s vb) (z : List ℕ) where
  abbrev el : ℕ → Element
  el = strided_element s vb z

  on-true : (k : ℕ) → s.low ≤ k → k < s.high → between s k ≡ true
  unfolding between
  on-true k a b = ap₂ ◌&&◌ (le-leb s.low k a) (lt-ltb k s.high b)

  pub strided-listed : strided_elements s vb z ≡ listed el (s.high - s.low) s.low
  unfolding strided_elements between
  strided-listed =
      range_listed el (between s) s.low s.high on-true
      (λ i a. ap (λ (b : Bool). b && ltb i s.high) (lt-leb s.low i a))
      (λ i a. ap (λ (b : Bool). leb s.low i && b) (le-ltb i s.high a) ∙ and-false (leb s.low i))
      (s.nreg * s.per) 0 (omega arith) o.order (omega (arith, o.most))

  pub strided-count : length (strided_elements s vb z) ≡ s.high - s.low
  strided-count = ap length strided-listed ∙ length-listed el (s.high - s.low) s.low

  pub strided-none : s.high ≤ s.low → strided_elements s vb z ≡ []
  unfolding listed
  strided-none h = let w : s.high - s.low ≡ 0 = omega arith in strided-listed ∙ ap (λ (n : ℕ). listed el n s.low) w

  pub element_bytes : Bytes z → (k : ℕ) → Bytes (el k).bytes
  unfolding strided_element
  element_bytes bz k =
      let r = s.first + k / s.per * s.stride in
      let at = k % s.per * s.gap in
      bytes_take s.size (drop at (register vb z r))
      (bytes_drop at (register vb z r) (bytes_take vb (drop (r * vb) z) (bytes_drop (r * vb) z bz)))

  -- the d-th address from the first active one on, where each follows on the one before
  far : ((d : ℕ) → s.low + suc d < s.high → strided_address s (s.low + d) ≡ strided_address s s.low + d * s.gap
      → strided_address s (suc (s.low + d)) ≡ strided_address s (s.low + d) + s.gap)
      → (d : ℕ) → s.low + d < s.high → strided_address s (s.low + d) ≡ strided_address s s.low + d * s.gap
  far next zero k =
      let w : s.low + 0 ≡ s.low = omega arith in
      ap (strided_address s) w ∙ omega (arith, zero-mul s.gap)
  far next (suc d) k =
      let w : s.low + suc d ≡ suc (s.low + d) = omega arith in
      let p = far next d (omega arith) in
      ap (strided_address s) w ∙ next d k p ∙ omega (arith, p, suc-mul d s.gap)

  -- all from one address on that doesn't pass the top
  module _ (h : s.low < s.high) (top : strided_address s s.low + reach s ≤ 2 ^ 64) where
    -- the next address
    stepped : (d : ℕ) → s.low + suc d < s.high → strided_address s (s.low + d) ≡ strided_address s s.low + d * s.gap
        → strided_address s (suc (s.low + d)) ≡ strided_address s (s.low + d) + s.gap
    unfolding strided_address
    stepped d k p =
        let l : suc d ≤ s.high - 1 - s.low = omega arith in
        omega (arith, suc-mul (s.low + d) s.gap, mul-le-mul_right s.gap l, suc-mul d s.gap, o.some)

    -- each of them lies where all do
    pub each-inside : (W L i : ℕ) → W ≤ strided_address s s.low → strided_address s s.low + reach s ≤ W + L
        → s.low ≤ i → i < s.high → (W ≤ strided_address s i) × (strided_address s i + s.size ≤ W + L)
    each-inside W L i a b c e =
        let d = i - s.low in
        let w : s.low + d ≡ i = omega arith in
        let l : d ≤ s.high - 1 - s.low = omega arith in
        let f : strided_address s i ≡ strided_address s s.low + d * s.gap =
        ap (strided_address s) (sym w) ∙ far stepped d (subst (λ (n : ℕ). n < s.high) (sym w) e) in
        within d (strided_address s i) f (mul-le-mul_right s.gap l)
      where
        within : (d x : ℕ) → x ≡ strided_address s s.low + d * s.gap → d * s.gap ≤ (s.high - 1 - s.low) * s.gap
            → (W ≤ x) × (x + s.size ≤ W + L)
        within d x f m = (omega arith, omega arith)

  -- in a window
  module _ (q : length z ≡ 32 * vb) (W L : ℕ) (most : L ≤ 65536) (top : W + L ≤ 2 ^ 64) (fit : InWindow W L (strided_elements s vb z)) where
    pub inside : (i : ℕ) → s.low ≤ i → i < s.high → (W ≤ strided_address s i) × (strided_address s i + s.size ≤ W + L)
    unfolding strided_elements strided_element
    inside i a b =
        let f = active-in (between s) el W L (s.nreg * s.per) 0 fit i (omega arith) (omega (arith, o.most)) (on-true i a b) in
        (f.0, subst (λ (n : ℕ). strided_address s i + n ≤ W + L) (bytes-long s vb o z q i b) f.1)

    step : (i : ℕ) → s.low ≤ i → suc i < s.high → strided_address s (suc i) ≡ strided_address s i + s.gap
    unfolding strided_address
    step i a b =
        let f = inside i a (omega arith) in
        let g = inside (suc i) (omega arith) b in
        omega (arith, f.0, f.1, g.0, g.1, suc-mul i s.gap, gap-small s vb o, o.some)

    pub reached : (d : ℕ) → s.low + d < s.high → strided_address s (s.low + d) ≡ strided_address s s.low + d * s.gap
    reached = far (λ i k p. step (s.low + i) (omega arith) (omega arith))

    -- all that they write lies in the window
    pub strided-bounds : s.low < s.high → (W ≤ strided_address s s.low) × (strided_address s s.low + reach s ≤ W + L)
    strided-bounds h =
        let d = s.high - 1 - s.low in
        let a : s.low + d < s.high = omega arith in
        let p = reached d a in
        ((inside s.low (omega arith) h).0, omega (arith, (inside (s.low + d) (omega arith) a).1))

    -- how many don't start where the one before ends: one where they lie side by side, else all
    pub strided-joined : s.gap ≡ s.size → s.low < s.high → steps_of (strided_elements s vb z) ≡ 1
    unfolding strided_element
    strided-joined e h =
        ap (λ (l : List Element). steps_of l) strided-listed ∙ go (s.high - s.low) (omega arith)
        (λ i a b.
        step i a (omega arith) ∙ ap (λ (n : ℕ). strided_address s i + n) (e ∙ sym (bytes-long s vb o z q i (omega arith))))
      where
        go : (n : ℕ) → 0 < n → Consecutive el n s.low → steps_of (listed el n s.low) ≡ 1
        go zero k f = absurd (omega arith)
        go (suc n) k f = steps-listed el n s.low f

    pub strided-apart : s.size < s.gap → steps_of (strided_elements s vb z) ≡ s.high - s.low
    unfolding strided_element
    strided-apart l =
        ap (λ (l : List Element). steps_of l) strided-listed
        ∙ steps_apart el (s.high - s.low) s.low
        (λ i a b e. omega (arith, step i a (omega arith), bytes-long s vb o z q i (omega arith), e))
