-- Lists of active elements: one more, and a store's list as its access's. Assumes nothing.
use Rattle.std.specs.Prelude.{Option, Some, None}
use mathlib.Core.Path.{◌≡◌, refl, sym, ap, ap₂, ◌∙◌}
use mathlib.Core.Bool.{Bool, true, false, cond, ◌&&◌}
use mathlib.Core.List.{List, [], ◌∷◌}
use Prim.Native.Nat.{ℕ, zero, suc, ◌+◌, ◌-◌, ◌*◌, ◌/◌, ◌%◌, ◌^◌, ◌≤◌, ◌<◌}
use native.Mathlib.Nat.{zero-mul, one-mul, suc-mul, mul_assoc, mul-lt-mul_of_pos_right, mod-one, zero-mod, mod-eq_of_lt}
use native.Mathlib.Nat.{pow-suc, one-le-pow}
use native.Mathlib.Nat.{mul-mod_left, mul-add-mod_self_right, mul-div_cancel, mul-div-mul_right, div-add-mod', le-div_iff_mul-le}
use native.Mathlib.Nat.{div-lt_iff_lt-mul}
use native.Mathlib.Numerals.{add-one}
use native.Mathlib.Omega.{arith}
use lib.Arith.{mod-mul}
use lib.Dec.{eqb, lit<}
use lib.ListN.{take, drop}
use lib.Pow.{pow_pos, pow_mono}
use borrow.Author.Tests.{eqb-true, eqb-false}
use Rattle.encoding.specs.Classes.{Class}
use Rattle.encoding.specs.Encoding.{class_for}
use Rattle.encoding.specs.declared.Extension.{Extension}
use Rattle.encoding.specs.declared.Extension.TheVariants.{Uxtw, Sxtw}
use Rattle.encoding.specs.declared.ScatterFields.{ScatterFields}
use Rattle.encoding.specs.declared.StridedFields.{StridedFields}
use Rattle.encoding.specs.declared.QuadwordFields.{QuadwordFields}
use Rattle.encoding.specs.declared.Store.{Store}
use Rattle.encoding.specs.declared.Store.TheVariants.{Scatter, Strided, Quadword}
use Rattle.endian.specs.LittleEndian.{Bytes, le_val}
use Rattle.writes.specs.Elements.{Element}
use Rattle.endian.proofs.LittleEndian.{bytes_take, bytes_drop}
use Rattle.elements.specs.Machine.{Machine, base_of, index_of, vector, predicate}
use Rattle.elements.specs.Counter.{counter_of, mask_bit}
use Rattle.elements.specs.Stores.{step_of, size_of, per_register, count_of, signed32, offset_of, stride_of, start_of}
use Rattle.elements.specs.Elements.{active_at, element_at, actives, elements}
use Rattle.elements.specs.Accesses.{offset_from, vector_address, vector_active, vector_element, vector_elements, scatter_access}
use Rattle.elements.specs.Accesses.{quadword_access}
use Rattle.elements.specs.Accesses.{exponent_of, spacing, range_of, between, strided_address, strided_active, strided_element, strided_elements}
use Rattle.elements.specs.Accesses.{strided_access}
use Rattle.elements.specs.declared.StridedAccess.{StridedAccess}
use Rattle.elements.specs.declared.VectorAccess.{VectorAccess}
use Rattle.elements.proofs.Leaves.{at-lowest}
use Rattle.elements.proofs.Numbers.{pers}
use Rattle.elements.proofs.Shapes.{ScatterIn, QuadwordIn, StridedIn}
use Rattle.accesses.proofs.Actives.{actives-on, actives-off, thinned}
use Rattle.accesses.proofs.Masks.{multiple, range-is, mask-off}

-- ---- one more element

module _ (on : ℕ → Bool) (el : ℕ → Element) where
  -- of the elements below n from e on: e itself, where it is on, and those after it
  pub active-more : (n e : ℕ) → e < n → on e ≡ true → actives on el (n - e) e ≡ el e ∷ actives on el (n - (e + 1)) (e + 1)
  active-more n e h t =
      let q : n - e ≡ suc (n - (e + 1)) = omega arith in
      ap (λ (j : ℕ). actives on el j e) q
      ∙ actives-on on el (n - (e + 1)) e t
      ∙ ap (λ (j : ℕ). el e ∷ actives on el (n - (e + 1)) j) (sym (add-one e))

  pub inactive-more : (n e : ℕ) → e < n → on e ≡ false → actives on el (n - e) e ≡ actives on el (n - (e + 1)) (e + 1)
  inactive-more n e h t =
      let q : n - e ≡ suc (n - (e + 1)) = omega arith in
      ap (λ (j : ℕ). actives on el j e) q
      ∙ actives-off on el (n - (e + 1)) e t
      ∙ ap (actives on el (n - (e + 1))) (sym (add-one e))

  pub active-none : (n e : ℕ) → n ≤ e → actives on el (n - e) e ≡ []
  unfolding actives
  active-none n e h = let q : n - e ≡ 0 = omega arith in ap (λ (j : ℕ). actives on el j e) q

-- two lists whose elements agree, and of those below k which are on
actives-below : (on on' : ℕ → Bool) (el el' : ℕ → Element) (k : ℕ) → ((e : ℕ) → e < k → on e ≡ on' e) → ((e : ℕ) → el e ≡ el' e)
    → (n e : ℕ) → e + n ≤ k → actives on el n e ≡ actives on' el' n e
unfolding actives
actives-below on on' el el' k f g zero e h = refl
actives-below on on' el el' k f g (suc n) e h =
    let t = actives-below on on' el el' k f g n (suc e) (omega arith) in
    let u = f e (omega arith) in
    λ i. cond (u i) (g e i ∷ t i) (t i)

-- ---- offsets

-- the low k bytes of a little-endian number
low-bytes : (k n : ℕ) (l : List ℕ) → k ≤ n → Bytes l → le_val (take n l) % 256 ^ k ≡ le_val (take k l)
unfolding le_val
low-bytes zero n l h b = mod-one (le_val (take n l))
low-bytes (suc k) zero l h b = absurd (omega arith)
low-bytes (suc k) (suc n) [] h b = zero-mod (256 ^ suc k)
low-bytes (suc k) (suc n) (x ∷ l) h b =
    let hx : x < 256 = b.0 in
    let v = le_val (take n l) in
    let m : (x + 256 * v) % (256 ^ k * 256) ≡ ((x + 256 * v) / 256 % 256 ^ k) * 256 + (x + 256 * v) % 256 =
    mod-mul (x + 256 * v) (one-le-pow k 256 (lit< tt)) (omega arith) in
    let q : (x + 256 * v) / 256 ≡ v = omega arith in
    let r : (x + 256 * v) % 256 ≡ x = omega arith in
    let ih : v % 256 ^ k ≡ le_val (take k l) = low-bytes k n l (omega arith) b.1 in
    ap (λ (y : ℕ). (x + 256 * v) % y) (pow-suc 256 k)
    ∙ m
    ∙ ap₂ (λ (y z : ℕ). (y % 256 ^ k) * 256 + z) q r
    ∙ ap (λ (y : ℕ). y * 256 + x) ih
    ∙ omega arith

offset-is : (x : Option Extension) (n at : ℕ) (reg : List ℕ) → (x ≡ None → n ≡ 8) → 4 ≤ n → Bytes reg
    → offset_of x (le_val (take n (drop at reg))) ≡ offset_from x reg at
offset-is None n at reg f h b = ap (λ (k : ℕ). le_val (take k (drop at reg))) (f refl)
offset-is (Some Uxtw) n at reg f h b = low-bytes 4 n (drop at reg) h (bytes_drop at reg b)
offset-is (Some Sxtw) n at reg f h b = ap signed32 (low-bytes 4 n (drop at reg) h (bytes_drop at reg b))

-- ---- a store's elements are its access's

element-same : (e a a' : ℕ) (p : List ℕ) → a ≡ a'
    → ◌≡◌ {A = Element} (record { number = e; address = a; bytes = p }) (record { number = e; address = a'; bytes = p })
element-same e a a' p q = λ i. record { number = e; address = q i; bytes = p }

-- a store over one register has its elements
one-register : (m : Machine) (c : Class) → c.nreg ≡ 1 → c.nreg * per_register m c ≡ per_register m c
one-register m c q = ap (λ (k : ℕ). k * per_register m c) q ∙ one-mul (per_register m c)

vector-listed : (m : Machine) (s : Store) (v : VectorAccess) (offsets governing stored : List ℕ) → count_of m s ≡ v.count
    → ((e : ℕ) → active_at m s e ≡ vector_active v governing e) → ((e : ℕ) → element_at m s e ≡ vector_element v offsets stored e)
    → elements m s ≡ vector_elements v offsets governing stored
unfolding elements vector_elements
vector-listed m s v offsets governing stored q f g =
    ap (λ (n : ℕ). actives (active_at m s) (element_at m s) n 0) q
    ∙ actives-below (active_at m s) (vector_active v governing) (element_at m s) (vector_element v offsets stored) v.count (λ e h. f e) g
    v.count 0 (omega arith)

module _ (m : Machine) (f : ScatterFields) (s : ScatterIn f (class_for (Scatter f))) where
  pub scatter-count : count_of m (Scatter f) ≡ (scatter_access m (class_for (Scatter f)) f).count
  scatter-count = one-register m (class_for (Scatter f)) s.nreg

  pub scatter-active : (e : ℕ) → active_at m (Scatter f) e ≡ vector_active (scatter_access m (class_for (Scatter f)) f) (predicate m f.pg) e
  unfolding active_at vector_active
  scatter-active e = refl

module _ (m : Machine) (b : Bytes m.z) (f : ScatterFields) (s : ScatterIn f (class_for (Scatter f))) where
  pub scatter-element : (e : ℕ)
      → element_at m (Scatter f) e ≡ vector_element (scatter_access m (class_for (Scatter f)) f) (vector m f.zm) (vector m f.zt) e
  unfolding element_at vector_element vector_address
  scatter-element e =
      let c = class_for (Scatter f) in
      element-same e _ _ (take (size_of c) (drop (e * step_of c) (vector m f.zt)))
      (ap (λ (o : ℕ). (base_of m f.rn + o * 2 ^ c.scale) % 2 ^ 64)
      (offset-is f.extension (step_of c) (e * step_of c) (vector m f.zm) s.none s.four
      (bytes_take m.vb (drop (f.zm * m.vb) m.z) (bytes_drop (f.zm * m.vb) m.z b))))

  pub scatter-elements : elements m (Scatter f)
      ≡ vector_elements (scatter_access m (class_for (Scatter f)) f) (vector m f.zm) (predicate m f.pg) (vector m f.zt)
  scatter-elements =
      vector-listed m (Scatter f) (scatter_access m (class_for (Scatter f)) f) (vector m f.zm) (predicate m f.pg) (vector m f.zt)
      (scatter-count m f s) (scatter-active m f s) scatter-element

module _ (m : Machine) (f : QuadwordFields) (s : QuadwordIn f (class_for (Quadword f))) where
  pub quadword-count : count_of m (Quadword f) ≡ (quadword_access m (class_for (Quadword f)) f).count
  quadword-count = one-register m (class_for (Quadword f)) s.nreg

  pub quadword-active : (e : ℕ)
      → active_at m (Quadword f) e ≡ vector_active (quadword_access m (class_for (Quadword f)) f) (predicate m f.pg) e
  unfolding active_at vector_active
  quadword-active e = refl

  sum : (a i : ℕ) → a + i ≡ i + a * 1
  sum a i = omega arith

  pub quadword-element : (e : ℕ)
      → element_at m (Quadword f) e ≡ vector_element (quadword_access m (class_for (Quadword f)) f) (vector m f.zn) (vector m f.zt) e
  unfolding element_at vector_element vector_address
  quadword-element e =
      let c = class_for (Quadword f) in
      let reg = vector m f.zn in
      let q : 2 * e * 8 ≡ e * step_of c = omega (arith, ap (λ (n : ℕ). e * n) s.sixteen) in
      element-same e _ _ (take (size_of c) (drop (e * step_of c) (vector m f.zt)))
      (ap (λ (at : ℕ). (le_val (take 8 (drop at reg)) + index_of m f.rm) % 2 ^ 64) q
      ∙ ap (λ (n : ℕ). n % 2 ^ 64) (sum (le_val (take 8 (drop (e * step_of c) reg))) (index_of m f.rm)))

  pub quadword-elements : elements m (Quadword f)
      ≡ vector_elements (quadword_access m (class_for (Quadword f)) f) (vector m f.zn) (predicate m f.pg) (vector m f.zt)
  quadword-elements =
      vector-listed m (Quadword f) (quadword_access m (class_for (Quadword f)) f) (vector m f.zn) (predicate m f.pg) (vector m f.zt)
      quadword-count quadword-active quadword-element

-- ---- strided stores

module _ (m : Machine) (f : StridedFields) (s : StridedIn f (class_for (Strided f))) (sixteen : m.vb % 16 ≡ 0) where
  abbrev c : Class
  c = class_for (Strided f)

  -- the exponents of an element's bytes and of the distance
  abbrev x : ℕ
  x = exponent_of c

  abbrev v : ℕ
  v = counter_of m f.pc

  abbrev g : ℕ
  g = spacing x v

  abbrev access : StridedAccess
  access = strided_access m c f

  pub few : g ≤ 3
  few = at-lowest (λ (n : ℕ). x + (n - x) ≤ 3) (omega (arith, s.exponent)) (omega (arith, s.exponent)) (omega (arith, s.exponent))
      (omega (arith, s.exponent)) v

  -- a power of 2 up to 8 divides VB
  pub divides : (n : ℕ) → n ≤ 3 → m.vb / 2 ^ n * 2 ^ n ≡ m.vb
  divides n h =
      let e : 16 ≡ 2 ^ (4 - n) * 2 ^ n = multiple n 4 (omega arith) in
      let w : m.vb ≡ m.vb / 16 * 2 ^ (4 - n) * 2 ^ n =
      omega (arith, ap (λ (k : ℕ). m.vb / 16 * k) e, mul_assoc (m.vb / 16) (2 ^ (4 - n)) (2 ^ n)) in
      ap (λ (k : ℕ). k / 2 ^ n * 2 ^ n) w ∙ ap (λ (k : ℕ). k * 2 ^ n) (mul-div_cancel (m.vb / 16 * 2 ^ (4 - n)) (pow_pos n)) ∙ sym w

  -- how many elements from one that can be active to the next
  abbrev every : ℕ
  every = 2 ^ (g - x)

  gap_is : 2 ^ g ≡ every * 2 ^ x
  gap_is = multiple x g (omega arith)

  spaced : (k : ℕ) → k * every * 2 ^ x ≡ k * 2 ^ g
  spaced k = mul_assoc k every (2 ^ x) ∙ ap (λ (n : ℕ). k * n) (sym gap_is)

  per : per_register m c ≡ m.vb / 2 ^ x
  per = sym (pers m.vb c s.eight (2 ^ x) (sym s.step))

  -- registers are whole elements
  pub strided-whole : per_register m c * size_of c ≡ m.vb
  strided-whole = (λ i. per i * s.size i) ∙ divides x (omega (arith, s.exponent))

  per-every : m.vb / 2 ^ g * every ≡ m.vb / 2 ^ x
  per-every =
      let w : m.vb ≡ m.vb / 2 ^ g * every * 2 ^ x = sym (spaced (m.vb / 2 ^ g) ∙ divides g few) in
      sym (ap (λ (k : ℕ). k / 2 ^ x) w ∙ mul-div_cancel (m.vb / 2 ^ g * every) (pow_pos x))

  count-every : count_of m (Strided f) ≡ c.nreg * (m.vb / 2 ^ g) * every
  count-every = ap (λ (n : ℕ). c.nreg * n) (per ∙ sym per-every) ∙ sym (mul_assoc c.nreg (m.vb / 2 ^ g) every)

  -- ---- which are active

  between_is : (k : ℕ) → k < c.nreg * (m.vb / 2 ^ g) → between access k ≡ mask_bit m.vb v (k * 2 ^ g)
  unfolding between range_of
  between_is k h = range-is m.vb v g (c.nreg * (m.vb / 2 ^ g)) (omega arith) k h

  pub strided-active : (e : ℕ) → e < count_of m (Strided f) → active_at m (Strided f) e ≡ strided_active access (e * size_of c)
  unfolding active_at strided_active range_of
  strided-active e h =
      ap (λ (n : ℕ). mask_bit m.vb v (e * n)) s.step
      ∙ go (eqb (i % 2 ^ g) 0) refl
      ∙ ap (λ (n : ℕ). eqb (e * n % 2 ^ g) 0 && between access (e * n / 2 ^ g)) (sym s.size)
    where
      i : ℕ
      i = e * 2 ^ x

      small : i < c.nreg * (m.vb / 2 ^ g) * 2 ^ g
      small =
          omega (
            arith,
            mul-lt-mul_of_pos_right h (pow_pos x),
            ap (λ (n : ℕ). n * 2 ^ x) count-every,
            spaced (c.nreg * (m.vb / 2 ^ g)),
          )

      go : (b : Bool) → eqb (i % 2 ^ g) 0 ≡ b → mask_bit m.vb v i ≡ eqb (i % 2 ^ g) 0 && between access (i / 2 ^ g)
      go true q =
          let w : i / 2 ^ g * 2 ^ g ≡ i = omega (arith, div-add-mod' i (2 ^ g), eqb-true (i % 2 ^ g) 0 q) in
          ap (mask_bit m.vb v) (sym w)
          ∙ sym (between_is (i / 2 ^ g) ((div-lt_iff_lt-mul (pow_pos g)).1 small))
          ∙ ap (λ (b : Bool). b && between access (i / 2 ^ g)) (sym q)
      go false q = mask-off m.vb v x e (eqb-false (i % 2 ^ g) 0 q) ∙ ap (λ (b : Bool). b && between access (i / 2 ^ g)) (sym q)

  -- none between two that are `every` apart
  off : (d : ℕ) → every ≡ suc d → (k i : ℕ) → i < d → active_at m (Strided f) (suc (k * suc d + i)) ≡ false
  unfolding active_at
  off d q k i h =
      let e = suc (k * suc d + i) in
      let r : e % suc d ≡ suc i =
      ap (λ (n : ℕ). n % suc d) (omega arith) ∙ mul-add-mod_self_right k (suc d) (suc i) ∙ mod-eq_of_lt (omega arith) in
      ap (λ (n : ℕ). mask_bit m.vb v (e * n)) s.step
      ∙ mask-off m.vb v x e
      (λ z.
      let w : e * 2 ^ x % (suc d * 2 ^ x) ≡ suc i * 2 ^ x =
      mod-mul (e * 2 ^ x) (omega arith) (pow_pos x)
      ∙ omega (
        arith,
        mul-mod_left e (2 ^ x),
        ap (λ (n : ℕ). n % suc d * 2 ^ x) (mul-div_cancel e (pow_pos x)),
        ap (λ (n : ℕ). n * 2 ^ x) r,
      ) in
      omega (
        arith,
        suc-mul i (2 ^ x),
        pow_pos x,
        w,
        ap (λ (n : ℕ). e * 2 ^ x % n) (gap_is ∙ ap (λ (n : ℕ). n * 2 ^ x) q),
        z,
      ))

  -- ---- and what they are

  wrapped : (a d : ℕ) → (a + d) % 2 ^ 64 ≡ (a % 2 ^ 64 + d) % 2 ^ 64
  wrapped a d = omega arith

  -- an element's number and where it lies, counted by those that can be active
  numbered : (k : ℕ) → k * every ≡ k * 2 ^ g / size_of c
  numbered k =
      sym (mul-div_cancel (k * every) (pow_pos x)) ∙ ap (λ (n : ℕ). n / 2 ^ x) (spaced k) ∙ ap (λ (n : ℕ). k * 2 ^ g / n) (sym s.size)

  at-step : (k : ℕ) → k * every * step_of c ≡ k * 2 ^ g
  at-step k = ap (λ (n : ℕ). k * every * n) s.step ∙ spaced k

  row : (k : ℕ) → k * every / per_register m c ≡ k / (m.vb / 2 ^ g)
  row k = ap (λ (n : ℕ). k * every / n) (per ∙ sym per-every) ∙ mul-div-mul_right k (m.vb / 2 ^ g) (pow_pos (g - x))

  index : 16 ≤ m.vb → (k : ℕ) → k * every % per_register m c * step_of c ≡ k % (m.vb / 2 ^ g) * 2 ^ g
  index low k =
      let p : ℕ = m.vb / 2 ^ g in
      let o : 0 < p = (le-div_iff_mul-le (pow_pos g)).1 (omega (arith, pow_mono few)) in
      let w : k * every % (p * every) ≡ k % p * every =
      mod-mul (k * every) o (pow_pos (g - x))
      ∙ omega (arith, mul-mod_left k every, ap (λ (n : ℕ). n % p * every) (mul-div_cancel k (pow_pos (g - x)))) in
      ap (λ (n : ℕ). k * every % n * step_of c) (per ∙ sym per-every) ∙ ap (λ (n : ℕ). n * step_of c) w ∙ at-step (k % p)

  pub strided-address : (e : ℕ) → (element_at m (Strided f) e).address ≡ (access.start + e * size_of c) % 2 ^ 64
  unfolding element_at
  strided-address e =
      let start = start_of m c f.rn f.rm f.multiple in
      wrapped start (e * step_of c) ∙ ap (λ (n : ℕ). (start % 2 ^ 64 + e * n) % 2 ^ 64) (s.step ∙ sym s.size)

  strided-element : 16 ≤ m.vb → (k : ℕ) → element_at m (Strided f) (k * every) ≡ strided_element access m.vb m.z k
  unfolding element_at strided_element strided_address range_of
  strided-element low k =
      let start = start_of m c f.rn f.rm f.multiple in
      let a = wrapped start (k * every * step_of c) ∙ ap (λ (n : ℕ). (start % 2 ^ 64 + n) % 2 ^ 64) (at-step k) in
      let b = ap₂ (λ (n r : ℕ). take (size_of c) (drop n (vector m (f.first + r * stride_of c)))) (index low k) (row k) in
      λ i. record { number = numbered k i; address = a i; bytes = b i }

  pub strided-elements : 16 ≤ m.vb → elements m (Strided f) ≡ strided_elements access m.vb m.z
  unfolding elements strided_elements range_of active_at
  strided-elements low = go every refl (pow_pos (g - x))
    where
      n : ℕ
      n = c.nreg * (m.vb / 2 ^ g)

      go : (d : ℕ) → every ≡ d → 0 < d → elements m (Strided f) ≡ strided_elements access m.vb m.z
      go zero q h = absurd (omega arith)
      go (suc d) q h =
          ap (λ (k : ℕ). actives (active_at m (Strided f)) (element_at m (Strided f)) k 0) (count-every ∙ ap (λ (k : ℕ). n * k) q)
          ∙ ap (actives (active_at m (Strided f)) (element_at m (Strided f)) (n * suc d)) (sym (zero-mul (suc d)))
          ∙ thinned (active_at m (Strided f)) (element_at m (Strided f)) d (off d q) n 0
          ∙ actives-below (λ j. active_at m (Strided f) (j * suc d)) (between access) (λ j. element_at m (Strided f) (j * suc d))
          (strided_element access m.vb m.z) n
          (λ k l.
          ap (λ (j : ℕ). active_at m (Strided f) (k * j)) (sym q)
          ∙ ap (mask_bit m.vb v) (at-step k)
          ∙ sym (between_is k l))
          (λ k. ap (λ (j : ℕ). element_at m (Strided f) (k * j)) (sym q) ∙ strided-element low k)
          n 0 (omega arith)
