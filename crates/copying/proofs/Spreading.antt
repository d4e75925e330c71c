-- Elements put over memory at equal distances, one by one and register by register. Assumes nothing.
use mathlib.Core.Path.{◌≡◌, refl, sym, ap, ap₂, ◌∙◌}
use mathlib.Core.List.{List}
use Prim.Native.Nat.{ℕ, zero, suc, ◌+◌, ◌-◌, ◌*◌, ◌≤◌, ◌<◌}
use native.Mathlib.Nat.{zero-mul, suc-mul, add-mul, mul-le-mul, mul-le-mul_right}
use native.Mathlib.Numerals.{add-one}
use native.Mathlib.Omega.{arith}
use lib.ListN.{length, take, drop, length-take, length-drop}
use lib.Seq.{drop-drop, take-length}
use Rattle.endian.specs.Overwriting.{overwritten}
use Rattle.endian.proofs.Order.{two}
use Rattle.endian.proofs.Parts.{length_over}
use Rattle.elements.specs.Machine.{register}
use Rattle.elements.specs.Accesses.{StridedSound, strided_element}
use Rattle.elements.specs.declared.StridedAccess.{StridedAccess}
use Rattle.accesses.proofs.Sizes.{per_small, its-bytes}
use Rattle.copying.specs.Spreading.{Room, Copies, spread_over, spread_from, spread}

-- ---- any bytes

-- equal bytes, counted from another number on
spread_same : (p p' : ℕ → List ℕ) (gap n k k' : ℕ) (mem : List ℕ) (at : ℕ) → ((j : ℕ) → j < n → p (k + j) ≡ p' (k' + j))
    → spread_over p gap n k mem at ≡ spread_over p' gap n k' mem at
unfolding spread_over
spread_same p p' gap zero k k' mem at f = refl
spread_same p p' gap (suc n) k k' mem at f =
    let a : k + 0 ≡ k = omega arith in
    let b : k' + 0 ≡ k' = omega arith in
    let here : p k ≡ p' k' = ap p (sym a) ∙ f 0 (omega arith) ∙ ap p' b in
    ap (λ (y : List ℕ). spread_over p gap n (suc k) (overwritten mem at y) (at + gap)) here
    ∙ spread_same p p' gap n (suc k) (suc k') (overwritten mem at (p' k')) (at + gap)
    (λ j h.
    let u : suc k + j ≡ k + suc j = omega arith in
    let v : k' + suc j ≡ suc k' + j = omega arith in
    ap p u ∙ f (suc j) (omega arith) ∙ ap p' v)

-- a of them, and then b
spread-append : (p : ℕ → List ℕ) (gap a b k : ℕ) (mem : List ℕ) (at : ℕ)
    → spread_over p gap (a + b) k mem at ≡ spread_over p gap b (k + a) (spread_over p gap a k mem at) (at + a * gap)
unfolding spread_over
spread-append p gap zero b k mem at =
    let u : 0 + b ≡ b = omega arith in
    let v : k ≡ k + 0 = omega arith in
    let w : at ≡ at + 0 * gap = omega (arith, zero-mul gap) in
    λ i. spread_over p gap (u i) (v i) mem (w i)
spread-append p gap (suc a) b k mem at =
    let u : suc a + b ≡ suc (a + b) = omega arith in
    let v : suc k + a ≡ k + suc a = omega arith in
    let w : at + gap + a * gap ≡ at + suc a * gap = omega (arith, suc-mul a gap) in
    ap (λ (n : ℕ). spread_over p gap n k mem at) u
    ∙ spread-append p gap a b (suc k) (overwritten mem at (p k)) (at + gap)
    ∙ (λ i. spread_over p gap b (v i) (spread_over p gap a (suc k) (overwritten mem at (p k)) (at + gap)) (w i))

-- ---- `copy_each`

-- e of n elements are copied, and counted
pub record EachCopied (src mem₀ : List ℕ) (at n gap size : ℕ) (mem : List ℕ) (elements bytes e : ℕ) : Type 0 where
  pub most : e ≤ n
  pub counted : elements ≡ e
  pub weighed : bytes ≡ e * size
  pub long : length mem ≡ length mem₀
  pub same : spread_from src gap size (n - e) e mem (at + e * gap) ≡ spread_from src gap size n 0 mem₀ at

module _ {src mem₀ : List ℕ} {at n gap size : ℕ} (o : Room src mem₀ at n gap size) where
  pub each_first : EachCopied src mem₀ at n gap size mem₀ 0 0 0
  each_first =
      let u : n - 0 ≡ n = omega arith in
      let w : at + 0 * gap ≡ at = omega (arith, zero-mul gap) in
      record {
        most = omega arith;
        counted = refl;
        weighed = sym (zero-mul size);
        long = refl;
        same = λ i. spread_from src gap size (u i) 0 mem₀ (w i);
      }

  module _ {mem : List ℕ} {elements bytes e : ℕ} (c : EachCopied src mem₀ at n gap size mem elements bytes e) (h : e < n) where
    -- element e lies in both
    pub each_in : at + e * gap + size ≤ length mem
    each_in = omega (arith, suc-mul e gap, mul-le-mul_right gap h, o.inside, o.fit, c.long)

    pub each-source : e * gap + size ≤ length src
    each-source = omega (arith, suc-mul e gap, mul-le-mul_right gap h, o.source, o.fit)

    -- small enough for sums
    pub each-small : (bytes + size ≤ 1024 * 256) × (at + e * gap + size ≤ 65536)
    each-small =
        let s : size ≤ 256 = omega (arith, o.fit, o.small) in (
          omega (arith, c.weighed, suc-mul e size, mul-le-mul_right size h, mul-le-mul o.few s),
          omega (arith, each_in, c.long, o.window),
        )

    pub each_next : (mem' : List ℕ) (k b : ℕ) → mem' ≡ overwritten mem (at + e * gap) (take size (drop (e * gap) src)) → k ≡ elements + 1
        → b ≡ bytes + size → EachCopied src mem₀ at n gap size mem' k b (e + 1)
    unfolding spread_over
    each_next mem' k b q ek eb =
        let u : n - e ≡ suc (n - (e + 1)) = omega arith in
        let v : e + 1 ≡ suc e = add-one e in
        let w : at + (e + 1) * gap ≡ at + e * gap + gap = omega (arith, ap (λ (y : ℕ). y * gap) v, suc-mul e gap) in
        let l : length (take size (drop (e * gap) src)) ≡ size =
        omega (arith, each-source, length-take size (drop (e * gap) src), length-drop (e * gap) src) in
        record {
          most = omega arith;
          counted = omega (arith, c.counted);
          weighed = omega (arith, c.weighed, ap (λ (y : ℕ). y * size) v, suc-mul e size);
          long = ap length q ∙ length_over mem (at + e * gap) (take size (drop (e * gap) src)) (omega (arith, each_in)) ∙ c.long;
          same =
              (λ i. spread_from src gap size (n - (e + 1)) (v i) (q i) (w i))
              ∙ sym (ap (λ (y : ℕ). spread_from src gap size y e mem (at + e * gap)) u)
              ∙ c.same;
        }

  pub each-done : {mem : List ℕ} {elements bytes e : ℕ} → EachCopied src mem₀ at n gap size mem elements bytes e → n ≤ e
      → Copies src mem₀ at n gap size elements bytes mem
  unfolding spread_over
  each-done {mem} {e = e} c h =
      let w : e ≡ n = omega (arith, c.most) in
      let u : 0 ≡ n - e = omega arith in
      record {
        counted = c.counted ∙ w;
        weighed = c.weighed ∙ ap (λ (k : ℕ). k * size) w;
        same = ap (λ (y : ℕ). spread_from src gap size y e mem (at + e * gap)) u ∙ c.same;
      }

-- ---- `copy_active`

-- the part from a on
pub rest-is : (l : List ℕ) (a : ℕ) → take (length l - a) (drop a l) ≡ drop a l
rest-is l a = ap (λ (n : ℕ). take n (drop a l)) (sym (length-drop a l)) ∙ take-length (drop a l)

module _ (s : StridedAccess) (vb : ℕ) (o : StridedSound s vb) where
  pub row_small : (r : ℕ) → r < s.nreg → (r + 1) * s.per ≤ 1024
  row_small r h = let l : r + 1 ≤ 4 = omega (arith, o.nreg) in mul-le-mul l (per_small s vb o)

-- the lower of two numbers, where it isn't the first
capped : (a b x : ℕ) → x ≡ a - (a - b) → x < a → b ≤ x
capped a b x q h = omega arith

-- active elements below k are copied; r registers are passed
pub record Copied (s : StridedAccess) (vb : ℕ) (z mem₀ : List ℕ) (at : ℕ) (mem : List ℕ) (elements bytes k r : ℕ) : Type 0 where
  pub rows : r ≤ s.nreg
  pub low : s.low ≤ k
  pub high : k ≤ s.high
  pub ahead : k < s.high → r * s.per ≤ k
  pub counted : elements ≡ k - s.low
  pub weighed : bytes ≡ (k - s.low) * s.size
  pub long : length mem ≡ length mem₀
  pub same : spread s vb z (s.high - k) k mem (at + (k - s.low) * s.gap) ≡ spread s vb z (s.high - s.low) s.low mem₀ at

module _ {s : StridedAccess} {vb : ℕ} (o : StridedSound s vb) (z : List ℕ) (q : length z ≡ 32 * vb) (mem₀ : List ℕ) (at : ℕ) where
  pub copied-first : Copied s vb z mem₀ at mem₀ 0 0 s.low 0
  copied-first =
      let w : s.low - s.low ≡ 0 = omega arith in
      let none : (d : ℕ) → (s.low - s.low) * d ≡ 0 = λ d. ap (λ (n : ℕ). n * d) w ∙ zero-mul d in
      let here : at + (s.low - s.low) * s.gap ≡ at = omega (arith, none s.gap) in
      record {
        rows = omega arith;
        low = omega arith;
        high = o.order;
        ahead = λ h. omega (arith, zero-mul s.per);
        counted = omega arith;
        weighed = sym (none s.size);
        long = refl;
        same = ap (spread s vb z (s.high - s.low) s.low mem₀) here;
      }

  module _ {mem : List ℕ} {elements bytes k r to : ℕ} (h : r < s.nreg) (c : Copied s vb z mem₀ at mem elements bytes k r)
      (t : to ≡ s.high - (s.high - (r + 1) * s.per)) where
    -- register r has none
    pub copied-off : to ≤ k → Copied s vb z mem₀ at mem elements bytes k (r + 1)
    copied-off l =
        record {
          rows = omega arith;
          low = c.low;
          high = c.high;
          ahead = λ j. omega arith;
          counted = c.counted;
          weighed = c.weighed;
          long = c.long;
          same = c.same;
        }

    -- register r has elements k up to `to`
    module _ (l : k < to) where
      next : (r + 1) * s.per ≡ r * s.per + s.per
      next = ap (λ (n : ℕ). n * s.per) (add-one r) ∙ suc-mul r s.per

      pub part-from : r * s.per ≤ k
      part-from = c.ahead (omega arith)

      pub part-until : to ≤ r * s.per + s.per
      part-until = omega (arith, next)

      pub part-high : to ≤ s.high
      part-high = omega arith

      -- from their first byte to the register's end
      pub part-source : (k - r * s.per) * s.gap + (to - k) * s.gap ≤ vb
      part-source =
          let f : r * s.per ≤ k = part-from in
          let u : to ≤ r * s.per + s.per = part-until in
          let d : (k - r * s.per) + (to - k) ≤ s.per = omega arith in
          omega (arith, add-mul (k - r * s.per) (to - k) s.gap, mul-le-mul_right s.gap d, o.whole)

      -- and in memory
      split : (k - s.low) + (to - k) ≡ to - s.low
      split = let cl : s.low ≤ k = c.low in omega arith

      pub part_out : (L : ℕ) → at + (s.high - s.low) * s.gap ≤ L + (s.gap - s.size)
          → at + (k - s.low) * s.gap + (to - k) * s.gap ≤ L + (s.gap - s.size)
      part_out L m =
          let p : to ≤ s.high = part-high in
          let d : (k - s.low) + (to - k) ≤ s.high - s.low = omega (arith, split) in
          omega (arith, add-mul (k - s.low) (to - k) s.gap, mul-le-mul_right s.gap d)

      -- its elements are the store's
      part-is : (reg : List ℕ) → reg ≡ register vb z (s.first + r * s.stride) → (mem : List ℕ) (p : ℕ)
          → spread_from (drop ((k - r * s.per) * s.gap) reg) s.gap s.size (to - k) 0 mem p ≡ spread s vb z (to - k) k mem p
      part-is reg e mem p =
          spread_same (λ j. take s.size (drop (j * s.gap) (drop ((k - r * s.per) * s.gap) reg)))
          (λ j. (strided_element s vb z j).bytes) s.gap (to - k) 0 k mem p
          (λ j u.
          let f : r * s.per ≤ k = part-from in
          let v : to ≤ r * s.per + s.per = part-until in
          let w : (k - r * s.per) * s.gap + (0 + j) * s.gap ≡ (k + j - r * s.per) * s.gap =
          sym (add-mul (k - r * s.per) (0 + j) s.gap) ∙ ap (λ (n : ℕ). n * s.gap) (omega arith) in
          ap (take s.size)
          (drop-drop ((0 + j) * s.gap) ((k - r * s.per) * s.gap) reg ∙ ap₂ drop w e)
          ∙ sym (its-bytes s vb o r (k + j) (omega arith) (omega arith) z))

      pub copied_on : {reg src mem' : List ℕ} {n b : ℕ} → reg ≡ register vb z (s.first + r * s.stride)
          → src ≡ drop ((k - r * s.per) * s.gap) reg → n ≡ elements + (to - k) → b ≡ bytes + (to - k) * s.size
          → length mem' ≡ length mem → mem' ≡ spread_from src s.gap s.size (to - k) 0 mem (at + (k - s.low) * s.gap)
          → Copied s vb z mem₀ at mem' n b to (r + 1)
      copied_on {reg} er es kq bq lq ms =
          let cl : s.low ≤ k = c.low in
          let p : to ≤ s.high = part-high in
          let u : to ≤ r * s.per + s.per = part-until in
          let m : (d : ℕ) → (k - s.low) * d + (to - k) * d ≡ (to - s.low) * d =
          λ d. sym (add-mul (k - s.low) (to - k) d) ∙ ap (λ (x : ℕ). x * d) split in
          let a : s.high - k ≡ (to - k) + (s.high - to) = omega arith in
          let v : k + (to - k) ≡ to = omega arith in
          let w : at + (k - s.low) * s.gap + (to - k) * s.gap ≡ at + (to - s.low) * s.gap = omega (arith, m s.gap) in
          let here : ℕ = at + (k - s.low) * s.gap in
          let mq = ms ∙ ap (λ (l : List ℕ). spread_from l s.gap s.size (to - k) 0 mem here) es in
          record {
            rows = omega arith;
            low = omega arith;
            high = p;
            ahead = λ j. capped s.high ((r + 1) * s.per) to t j;
            counted = kq ∙ ap (λ (x : ℕ). x + (to - k)) c.counted ∙ split;
            weighed = omega (arith, c.weighed, m s.size);
            long = lq ∙ c.long;
            same =
                (λ i. spread s vb z (s.high - to) (sym v i) ((mq ∙ part-is reg er mem here) i) (sym w i))
                ∙ sym (spread-append (λ j. (strided_element s vb z j).bytes) s.gap (to - k) (s.high - to) k mem here)
                ∙ ap (λ (n : ℕ). spread s vb z n k mem here) (sym a)
                ∙ c.same;
          }

  pub copied-done : {mem : List ℕ} {elements bytes k r : ℕ} → s.nreg ≤ r → Copied s vb z mem₀ at mem elements bytes k r
      → (elements ≡ s.high - s.low) × (bytes ≡ (s.high - s.low) * s.size)
      × (mem ≡ spread s vb z (s.high - s.low) s.low mem₀ at)
  unfolding spread_over
  copied-done {mem} {k = k} h c =
      let w : k ≡ s.high =
      two k s.high
      (λ l. absurd (omega (arith, mul-le-mul_right s.per h, c.ahead l, o.most)))
      (λ l. omega (arith, c.high)) in
      let v : 0 ≡ s.high - k = omega arith in (
        c.counted ∙ ap (λ (x : ℕ). x - s.low) w,
        c.weighed ∙ ap (λ (x : ℕ). (x - s.low) * s.size) w,
        ap (λ (n : ℕ). spread s vb z n k mem (at + (k - s.low) * s.gap)) v ∙ c.same,
      )
