-- Values at their places in a word: what holds of every list of places that descends. A place of no width holds 0 alone.
-- Assumes nothing.
use mathlib.Core.Path.{◌≡◌, refl, sym, ap, ap₂, ◌∙◌, subst}
use mathlib.Core.Bool.{Bool, true, false, cond, ◌&&◌, ◌||◌}
use mathlib.Core.List.{List, [], ◌∷◌}
use Prim.Native.Nat.{ℕ, ◌+◌, ◌-◌, ◌*◌, ◌/◌, ◌%◌, ◌^◌, ◌≤◌, ◌<◌, min}
use native.Mathlib.Nat.{mod-lt, mod-eq_of_lt, lt_of_lt_of_le, lt_of_le_of_lt}
use native.Mathlib.Omega.{arith}
use lib.Arith.{digits_lt, lt-one}
use lib.Bits.{bit_and, and_zero_r, and_comm, and_le_l, and_mask, or_disjoint, or_lt}
use lib.Dec.{T, eqb, ltb, leb, eqb→eq, eqb_refl, ltb→lt, lt→ltb, leb→le}
use lib.Ieee.Fits.{and_i, and_l, and_r}
use lib.Pow.{pow_pos, pow-add, pow_mono, high, low, ones_lt}
use Rattle.encoding.specs.Classes.{Field, bit, every_below, inside}
use Rattle.encoding.proofs.Tests.{Facts, below_at, below_all, holds}
use Rattle.encoding.proofs.Bits.{bit-and, bits-equal, and_below, and-head, and-add}

pub record Place : Type 0 where
  pub low : ℕ
  pub width : ℕ

abbrev pub read_at : Place → ℕ → ℕ
read_at p w = w / 2 ^ p.low % 2 ^ p.width

abbrev pub reads : List Place → ℕ → List ℕ
reads [] w = []
reads (p ∷ ps) w = read_at p w ∷ reads ps w

-- the values' sum, each at its place
abbrev pub sum_at : List Place → List ℕ → ℕ
sum_at [] vs = 0
sum_at (p ∷ ps) [] = 0
sum_at (p ∷ ps) (v ∷ vs) = v * 2 ^ p.low + sum_at ps vs

-- each value is below what its place holds
abbrev pub fit : List Place → List ℕ → Bool
fit [] [] = true
fit [] (v ∷ vs) = false
fit (p ∷ ps) [] = false
fit (p ∷ ps) (v ∷ vs) = ltb v (2 ^ p.width) && fit ps vs

-- the places stand below bit n, each below the one before it; one of no width may stand anywhere
abbrev pub down : ℕ → List Place → Bool
down n [] = true
down n (p ∷ ps) = cond (eqb p.width 0) (down n ps) (leb (p.width + p.low) n && down p.low ps)

abbrev pub ones : List Place → List ℕ
ones [] = []
ones (p ∷ ps) = (2 ^ p.width - 1) ∷ ones ps

-- every place reads 0
abbrev pub clear : List Place → ℕ → Bool
clear [] x = true
clear (p ∷ ps) x = eqb (read_at p x) 0 && clear ps x

pub ones-fit : (ps : List Place) → T (fit ps (ones ps))
ones-fit [] = tt
ones-fit (p ∷ ps) =
    and_i (ltb (2 ^ p.width - 1) (2 ^ p.width)) (fit ps (ones ps))
    (lt→ltb (2 ^ p.width - 1) (2 ^ p.width) (ones_lt p.width)) (ones-fit ps)

pub reads_fit : (ps : List Place) (w : ℕ) → T (fit ps (reads ps w))
reads_fit [] w = tt
reads_fit (p ∷ ps) w =
    and_i (ltb (read_at p w) (2 ^ p.width)) (fit ps (reads ps w))
    (lt→ltb (read_at p w) (2 ^ p.width) (mod-lt (w / 2 ^ p.low) (pow_pos p.width))) (reads_fit ps w)

-- ---- a place and those after it: of no width, or with its bits below n and the rest below its own

data Head (n : ℕ) (p : Place) (ps : List Place) : Type 0 where
  empty : p.width ≡ 0 → T (down n ps) → Head n p ps
  wide : p.width + p.low ≤ n → T (down p.low ps) → Head n p ps

head : (n : ℕ) (p : Place) (ps : List Place) → T (down n (p ∷ ps)) → Head n p ps
head n p ps d = go (eqb p.width 0) refl d
  where
    go : (b : Bool) → eqb p.width 0 ≡ b → T (cond b (down n ps) (leb (p.width + p.low) n && down p.low ps)) → Head n p ps
    go true e t = empty (eqb→eq p.width 0 (holds e)) t
    go false e t =
        wide (leb→le (p.width + p.low) n (and_l (leb (p.width + p.low) n) (down p.low ps) t))
        (and_r (leb (p.width + p.low) n) (down p.low ps) t)

-- a value that fits is below its place's range
module _ (p : Place) (ps : List Place) (v : ℕ) (vs : List ℕ) (t : T (fit (p ∷ ps) (v ∷ vs))) where
  fit-head : v < 2 ^ p.width
  fit-head = ltb→lt v (2 ^ p.width) (and_l (ltb v (2 ^ p.width)) (fit ps vs) t)

  fit-rest : T (fit ps vs)
  fit-rest = and_r (ltb v (2 ^ p.width)) (fit ps vs) t

  -- and 0 at a place of no width
  nothing : p.width ≡ 0 → v ≡ 0
  nothing e = lt-one (subst (λ (k : ℕ). v < 2 ^ k) e fit-head)

  skipped : p.width ≡ 0 → v * 2 ^ p.low + sum_at ps vs ≡ sum_at ps vs
  skipped e = ap (λ (x : ℕ). x * 2 ^ p.low + sum_at ps vs) (nothing e) ∙ omega arith

pub sum_lt : (n : ℕ) (ps : List Place) (vs : List ℕ) → T (down n ps) → T (fit ps vs) → sum_at ps vs < 2 ^ n
sum_lt n [] vs d t = pow_pos n
sum_lt n (p ∷ ps) [] d t = absurd t
sum_lt n (p ∷ ps) (v ∷ vs) d t = go (head n p ps d)
    (λ m h. sum_lt m ps vs h (fit-rest p ps v vs t))
  where
    go : Head n p ps → ((m : ℕ) → T (down m ps) → sum_at ps vs < 2 ^ m) → v * 2 ^ p.low + sum_at ps vs < 2 ^ n
    go (empty e h) rest = subst (λ (x : ℕ). x < 2 ^ n) (sym (skipped p ps v vs t e)) (rest n h)
    go (wide l h) rest =
        lt_of_lt_of_le
        (subst (λ (x : ℕ). v * 2 ^ p.low + sum_at ps vs < x) (sym (pow-add 2 p.width p.low))
        (digits_lt (fit-head p ps v vs t) (rest p.low h)))
        (pow_mono l)

-- a word under the mask of all the places is the sum of what it has there
and-ones : (n : ℕ) (ps : List Place) → T (down n ps) → (w : ℕ) → bit_and w (sum_at ps (ones ps)) ≡ sum_at ps (reads ps w)
and-ones n [] d w = and_zero_r w
and-ones n (p ∷ ps) d w = go (head n p ps d) (λ m h. and-ones m ps h w)
  where
    go : Head n p ps → ((m : ℕ) → T (down m ps) → bit_and w (sum_at ps (ones ps)) ≡ sum_at ps (reads ps w))
        → bit_and w ((2 ^ p.width - 1) * 2 ^ p.low + sum_at ps (ones ps)) ≡ read_at p w * 2 ^ p.low + sum_at ps (reads ps w)
    go (empty e h) rest =
        ap (bit_and w) (skipped p ps (2 ^ p.width - 1) (ones ps) (ones-fit (p ∷ ps)) e)
        ∙ rest n h
        ∙ sym (skipped p ps (read_at p w) (reads ps w) (reads_fit (p ∷ ps) w) e)
    go (wide l h) rest =
        and-head p.low w (2 ^ p.width - 1) (sum_at ps (ones ps)) (sum_lt p.low ps (ones ps) h (ones-fit ps))
        ∙ ap₂ (λ (x y : ℕ). x * 2 ^ p.low + y) (and_mask (w / 2 ^ p.low) p.width) (rest p.low h)

-- a number that is clear at the places has no bit in common with a sum there
and-clear : (n : ℕ) (ps : List Place) (vs : List ℕ) (x : ℕ) → T (down n ps) → T (fit ps vs) → T (clear ps x) → bit_and x (sum_at ps vs) ≡ 0
and-clear n [] vs x d t e = and_zero_r x
and-clear n (p ∷ ps) [] x d t e = absurd t
and-clear n (p ∷ ps) (v ∷ vs) x d t e = go (head n p ps d)
    (λ m h. and-clear m ps vs x h (fit-rest p ps v vs t) (and_r (eqb (read_at p x) 0) (clear ps x) e))
  where
    go : Head n p ps → ((m : ℕ) → T (down m ps) → bit_and x (sum_at ps vs) ≡ 0) → bit_and x (v * 2 ^ p.low + sum_at ps vs) ≡ 0
    go (empty q h) rest = ap (bit_and x) (skipped p ps v vs t q) ∙ rest n h
    go (wide l h) rest =
        let z : bit_and (x / 2 ^ p.low) v ≡ 0 =
        sym (and_below p.width (x / 2 ^ p.low) v (fit-head p ps v vs t))
        ∙ ap (λ (y : ℕ). bit_and y v) (eqb→eq (read_at p x) 0 (and_l (eqb (read_at p x) 0) (clear ps x) e)) in
        and-head p.low x v (sum_at ps vs) (sum_lt p.low ps vs h (fit-rest p ps v vs t))
        ∙ ap₂ (λ (a b : ℕ). a * 2 ^ p.low + b) z (rest p.low h)
        ∙ omega arith

-- a sum shows its values
sum-inj : (n : ℕ) (ps : List Place) (us vs : List ℕ) → T (down n ps) → T (fit ps us) → T (fit ps vs) → sum_at ps us ≡ sum_at ps vs → us ≡ vs
sum-inj n [] [] [] d s t e = refl
sum-inj n [] [] (v ∷ vs) d s t e = absurd t
sum-inj n [] (u ∷ us) vs d s t e = absurd s
sum-inj n (p ∷ ps) [] vs d s t e = absurd s
sum-inj n (p ∷ ps) (u ∷ us) [] d s t e = absurd t
sum-inj n (p ∷ ps) (u ∷ us) (v ∷ vs) d s t e = go (head n p ps d)
    (λ m h q. sum-inj m ps us vs h (fit-rest p ps u us s) (fit-rest p ps v vs t) q)
  where
    go : Head n p ps → ((m : ℕ) → T (down m ps) → sum_at ps us ≡ sum_at ps vs → us ≡ vs) → u ∷ us ≡ v ∷ vs
    go (empty q h) rest =
        ap₂ (λ (x : ℕ) (l : List ℕ). x ∷ l) (nothing p ps u us s q ∙ sym (nothing p ps v vs t q))
        (rest n h (sym (skipped p ps u us s q) ∙ e ∙ skipped p ps v vs t q))
    go (wide l h) rest =
        let hu = sum_lt p.low ps us h (fit-rest p ps u us s) in
        let hv = sum_lt p.low ps vs h (fit-rest p ps v vs t) in
        ap₂ (λ (x : ℕ) (k : List ℕ). x ∷ k)
        (sym (high u p.low hu) ∙ ap (λ (x : ℕ). x / 2 ^ p.low) e ∙ high v p.low hv)
        (rest p.low h (sym (low u p.low hu) ∙ ap (λ (x : ℕ). x % 2 ^ p.low) e ∙ low v p.low hv))

-- ---- a row: a class's fields, their places, its mask and its base word

-- outside the fields the mask has 1; inside, mask and base word have 0
abbrev pub mask-bit : List Field → ℕ → ℕ → ℕ → Bool
mask-bit fs m b i = cond (inside fs i) (eqb (bit m i) 0 && eqb (bit b i) 0) (eqb (bit m i) 1)

abbrev pub same_bit : List Field → ℕ → ℕ → ℕ → Bool
same_bit fs b w i = inside fs i || eqb (bit w i) (bit b i)

pub record Row (fs : List Field) (ps : List Place) (m b : ℕ) : Type 0 where
  pub descends : T (down 32 ps)
  pub base-clear : T (clear ps b)
  pub mask-clear : T (clear ps m)
  pub small : b < 2 ^ 32
  pub whole : m + sum_at ps (ones ps) ≡ 2 ^ 32 - 1
  pub bits-right : T (every_below 32 (mask-bit fs m b))

abbrev pub row-right : List Field → List Place → ℕ → ℕ → List Bool
row-right fs ps m b =
    down 32 ps
    ∷ clear ps b
    ∷ clear ps m
    ∷ ltb b (2 ^ 32)
    ∷ eqb (m + sum_at ps (ones ps)) (2 ^ 32 - 1)
    ∷ every_below 32 (mask-bit fs m b)
    ∷ []

pub row : (fs : List Field) (ps : List Place) (m b : ℕ) → Facts (row-right fs ps m b) → Row fs ps m b
row fs ps m b (d, (cb, (cm, (s, (w, (r, u)))))) =
    record {
      descends = d;
      base-clear = cb;
      mask-clear = cm;
      small = ltb→lt b (2 ^ 32) s;
      whole = eqb→eq (m + sum_at ps (ones ps)) (2 ^ 32 - 1) w;
      bits-right = r;
    }

bit-to : (o : Bool) (x m b : ℕ) → x < 2 → T (cond o (eqb m 0 && eqb b 0) (eqb m 1)) → min x m ≡ b → T (o || eqb x b)
bit-to true x m b h t e = tt
bit-to false x m b h t e =
    let k : m ≡ 1 = eqb→eq m 1 t in
    let l : x ≡ b = omega arith in
    subst (λ (y : ℕ). T (eqb x y)) l (eqb_refl x)

bit-from : (o : Bool) (x m b : ℕ) → x < 2 → T (cond o (eqb m 0 && eqb b 0) (eqb m 1)) → T (o || eqb x b) → min x m ≡ b
bit-from true x m b h t e =
    let k : m ≡ 0 = eqb→eq m 0 (and_l (eqb m 0) (eqb b 0) t) in
    let l : b ≡ 0 = eqb→eq b 0 (and_r (eqb m 0) (eqb b 0) t) in
    omega arith
bit-from false x m b h t e =
    let k : m ≡ 1 = eqb→eq m 1 t in
    let l : x ≡ b = eqb→eq x b e in
    omega arith

module _ (fs : List Field) (ps : List Place) (m b : ℕ) (r : Row fs ps m b) where
  bit-small : (w i : ℕ) → bit w i < 2
  bit-small w i = mod-lt (w / 2 ^ i) (omega arith)

  -- the mask test is membership
  pub mask-member : (w : ℕ) → bit_and w m ≡ b → T (every_below 32 (same_bit fs b w))
  mask-member w e =
      below_all 32 (same_bit fs b w)
      (λ i h. bit-to (inside fs i) (bit w i) (bit m i) (bit b i) (bit-small w i) (below_at 32 (mask-bit fs m b) r.bits-right i h)
      (sym (bit-and w m i) ∙ ap (λ (n : ℕ). bit n i) e))

  pub member-mask : (w : ℕ) → w < 2 ^ 32 → T (every_below 32 (same_bit fs b w)) → bit_and w m ≡ b
  member-mask w hw t =
      bits-equal 32 (bit_and w m) b (lt_of_le_of_lt (and_le_l w m) hw) r.small
      (λ i h.
      bit-and w m i
      ∙ bit-from (inside fs i) (bit w i) (bit m i) (bit b i) (bit-small w i) (below_at 32 (mask-bit fs m b) r.bits-right i h)
      (below_at 32 (same_bit fs b w) t i h))

  -- a word of the class is its base word and what it has at the places
  pub joined : (w : ℕ) → w < 2 ^ 32 → bit_and w m ≡ b → b + sum_at ps (reads ps w) ≡ w
  joined w h e =
      ap₂ (λ (x y : ℕ). x + y) (sym e) (sym (and-ones 32 ps r.descends w))
      ∙ sym (and-add 32 w m (sum_at ps (ones ps)) h (and-clear 32 ps (ones ps) m r.descends (ones-fit ps) r.mask-clear))
      ∙ ap (bit_and w) r.whole
      ∙ and_mask w 32
      ∙ mod-eq_of_lt h

  module _ (vs : List ℕ) (t : T (fit ps vs)) where
    apart : bit_and b (sum_at ps vs) ≡ 0
    apart = and-clear 32 ps vs b r.descends t r.base-clear

    -- a base word and values that fit make a word
    pub made-small : b + sum_at ps vs < 2 ^ 32
    made-small =
        subst (λ (x : ℕ). x < 2 ^ 32) (or_disjoint b (sum_at ps vs) apart)
        (or_lt 32 b (sum_at ps vs) r.small (sum_lt 32 ps vs r.descends t))

    same_self : (o : Bool) (x : ℕ) → T (o || eqb x x)
    same_self true x = tt
    same_self false x = eqb_refl x

    -- of the class
    pub made-masked : bit_and (b + sum_at ps vs) m ≡ b
    made-masked =
        let own = member-mask b r.small (below_all 32 (same_bit fs b b) (λ i h. same_self (inside fs i) (bit b i))) in
        let none = and-clear 32 ps vs m r.descends t r.mask-clear in
        let l : m < 2 ^ 32 = omega (arith, r.whole) in
        and_comm (b + sum_at ps vs) m
        ∙ and-add 32 m b (sum_at ps vs) l apart
        ∙ omega (arith, and_comm m b, own, none)

    -- that has the values at the places
    pub made_reads : reads ps (b + sum_at ps vs) ≡ vs
    made_reads =
        sum-inj 32 ps (reads ps (b + sum_at ps vs)) vs r.descends (reads_fit ps (b + sum_at ps vs)) t
        (omega (arith, joined (b + sum_at ps vs) made-small made-masked))
