-- Two parts side by side, byte by byte: their entries counted, and put into a list. Assumes nothing.
use mathlib.Core.Path.{◌≡◌, refl, sym, ap, ap₂, ◌∙◌}
use Prim.Native.Nat.{ℕ, zero, suc, ◌+◌, ◌-◌, ◌*◌, ◌^◌, ◌≤◌, ◌<◌}
use mathlib.Core.List.{List, [], ◌∷◌, ◌++◌, append_assoc}
use mathlib.Core.Bool.{Bool, true, false}
use mathlib.Core.Option.{Option, none, some}
use native.Mathlib.Omega.{arith}
use native.Mathlib.Nat.{zero-add, add-zero}
use native.Mathlib.Numerals.{add-one}
use lib.ListN.{length, take, drop, get_or, set, length-set, length-append, drop_of_length-le}
use lib.Dec.{eqb, ltb}
use borrow.Author.Tests.{lt-ltb, le-ltb, eq-eqb, ne_eqb, eqb-true, eqb-false, ltb-false}
use Rattle.endian.specs.LittleEndian.{Bytes, le_val, le_bytes}
use Rattle.endian.proofs.LittleEndian.{bytes_drop, le_bytes-part}
use Rattle.endian.proofs.Order.{not-both}
use Rattle.endian.proofs.Parts.{length_part, drop-split}
use Rattle.comparing.specs.Differences.{Difference, differ}
use Rattle.comparing.specs.Comparing.{side_number, numbers_of}
use Rattle.comparing.specs.Merging.{zipped, side_at, byte_at, entry_at, same_eight, put, Parts, Room}

-- ---- the first byte of each

abbrev byte_of : List ℕ → Option ℕ
byte_of [] = none
byte_of (b ∷ p) = some b

abbrev behind : List ℕ → List ℕ
behind [] = []
behind (b ∷ p) = p

side-drop : (p : List ℕ) (i : ℕ) → side_at p i ≡ side_number (byte_of (drop i p))
unfolding side_at
side-drop [] zero = refl
side-drop [] (suc i) = refl
side-drop (b ∷ p) zero = refl
side-drop (b ∷ p) (suc i) = side-drop p i

-- a byte that is there, and none behind the end
pub side-in : (p : List ℕ) (i : ℕ) → i < length p → get_or p i 0 ≡ side_at p i
unfolding side_at
side-in [] i h = absurd (omega arith)
side-in (b ∷ p) zero h = refl
side-in (b ∷ p) (suc i) h = side-in p i (omega arith)

pub side-past : (p : List ℕ) (i : ℕ) → length p ≤ i → 256 ≡ side_at p i
unfolding side_at
side-past [] zero h = refl
side-past [] (suc i) h = refl
side-past (b ∷ p) zero h = absurd (omega arith)
side-past (b ∷ p) (suc i) h = side-past p i (omega arith)

behind-drop : (p : List ℕ) (i : ℕ) → drop (i + 1) p ≡ behind (drop i p)
behind-drop p i = ap (λ (z : ℕ). drop z p) (add-one i) ∙ go p i
  where
    go : (p : List ℕ) (i : ℕ) → drop (suc i) p ≡ behind (drop i p)
    go [] zero = refl
    go [] (suc i) = refl
    go (b ∷ p) zero = refl
    go (b ∷ p) (suc i) = go p i

zip-same : (a : ℕ) (p q : List ℕ) → Bytes p → Bytes q → side_number (byte_of p) ≡ side_number (byte_of q)
    → zipped a p q ≡ zipped (suc a) (behind p) (behind q)
unfolding zipped
zip-same a [] [] g h e = refl
zip-same a [] (d ∷ q) g h e = let k : d < 256 = h.0 in absurd (omega (arith, e))
zip-same a (b ∷ p) [] g h e = let k : b < 256 = g.0 in absurd (omega (arith, e))
zip-same a (b ∷ p) (d ∷ q) g h e = simp (eq-eqb b d e)

zip-other : (a : ℕ) (p q : List ℕ) → (side_number (byte_of p) ≡ side_number (byte_of q) → ⊥)
    → zipped a p q ≡ differ a (byte_of p) (byte_of q) ∷ zipped (suc a) (behind p) (behind q)
unfolding zipped
zip-other a [] [] h = absurd (h refl)
zip-other a [] (d ∷ q) h = refl
zip-other a (b ∷ p) [] h = refl
zip-other a (b ∷ p) (d ∷ q) h = simp (ne_eqb b d h)

-- ---- at an index

abbrev pub from : ℕ → List ℕ → List ℕ → ℕ → List Difference
from a p q i = zipped (a + i) (drop i p) (drop i q)

from_next : (a i : ℕ) (p q : List ℕ) → zipped (suc (a + i)) (behind (drop i p)) (behind (drop i q)) ≡ from a p q (i + 1)
from_next a i p q =
    let w : suc (a + i) ≡ a + (i + 1) = omega arith in
    ap (λ (z : ℕ). zipped z (behind (drop i p)) (behind (drop i q))) w
    ∙ ap₂ (zipped (a + (i + 1))) (sym (behind-drop p i)) (sym (behind-drop q i))

from-same : (a i : ℕ) (p q : List ℕ) → Bytes p → Bytes q → side_at p i ≡ side_at q i → from a p q i ≡ from a p q (i + 1)
from-same a i p q g h e =
    zip-same (a + i) (drop i p) (drop i q) (bytes_drop i p g) (bytes_drop i q h) (sym (side-drop p i) ∙ e ∙ side-drop q i)
    ∙ from_next a i p q

from-other : (a i : ℕ) (p q : List ℕ) → (side_at p i ≡ side_at q i → ⊥)
    → from a p q i ≡ differ (a + i) (byte_of (drop i p)) (byte_of (drop i q)) ∷ from a p q (i + 1)
from-other a i p q h =
    zip-other (a + i) (drop i p) (drop i q) (λ e. h (side-drop p i ∙ e ∙ sym (side-drop q i)))
    ∙ ap (λ (z : List Difference). differ (a + i) (byte_of (drop i p)) (byte_of (drop i q)) ∷ z) (from_next a i p q)

byte-drop : (p : List ℕ) (i : ℕ) → byte_at p i ≡ byte_of (drop i p)
unfolding byte_at
byte-drop [] zero = refl
byte-drop [] (suc i) = refl
byte-drop (b ∷ p) zero = refl
byte-drop (b ∷ p) (suc i) = byte-drop p i

pub side-byte : (p : List ℕ) (i : ℕ) → side_at p i ≡ side_number (byte_at p i)
side-byte p i = side-drop p i ∙ ap side_number (sym (byte-drop p i))

pub entry-none : (a : ℕ) (p q : List ℕ) (i : ℕ) → side_at p i ≡ side_at q i → entry_at a p q i ≡ []
unfolding entry_at
entry-none a p q i e = simp (eq-eqb (side_at p i) (side_at q i) e)

pub entry-one : (a : ℕ) (p q : List ℕ) (i : ℕ) → (side_at p i ≡ side_at q i → ⊥)
    → entry_at a p q i ≡ differ (a + i) (byte_at p i) (byte_at q i) ∷ []
unfolding entry_at
entry-one a p q i h = simp (ne_eqb (side_at p i) (side_at q i) h)

pub entry_length : (a : ℕ) (p q : List ℕ) (i : ℕ) → (side_at p i ≡ side_at q i → ⊥) → length (entry_at a p q i) ≡ 1
entry_length a p q i h = ap length (entry-one a p q i h)

-- put into the list
pub listed-none : (l : List ℕ) (k a : ℕ) (p q : List ℕ) (i : ℕ) → side_at p i ≡ side_at q i
    → (l ≡ put k l (entry_at a p q i)) × (k ≡ k + 3 * length (entry_at a p q i))
unfolding put
listed-none l k a p q i e =
    let w = sym (entry-none a p q i e) in
    (ap (put k l) w, sym (add-zero k) ∙ ap (λ (z : List Difference). k + 3 * length z) w)

pub listed-one : (l : List ℕ) (k a : ℕ) (p q : List ℕ) (i : ℕ) → (side_at p i ≡ side_at q i → ⊥) → (x y : ℕ) → x ≡ side_at p i
    → y ≡ side_at q i
    → (set (set (set l k (a + i)) (k + 1) x) (k + 2) y ≡ put k l (entry_at a p q i)) × (k + 3 ≡ k + 3 * length (entry_at a p q i))
unfolding put
listed-one l k a p q i h x y ex ey =
    let w = sym (entry-one a p q i h) in (
      ap₂ (λ (u v : ℕ). set (set (set l k (a + i)) (k + 1) u) (k + 2) v) (ex ∙ side-byte p i) (ey ∙ side-byte q i) ∙ ap (put k l) w,
      ap (λ (z : List Difference). k + 3 * length z) w,
    )

-- an index's entry, and those of the next
entry_next : (a i : ℕ) (p q : List ℕ) → Bytes p → Bytes q → from a p q i ≡ entry_at a p q i ++ from a p q (i + 1)
entry_next a i p q g h = go (eqb (side_at p i) (side_at q i)) refl
  where
    go : (b : Bool) → eqb (side_at p i) (side_at q i) ≡ b → from a p q i ≡ entry_at a p q i ++ from a p q (i + 1)
    go true e =
        let w = eqb-true (side_at p i) (side_at q i) e in
        from-same a i p q g h w ∙ ap (λ (z : List Difference). z ++ from a p q (i + 1)) (sym (entry-none a p q i w))
    go false e =
        let w = eqb-false (side_at p i) (side_at q i) e in
        from-other a i p q w
        ∙ ap₂ (λ (x y : Option ℕ). differ (a + i) x y ∷ from a p q (i + 1)) (sym (byte-drop p i)) (sym (byte-drop q i))
        ∙ ap (λ (z : List Difference). z ++ from a p q (i + 1)) (sym (entry-one a p q i w))

-- what both begin with is passed
zip-front : (a : ℕ) (x p q : List ℕ) → zipped a (x ++ p) (x ++ q) ≡ zipped (a + length x) p q
unfolding zipped
zip-front a [] p q = ap (λ (z : ℕ). zipped z p q) (sym (add-zero a))
zip-front a (b ∷ x) p q =
    let w : suc a + length x ≡ a + suc (length x) = omega arith in
    simp (eq-eqb b b refl) (zip-front (suc a) x p q ∙ ap (λ (z : ℕ). zipped z p q) w)

pub eight-few : (p q : List ℕ) (i : ℕ) → length p - i < 8 → false ≡ same_eight p q i
unfolding same_eight
eight-few p q i h = simp (lt-ltb (length p - i) 8 h)

pub eight-told : (p q : List ℕ) (i : ℕ) → 8 ≤ length p - i
    → eqb (le_val (take 8 (drop i p))) (le_val (take 8 (drop i q))) ≡ same_eight p q i
unfolding same_eight
eight-told p q i h = simp (le-ltb (length p - i) 8 h)

pub same-eight : (p q : List ℕ) (i : ℕ) → Bytes p → Bytes q → i ≤ length p → length q ≡ length p → same_eight p q i ≡ true
    → (i + 8 ≤ length p) × ((a : ℕ) → from a p q i ≡ from a p q (i + 8))
unfolding same_eight
same-eight p q i g h l e t = go (ltb (length p - i) 8) refl
  where
    go : (b : Bool) → ltb (length p - i) 8 ≡ b → (i + 8 ≤ length p) × ((a : ℕ) → from a p q i ≡ from a p q (i + 8))
    go true w = not-both (same_eight p q i) t (simp w)
    go false w =
        let n : 8 ≤ length p - i = ltb-false (length p - i) 8 w in
        let v : le_val (take 8 (drop i p)) ≡ le_val (take 8 (drop i q)) =
        eqb-true (le_val (take 8 (drop i p))) (le_val (take 8 (drop i q))) (sym (simp w) ∙ t) in
        let x = take 8 (drop i p) in
        let s : x ≡ take 8 (drop i q) =
        sym (le_bytes-part p i 8 g (omega arith)) ∙ ap (le_bytes 8) v ∙ le_bytes-part q i 8 h (omega arith) in (
          omega arith,
          λ a.
              ap₂ (zipped (a + i)) (drop-split p i 8) (drop-split q i 8 ∙ ap (λ (z : List ℕ). z ++ drop (i + 8) q) (sym s))
              ∙ zip-front (a + i) x (drop (i + 8) p) (drop (i + 8) q)
              ∙ ap (λ (z : ℕ). zipped z (drop (i + 8) p) (drop (i + 8) q)) {x = a + i + length x} {y = a + (i + 8)}
              (omega (arith, length_part p i 8 (omega arith))),
        )

from_first : (a : ℕ) (p q : List ℕ) → from a p q 0 ≡ zipped a p q
from_first a p q = ap (λ (z : ℕ). zipped z p q) (add-zero a)

from_last : (a i n : ℕ) (p q : List ℕ) → Parts p q n → n ≤ i → from a p q i ≡ []
unfolding zipped
from_last a i n p q g h =
    ap₂ (zipped (a + i)) (drop_of_length-le p {i = i} (omega (arith, g.first_most)))
    (drop_of_length-le q {i = i} (omega (arith, g.second_most)))

-- ---- counted

pub record Counting (p q : List ℕ) (len i n : ℕ) : Type 0 where
  pub parts : Parts p q len
  pub most : n ≤ i
  pub same : (a : ℕ) → n + length (from a p q i) ≡ length (zipped a p q)

pub counting-first : (p q : List ℕ) (len : ℕ) → Parts p q len → Counting p q len 0 0
counting-first p q len g =
    record { parts = g; most = omega arith; same = λ a. zero-add (length (from a p q 0)) ∙ ap length (from_first a p q) }

module _ (p q : List ℕ) (len i n : ℕ) (c : Counting p q len i n) where
  pub counting-same : side_at p i ≡ side_at q i → Counting p q len (i + 1) n
  counting-same e =
      let g = c.parts in
      record {
        parts = g;
        most = omega (arith, c.most);
        same = λ a. omega (arith, c.same a, ap length (from-same a i p q g.first g.second e));
      }

  pub counting-other : (side_at p i ≡ side_at q i → ⊥) → Counting p q len (i + 1) (n + 1)
  counting-other h = record {
    parts = c.parts;
    most = omega (arith, c.most);
    same = λ a. omega (arith, c.same a, ap length (from-other a i p q h));
  }

  pub counting-last : len ≤ i → (a : ℕ) → n ≡ length (zipped a p q)
  counting-last h a = omega (arith, c.same a, ap length (from_last a i len p q c.parts h))

-- ---- entries put one after another

pub put-append : (k : ℕ) (l : List ℕ) (ds es : List Difference) → put k l (ds ++ es) ≡ put (k + 3 * length ds) (put k l ds) es
unfolding put
put-append k l [] es = ap (λ (z : ℕ). put z l es) (omega arith)
put-append k l (differ a o p ∷ ds) es =
    let m = set (set (set l k a) (k + 1) (side_number o)) (k + 2) (side_number p) in
    let w : k + 3 + 3 * length ds ≡ k + 3 * suc (length ds) = omega arith in
    put-append (k + 3) m ds es ∙ ap (λ (z : ℕ). put z (put (k + 3) m ds) es) w

pub length-put : (k : ℕ) (l : List ℕ) (ds : List Difference) → length (put k l ds) ≡ length l
unfolding put
length-put k l [] = refl
length-put k l (differ a o p ∷ ds) =
    let x = side_number o in
    length-put (k + 3) (set (set (set l k a) (k + 1) x) (k + 2) (side_number p)) ds
    ∙ length-set (set (set l k a) (k + 1) x) (k + 2) (side_number p)
    ∙ length-set (set l k a) (k + 1) x
    ∙ length-set l k a

-- parts of one length have room as they are
pub room-both : (l : List ℕ) (k a : ℕ) (p q : List ℕ) (n : ℕ) → Room l k a p q n → length q ≡ length p → Room l k a p q (length p)
room-both l k a p q n r e =
    let g = r.parts in
    record {
      parts = record { first = g.first; second = g.second; first_most = omega arith; second_most = omega arith };
      top = omega (arith, r.top, g.first_most);
      room = r.room;
    }

-- ---- put into a list

pub record Filling (l₀ : List ℕ) (at a : ℕ) (p q : List ℕ) (len : ℕ) (l : List ℕ) (i k : ℕ) : Type 0 where
  pub parts : Parts p q len
  pub top : a + len ≤ 2 ^ 64
  pub long : length l ≡ length l₀
  pub fits : at + 3 * length (zipped a p q) ≤ length l₀
  pub index : k + 3 * length (from a p q i) ≡ at + 3 * length (zipped a p q)
  pub same : put k l (from a p q i) ≡ put at l₀ (zipped a p q)

pub filling-first : (l : List ℕ) (at a : ℕ) (p q : List ℕ) (len : ℕ) → Room l at a p q len → Filling l at a p q len l 0 at
filling-first l at a p q len r = record {
  parts = r.parts;
  top = r.top;
  long = refl;
  fits = r.room;
  index = ap (λ (z : List Difference). at + 3 * length z) (from_first a p q);
  same = ap (put at l) (from_first a p q);
}

module _ (l₀ : List ℕ) (at a : ℕ) (p q : List ℕ) (len : ℕ) (l : List ℕ) (i k : ℕ) (c : Filling l₀ at a p q len l i k) where
  pub filling-same : side_at p i ≡ side_at q i → Filling l₀ at a p q len l (i + 1) k
  filling-same e =
      let g = c.parts in
      let w = from-same a i p q g.first g.second e in
      record {
        parts = g;
        top = c.top;
        long = c.long;
        fits = c.fits;
        index = ap (λ (z : List Difference). k + 3 * length z) (sym w) ∙ c.index;
        same = ap (put k l) (sym w) ∙ c.same;
      }

  pub filling-eight : ((b : ℕ) → from b p q i ≡ from b p q (i + 8)) → Filling l₀ at a p q len l (i + 8) k
  filling-eight e =
      record {
        parts = c.parts;
        top = c.top;
        long = c.long;
        fits = c.fits;
        index = ap (λ (z : List Difference). k + 3 * length z) (sym (e a)) ∙ c.index;
        same = ap (put k l) (sym (e a)) ∙ c.same;
      }

  pub filling-byte-room : k + 3 * length (entry_at a p q i) ≤ length l
  filling-byte-room =
      let g = c.parts in
      let w = entry_next a i p q g.first g.second in
      omega (arith, c.index, c.fits, c.long, ap length w, length-append (entry_at a p q i) (from a p q (i + 1)))

  pub filling-byte : (l' : List ℕ) (k' : ℕ) → l' ≡ put k l (entry_at a p q i) → k' ≡ k + 3 * length (entry_at a p q i)
      → Filling l₀ at a p q len l' (i + 1) k'
  filling-byte l' k' el ek =
      let g = c.parts in
      let es = entry_at a p q i in
      let F = from a p q (i + 1) in
      let w = entry_next a i p q g.first g.second in
      record {
        parts = g;
        top = c.top;
        long = ap length el ∙ length-put k l es ∙ c.long;
        fits = c.fits;
        index = omega (arith, c.index, ap length w, length-append es F);
        same = ap₂ (λ (x : ℕ) (y : List ℕ). put x y F) ek el ∙ sym (put-append k l es F) ∙ ap (put k l) (sym w) ∙ c.same;
      }

  pub filling-room : (side_at p i ≡ side_at q i → ⊥) → k + 3 ≤ length l
  filling-room h = omega (arith, c.index, c.fits, c.long, ap length (from-other a i p q h))

  pub filling-other : (side_at p i ≡ side_at q i → ⊥) → (b x y : ℕ) → b ≡ a + i → x ≡ side_at p i → y ≡ side_at q i
      → Filling l₀ at a p q len (set (set (set l k b) (k + 1) x) (k + 2) y) (i + 1) (k + 3)
  unfolding put
  filling-other h b x y eb ex ey =
      let w = from-other a i p q h in
      let u : set (set (set l k b) (k + 1) x) (k + 2) y
      ≡ set (set (set l k (a + i)) (k + 1) (side_number (byte_of (drop i p)))) (k + 2) (side_number (byte_of (drop i q))) =
      λ j. set (set (set l k (eb j)) (k + 1) ((ex ∙ side-drop p i) j)) (k + 2) ((ey ∙ side-drop q i) j) in
      record {
        parts = c.parts;
        top = c.top;
        long = length-set (set (set l k b) (k + 1) x) (k + 2) y ∙ length-set (set l k b) (k + 1) x ∙ length-set l k b ∙ c.long;
        fits = c.fits;
        index = omega (arith, c.index, ap length w);
        same = ap (λ (z : List ℕ). put (k + 3) z (from a p q (i + 1))) u ∙ ap (put k l) (sym w) ∙ c.same;
      }

  pub filling-last : len ≤ i → l ≡ put at l₀ (zipped a p q)
  unfolding put
  filling-last h = ap (put k l) (sym (from_last a i len p q c.parts h)) ∙ c.same

  pub filling-index : len ≤ i → k ≡ at + 3 * length (zipped a p q)
  filling-index h = omega (arith, c.index, ap length (from_last a i len p q c.parts h))

-- ---- entries put into what stands behind others

set-append : (u w : List ℕ) (i x : ℕ) → set (u ++ w) (length u + i) x ≡ u ++ set w i x
set-append [] w i x = ap (λ (z : ℕ). set w z x) (zero-add i)
set-append (b ∷ u) w i x =
    let e : suc (length u) + i ≡ suc (length u + i) = omega arith in
    ap (λ (z : ℕ). set (b ∷ (u ++ w)) z x) e ∙ ap (λ (z : List ℕ). b ∷ z) (set-append u w i x)

-- into what stands behind u
put-behind : (u v : List ℕ) (ds : List Difference) → 3 * length ds ≤ length v
    → put (length u) (u ++ v) ds ≡ u ++ (numbers_of ds ++ drop (3 * length ds) v)
unfolding put numbers_of
put-behind u v [] h = refl
put-behind u [] (differ a o p ∷ ds) h = absurd (omega (arith, h))
put-behind u (x ∷ []) (differ a o p ∷ ds) h = absurd (omega (arith, h))
put-behind u (x ∷ y ∷ []) (differ a o p ∷ ds) h = absurd (omega (arith, h))
put-behind u (x ∷ y ∷ z ∷ v) (differ a o p ∷ ds) h =
    let b = side_number o in
    let d = side_number p in
    let e = a ∷ b ∷ d ∷ [] in
    let s0 : set (u ++ (x ∷ y ∷ z ∷ v)) (length u) a ≡ u ++ (a ∷ y ∷ z ∷ v) =
    ap (λ (n : ℕ). set (u ++ (x ∷ y ∷ z ∷ v)) n a) (sym (add-zero (length u))) ∙ set-append u (x ∷ y ∷ z ∷ v) 0 a in
    let s1 : set (u ++ (a ∷ y ∷ z ∷ v)) (length u + 1) b ≡ u ++ (a ∷ b ∷ z ∷ v) = set-append u (a ∷ y ∷ z ∷ v) 1 b in
    let s2 : set (u ++ (a ∷ b ∷ z ∷ v)) (length u + 2) d ≡ u ++ (a ∷ b ∷ d ∷ v) = set-append u (a ∷ b ∷ z ∷ v) 2 d in
    let s : set (set (set (u ++ (x ∷ y ∷ z ∷ v)) (length u) a) (length u + 1) b) (length u + 2) d ≡ (u ++ e) ++ v =
    ap (λ (m : List ℕ). set (set m (length u + 1) b) (length u + 2) d) s0
    ∙ ap (λ (m : List ℕ). set m (length u + 2) d) s1
    ∙ s2
    ∙ sym (append_assoc u e v) in
    let n : length u + 3 ≡ length (u ++ e) = sym (length-append u e) in
    let t : drop (3 * length ds) v ≡ drop (3 * suc (length ds)) (x ∷ y ∷ z ∷ v) =
    ap (λ (m : ℕ). drop m (x ∷ y ∷ z ∷ v)) {x = suc (suc (suc (3 * length ds)))} {y = 3 * suc (length ds)} (omega arith) in
    ap (λ (m : List ℕ). put (length u + 3) m ds) s
    ∙ ap (λ (m : ℕ). put m ((u ++ e) ++ v) ds) n
    ∙ put-behind (u ++ e) v ds (omega (arith, h))
    ∙ append_assoc u e (numbers_of ds ++ drop (3 * length ds) v)
    ∙ ap (λ (m : List ℕ). u ++ (a ∷ b ∷ d ∷ (numbers_of ds ++ m))) t

pub put_all : (l : List ℕ) (ds : List Difference) → 3 * length ds ≤ length l
    → put 0 l ds ≡ numbers_of ds ++ drop (3 * length ds) l
put_all l ds h = put-behind [] l ds h
