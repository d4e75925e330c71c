-- A part of a list, also one that was lent and came back. Assumes nothing.
use mathlib.Core.Path.{◌≡◌, sym, ap, ap₂, ◌∙◌}
use mathlib.Core.List.{List, ◌++◌, append_assoc}
use Prim.Native.Nat.{ℕ, ◌+◌, ◌-◌, ◌≤◌, ◌<◌}
use native.Mathlib.Nat.{add-sub_cancel_left}
use native.Mathlib.Omega.{arith}
use lib.ListN.{length, take, drop, length-take, length-drop, length-append, get_or, take-append-drop, get_or-append}
use lib.Seq.{drop-drop, take_at, drop_at, length-take-le, get_or-take, get_or-drop, get_or-append-add}
use Rattle.endian.specs.Overwriting.{overwritten}

pub length_part : (l : List ℕ) (a n : ℕ) → a + n ≤ length l → length (take n (drop a l)) ≡ n
length_part l a n h = length-take-le n (drop a l) (omega (arith, length-drop a l))

pub drop-split : (l : List ℕ) (a n : ℕ) → drop a l ≡ take n (drop a l) ++ drop (a + n) l
drop-split l a n = sym (take-append-drop n (drop a l)) ∙ ap (λ (r : List ℕ). take n (drop a l) ++ r) (drop-drop n a l)

module _ (m : List ℕ) (a n : ℕ) where
  pub part-is : take (a + n - a) (drop a m) ≡ take n (drop a m)
  part-is = ap (λ (k : ℕ). take k (drop a m)) (add-sub_cancel_left a n)

  pub part_length : a + n ≤ length m → length (take (a + n - a) (drop a m)) ≡ n
  part_length h = simp (length-take, length-drop) (omega arith)

  -- the part from a to a + n came back as bs
  pub part-over : (ys bs : List ℕ) → length bs ≡ n → ys ≡ bs → take a m ++ (ys ++ drop (a + n - a) (drop a m)) ≡ overwritten m a bs
  unfolding overwritten
  part-over ys bs l q =
      ap (λ (b : List ℕ). take a m ++ (b ++ drop (a + n - a) (drop a m))) q
      ∙ ap (λ (t : List ℕ). take a m ++ (bs ++ t))
      (ap (λ (k : ℕ). drop k (drop a m)) (add-sub_cancel_left a n ∙ sym l) ∙ drop-drop (length bs) a m)

-- one part after another
pub over-join : (m : List ℕ) (at : ℕ) (q r : List ℕ) → at + length q + length r ≤ length m
    → overwritten (overwritten m at q) (at + length q) r ≡ overwritten m at (q ++ r)
unfolding overwritten
over-join m at q r h =
    let t : ℕ = at + length q in
    let lp : length (take at m ++ q) ≡ t = omega (arith, length-append (take at m) q, length-take-le at m (omega arith)) in
    let e : take at m ++ (q ++ drop t m) ≡ (take at m ++ q) ++ drop t m = simp append_assoc in
    let e1 : take t (take at m ++ (q ++ drop t m)) ≡ take at m ++ q = ap (take t) e ∙ take_at (take at m ++ q) (drop t m) t lp in
    let e2 : drop (t + length r) (take at m ++ (q ++ drop t m)) ≡ drop (t + length r) m =
    ap (drop (t + length r)) e ∙ sym (drop-drop (length r) t ((take at m ++ q) ++ drop t m))
    ∙ ap (drop (length r)) (drop_at (take at m ++ q) (drop t m) t lp) ∙ drop-drop (length r) t m in
    let w : t + length r ≡ at + length (q ++ r) = omega (arith, length-append q r) in
    ap₂ (λ (x y : List ℕ). x ++ (r ++ y)) e1 (e2 ∙ ap (λ (z : ℕ). drop z m) w) ∙ simp append_assoc

-- ---- its length, and its bytes before, in and behind the part

pub length_over : (mem : List ℕ) (at : ℕ) (p : List ℕ) → at + length p ≤ length mem → length (overwritten mem at p) ≡ length mem
unfolding overwritten
length_over mem at p h =
    omega (
      arith,
      length-append (take at mem) (p ++ drop (at + length p) mem),
      length-append p (drop (at + length p) mem),
      length-take-le at mem (omega arith),
      length-drop (at + length p) mem,
    )

module _ (mem : List ℕ) (at : ℕ) (p : List ℕ) (h : at + length p ≤ length mem) where
  lt : length (take at mem) ≡ at
  lt = length-take-le at mem (omega arith)

  pub over-before : (i : ℕ) → i < at → get_or (overwritten mem at p) i 0 ≡ get_or mem i 0
  unfolding overwritten
  over-before i k = get_or-append (take at mem) (p ++ drop (at + length p) mem) 0 i (omega (arith, lt)) ∙ get_or-take at mem i 0 k

  pub over-in : (j : ℕ) → j < length p → get_or (overwritten mem at p) (at + j) 0 ≡ get_or p j 0
  unfolding overwritten
  over-in j k =
      ap (λ (z : ℕ). get_or (take at mem ++ (p ++ drop (at + length p) mem)) (z + j) 0) (sym lt)
      ∙ get_or-append-add (take at mem) (p ++ drop (at + length p) mem) j 0
      ∙ get_or-append p (drop (at + length p) mem) 0 j k

  pub over-past : (j : ℕ) → get_or (overwritten mem at p) (at + (length p + j)) 0 ≡ get_or mem (at + length p + j) 0
  unfolding overwritten
  over-past j =
      ap (λ (z : ℕ). get_or (take at mem ++ (p ++ drop (at + length p) mem)) (z + (length p + j)) 0) (sym lt)
      ∙ get_or-append-add (take at mem) (p ++ drop (at + length p) mem) (length p + j) 0
      ∙ get_or-append-add p (drop (at + length p) mem) j 0
      ∙ get_or-drop (at + length p) mem j 0
