-- Laws of bytes and little-endian numbers, over the width. Assumes nothing.
use mathlib.Core.Path.{◌≡◌, refl, ap, subst}
use Prim.Native.Nat.{ℕ, zero, suc, ◌+◌, ◌*◌, ◌/◌, ◌%◌, ◌^◌, ◌≤◌, ◌<◌}
use mathlib.Core.List.{List, [], ◌∷◌, ◌++◌}
use native.Mathlib.Omega.{arith}
use native.Mathlib.Nat.{pow-suc, pow-zero}
use native.Mathlib.Numerals.{add-one}
use lib.ListN.{length, take, drop, get_or}
use lib.Seq.{drop-cons}
use Rattle.endian.specs.LittleEndian.{Bytes, le_val, le_bytes}
use Rattle.endian.proofs.Parts.{length_part}

pub bytes-at : (l : List ℕ) → ((i : ℕ) → get_or l i 0 < 256) → Bytes l
bytes-at [] h = tt
bytes-at (b ∷ bs) h = (h 0, bytes-at bs (λ i. h (suc i)))

pub bytes_take : (n : ℕ) (l : List ℕ) → Bytes l → Bytes (take n l)
bytes_take zero l h = tt
bytes_take (suc n) [] h = tt
bytes_take (suc n) (b ∷ bs) h = (h.0, bytes_take n bs h.1)

pub bytes_drop : (n : ℕ) (l : List ℕ) → Bytes l → Bytes (drop n l)
bytes_drop zero l h = h
bytes_drop (suc n) [] h = tt
bytes_drop (suc n) (b ∷ bs) h = bytes_drop n bs h.1

pub bytes-append : (l m : List ℕ) → Bytes l → Bytes m → Bytes (l ++ m)
bytes-append [] m h k = k
bytes-append (b ∷ bs) m h k = (h.0, bytes-append bs m h.1 k)

pub bytes-le_bytes : (k n : ℕ) → Bytes (le_bytes k n)
unfolding le_bytes
bytes-le_bytes zero n = tt
bytes-le_bytes (suc k) n = (omega arith, bytes-le_bytes k (n / 256))

pub length-le_bytes : (k n : ℕ) → length (le_bytes k n) ≡ k
unfolding le_bytes
length-le_bytes zero n = refl
length-le_bytes (suc k) n = ap suc (length-le_bytes k (n / 256))

pub le_val-le_bytes : (k n : ℕ) → n < 256 ^ k → le_val (le_bytes k n) ≡ n
unfolding le_bytes le_val
le_val-le_bytes zero n h = omega (arith, pow-zero 256)
le_val-le_bytes (suc k) n h = omega (arith, le_val-le_bytes k (n / 256) (omega (arith, pow-suc 256 k)))

pub le_bytes-le_val : (l : List ℕ) → Bytes l → le_bytes (length l) (le_val l) ≡ l
unfolding le_bytes le_val
le_bytes-le_val [] h = refl
le_bytes-le_val (b ∷ bs) h =
    let hb : b < 256 = h.0 in
    let p : (b + 256 * le_val bs) % 256 ≡ b = omega arith in
    let q : (b + 256 * le_val bs) / 256 ≡ le_val bs = omega arith in
    rw (p, q, le_bytes-le_val bs h.1)

-- the k bytes from an index on, read as a number and written again
pub le_bytes-part : (l : List ℕ) (a k : ℕ) → Bytes l → a + k ≤ length l → le_bytes k (le_val (take k (drop a l))) ≡ take k (drop a l)
le_bytes-part l a k b h =
    let p = take k (drop a l) in
    subst (λ (j : ℕ). le_bytes j (le_val p) ≡ p) (length_part l a k h) (le_bytes-le_val p (bytes_take k (drop a l) (bytes_drop a l b)))

-- ---- numbers of two, four and eight bytes, as code reads them

-- the byte in front
le-one : (n at : ℕ) (s : List ℕ) → at < length s
    → le_val (take (suc n) (drop at s)) ≡ get_or s at 0 + 256 * le_val (take n (drop (at + 1) s))
unfolding le_val
le-one n at s h = rw (drop-cons s at 0, add-one)

-- the two bytes in front
le-two : (n at : ℕ) (s : List ℕ) → at + 2 ≤ length s
    → le_val (take (suc (suc n)) (drop at s)) ≡ get_or s at 0 + 256 * (get_or s (at + 1) 0 + 256 * le_val (take n (drop (at + 2) s)))
le-two n at s h =
    let w : at + 1 + 1 ≡ at + 2 = omega arith in
    omega (arith, le-one (suc n) at s (omega arith), le-one n (at + 1) s (omega arith), ap (λ (k : ℕ). le_val (take n (drop k s))) w)

pub le-2 : (at : ℕ) (s : List ℕ) → at + 2 ≤ length s → le_val (take 2 (drop at s)) ≡ get_or s at 0 + 256 * get_or s (at + 1) 0
unfolding le_val
le-2 at s h = omega (arith, le-two 0 at s h)

pub le-4 : (at : ℕ) (s : List ℕ) → at + 4 ≤ length s
    → le_val (take 4 (drop at s)) ≡ get_or s at 0 + 256 * (get_or s (at + 1) 0 + 256 * (get_or s (at + 2) 0 + 256 * get_or s (at + 3) 0))
le-4 at s h =
    let w : at + 2 + 1 ≡ at + 3 = omega arith in
    omega (arith, le-two 2 at s (omega arith), le-2 (at + 2) s (omega arith), ap (λ (k : ℕ). get_or s k 0) w)

-- eight bytes are twice four
pub le-8 : (at : ℕ) (s : List ℕ) → at + 8 ≤ length s
    → le_val (take 8 (drop at s)) ≡ le_val (take 4 (drop at s)) + 4294967296 * le_val (take 4 (drop (at + 4) s))
le-8 at s h =
    let w : at + 2 + 1 ≡ at + 3 = omega arith in
    let v : at + 2 + 2 ≡ at + 4 = omega arith in
    omega (
      arith,
      le-two 6 at s (omega arith),
      le-two 4 (at + 2) s (omega arith),
      le-4 at s (omega arith),
      ap (λ (k : ℕ). get_or s k 0) w,
      ap (λ (k : ℕ). le_val (take 4 (drop k s))) v,
    )
