-- Bytes of memory put into a buffer. Assumes nothing.
use mathlib.Core.Path.{◌≡◌, refl, sym, ap, ap₂, ◌∙◌, subst}
use Prim.Native.Nat.{ℕ, ◌+◌, ◌-◌, ◌≤◌, ◌<◌}
use mathlib.Core.Bool.{true, ◌&&◌}
use mathlib.Core.List.{List, ◌∷◌, ◌++◌}
use native.Mathlib.Omega.{arith}
use lib.Dec.{T, ltb, ltb→lt}
use lib.Ieee.Fits.{and_l, and_r}
use lib.ListN.{length, take, drop, get_or, set, length-append}
use lib.Seq.{length-take-le, take_at, drop_at, take-add, drop-cons, drop-drop, drop-append-add, set_split}
use native.Mathlib.Numerals.{add-one}
use Rattle.endian.specs.LittleEndian.{Bytes, le_val, le_bytes}
use Rattle.endian.specs.Overwriting.{overwritten}
use Rattle.endian.proofs.Putting.{over-next}
use Rattle.endian.proofs.LittleEndian.{le_bytes-part}
use Rattle.endian.proofs.Parts.{length_part, length_over, part-is, part-over, over-join}
use Rattle.cutting.proofs.Shapes.{length-head_bytes}
use Rattle.cutting.specs.Cutting.{head_bytes, part, run_bytes}

pub length-of-part : (mem : List ℕ) (s n : ℕ) → s + n ≤ length mem → length (part mem s n) ≡ n
unfolding part
length-of-part mem s n h = length_part mem s n h

-- ---- moved as a number

pub moved : (d s m : List ℕ) (at p k x : ℕ) → Bytes s → p + k ≤ length s → x ≡ le_val (take k (drop p s))
    → m ≡ overwritten d at (le_bytes k x)
    → m ≡ overwritten d at (part s p k)
unfolding part
moved d s m at p k x b h e q =
    q ∙ ap (λ (z : ℕ). overwritten d at (le_bytes k z)) e
    ∙ ap (overwritten d at) (le_bytes-part s p k b h)

-- a part put over a shorter one that starts there too
over-longer : (m : List ℕ) (i : ℕ) (q r : List ℕ) → length q ≤ length r → i + length r ≤ length m
    → overwritten (overwritten m i q) i r ≡ overwritten m i r
unfolding overwritten
over-longer m i q r h k =
    let t : length (take i m) ≡ i = length-take-le i m (omega arith) in
    let Y : List ℕ = drop (i + length q) m in
    let X : List ℕ = take i m ++ (q ++ Y) in
    let d : ℕ = length r - length q in
    let w : length r ≡ length q + d = omega arith in
    let v : i + length q + d ≡ i + length r = omega arith in
    ap₂ (λ (x y : List ℕ). x ++ (r ++ y)) (take_at (take i m) (q ++ Y) i t)
    (sym (drop-drop (length r) i X) ∙ ap (drop (length r)) (drop_at (take i m) (q ++ Y) i t) ∙ ap (λ (z : ℕ). drop z (q ++ Y)) w
    ∙ drop-append-add q Y d ∙ drop-drop d (i + length q) m ∙ ap (λ (z : ℕ). drop z m) v)

part-split : (s : List ℕ) (p a b : ℕ) → part s p (a + b) ≡ part s p a ++ part s (p + a) b
unfolding part
part-split s p a b = take-add a b (drop p s) ∙ ap (λ (l : List ℕ). take a (drop p s) ++ take b l) (drop-drop a p s)

-- by two moves, the first k and the last
pub moved_ends : (d s m m' : List ℕ) (at p n k i j : ℕ) → k ≤ n → n ≤ k + k → p + n ≤ length s → at + n ≤ length d → i ≡ at + n - k
    → j ≡ p + n - k
    → m ≡ overwritten d at (part s p k) → m' ≡ overwritten m i (part s j k) → m' ≡ overwritten d at (part s p n)
moved_ends d s m m' at p n k i j h g a b ei ej e e' =
    let f : ℕ = n - k in
    let r : ℕ = k - f in
    let D : List ℕ = overwritten d at (part s p f) in
    let w : k ≡ f + r = omega arith in
    let u : f + k ≡ n = omega arith in
    let lf : length (part s p f) ≡ f = length-of-part s p f (omega arith) in
    let lr : length (part s (p + f) r) ≡ r = length-of-part s (p + f) r (omega arith) in
    let lk : length (part s (p + f) k) ≡ k = length-of-part s (p + f) k (omega arith) in
    let lD : length D ≡ length d = length_over d at (part s p f) (omega arith) in
    let z : at + f ≡ at + length (part s p f) = omega arith in
    let q : m ≡ overwritten D (at + f) (part s (p + f) r) =
    e ∙ ap (overwritten d at) (ap (part s p) w ∙ part-split s p f r) ∙ sym (over-join d at (part s p f) (part s (p + f) r) (omega arith))
    ∙ ap (λ (y : ℕ). overwritten D y (part s (p + f) r)) (sym z) in
    let x : i ≡ at + f = omega arith in
    let y : j ≡ p + f = omega arith in
    e' ∙ ap₂ (λ (c t : ℕ). overwritten m c (part s t k)) x y ∙ ap (λ (M : List ℕ). overwritten M (at + f) (part s (p + f) k)) q
    ∙ over-longer D (at + f) (part s (p + f) r) (part s (p + f) k) (omega arith) (omega arith)
    ∙ ap (λ (c : ℕ). overwritten D c (part s (p + f) k)) z
    ∙ over-join d at (part s p f) (part s (p + f) k) (omega arith)
    ∙ ap (overwritten d at) (sym (part-split s p f k) ∙ ap (part s p) u)

pub between : (n : ℕ) → (ltb 8 n && ltb n 17) ≡ true → (8 < n) × (n < 17)
between n e =
    let t : T (ltb 8 n && ltb n 17) = subst T (sym e) tt in
    (ltb→lt 8 n (and_l (ltb 8 n) (ltb n 17) t), ltb→lt n 17 (and_r (ltb 8 n) (ltb n 17) t))

-- one byte stored
pub moved-one : (d s : List ℕ) (at p n : ℕ) → n ≡ 1 → at < length d → p < length s → set d at (get_or s p 0) ≡ overwritten d at (part s p n)
unfolding part overwritten
moved-one d s at p n e h k =
    set_split d at (get_or s p 0) h ∙ ap (λ (z : ℕ). take at d ++ get_or s p 0 ∷ drop z d) (sym (add-one at))
    ∙ ap (λ (l : List ℕ). take at d ++ (l ++ drop (at + length l) d))
    (sym (ap (λ (z : ℕ). take z (drop p s)) e ∙ ap (take 1) (drop-cons s p 0 k)))

-- a part of the buffer came back with a part of memory
pub copied-part : (m mem ys : List ℕ) (at p n : ℕ) → p + n ≤ length mem → ys ≡ take (p + n - p) (drop p mem)
    → take at m ++ (ys ++ drop (at + n - at) (drop at m)) ≡ overwritten m at (part mem p n)
unfolding part
copied-part m mem ys at p n h e = part-over m at n ys (part mem p n) (length-of-part mem p n h) (e ∙ part-is mem p n)

pub length-run_bytes : (W : ℕ) (mem : List ℕ) (s n : ℕ) → s + n ≤ length mem → length (run_bytes W mem s n) ≡ 12 + n
unfolding run_bytes
length-run_bytes W mem s n h =
    omega (arith, length-append (head_bytes (W + s) n) (part mem s n), length-head_bytes (W + s) n, length-of-part mem s n h)

-- two numbers and a payload; a run, where the numbers are its head
pub headed-put : (mem m m₁ m₂ m₃ : List ℕ) (at x y p n : ℕ) → p + n ≤ length mem → at + 12 + n ≤ length m
    → m₁ ≡ overwritten m at (le_bytes 8 x) → m₂ ≡ overwritten m₁ (at + 8) (le_bytes 4 y) → m₃ ≡ overwritten m₂ (at + 12) (part mem p n)
    → m₃ ≡ overwritten m at ((le_bytes 8 x ++ le_bytes 4 y) ++ part mem p n)
unfolding le_bytes
headed-put mem m m₁ m₂ m₃ at x y p n h r e₁ e₂ e₃ =
    let H : List ℕ = le_bytes 8 x ++ le_bytes 4 y in
    let f : m₂ ≡ overwritten m at H = over-next m m₁ m₂ at (at + 8) (le_bytes 8 x) (le_bytes 4 y) e₁ refl (omega arith) e₂ in
    over-next m m₂ m₃ at (at + 12) H (part mem p n) f refl (omega (arith, length-of-part mem p n h)) e₃

pub headed-run : (W : ℕ) (mem m m' : List ℕ) (at x y p n : ℕ) → le_bytes 8 x ++ le_bytes 4 y ≡ head_bytes (W + p) n
    → m' ≡ overwritten m at ((le_bytes 8 x ++ le_bytes 4 y) ++ part mem p n) → m' ≡ overwritten m at (run_bytes W mem p n)
unfolding run_bytes
headed-run W mem m m' at x y p n h e = e ∙ ap (λ (H : List ℕ). overwritten m at (H ++ part mem p n)) h

-- head and payload are a run
pub run-put : (W : ℕ) (mem m m₁ m₂ : List ℕ) (at a n : ℕ) → a + n ≤ length mem → at + 12 + n ≤ length m
    → m₁ ≡ overwritten m at (head_bytes (W + a) n) → m₂ ≡ overwritten m₁ (at + 12) (part mem a n)
    → m₂ ≡ overwritten m at (run_bytes W mem a n)
unfolding run_bytes
run-put W mem m m₁ m₂ at a n h r e₁ e₂ =
    let l = length-head_bytes (W + a) n in
    over-next m m₁ m₂ at (at + 12) (head_bytes (W + a) n) (part mem a n) e₁ (omega arith) (omega (arith, length-of-part mem a n h)) e₂
