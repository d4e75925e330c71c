-- A head and a trailer put over a buffer, and a head as two numbers. Assumes nothing.
use mathlib.Core.Path.{◌≡◌, refl, sym, ap, ap₂, ◌∙◌}
use Prim.Native.Nat.{ℕ, zero, suc, ◌+◌, ◌-◌, ◌*◌, ◌/◌, ◌%◌, ◌^◌, ◌≤◌, ◌<◌}
use mathlib.Core.List.{List, [], ◌∷◌, ◌++◌}
use native.Mathlib.Nat.{pow-suc, pow-succ', pow-zero, mul_assoc}
use native.Mathlib.Omega.{arith}
use lib.ListN.{length, drop}
use Rattle.endian.specs.LittleEndian.{le_bytes}
use Rattle.writes.specs.Encoding.{trailer}
use Rattle.endian.specs.Overwriting.{overwritten}
use Rattle.endian.proofs.Putting.{over-next}
use Rattle.cutting.specs.Cutting.{head_bytes}

-- ---- a head and a trailer, part by part

pub head-put : (m m₁ m₂ m₃ : List ℕ) (at s n : ℕ) → at + 12 ≤ length m → m₁ ≡ overwritten m at (0x50 ∷ 0x52 ∷ [])
    → m₂ ≡ overwritten m₁ (at + 2) (le_bytes 8 s) → m₃ ≡ overwritten m₂ (at + 10) (le_bytes 2 n) → m₃ ≡ overwritten m at (head_bytes s n)
unfolding head_bytes le_bytes
head-put m m₁ m₂ m₃ at s n h e₁ e₂ e₃ =
    let mark : List ℕ = 0x50 ∷ 0x52 ∷ [] in
    let f₂ : m₂ ≡ overwritten m at (mark ++ le_bytes 8 s) = over-next m m₁ m₂ at (at + 2) mark (le_bytes 8 s) e₁ refl (omega arith) e₂ in
    over-next m m₂ m₃ at (at + 10) (mark ++ le_bytes 8 s) (le_bytes 2 n) f₂ refl (omega arith) e₃

pub trailer-put : (m m₁ m₂ : List ℕ) (at k : ℕ) → at + 4 ≤ length m → m₁ ≡ overwritten m at (0x50 ∷ 0x45 ∷ [])
    → m₂ ≡ overwritten m₁ (at + 2) (le_bytes 2 k) → m₂ ≡ overwritten m at (trailer k)
unfolding trailer le_bytes
trailer-put m m₁ m₂ at k h e₁ e₂ = over-next m m₁ m₂ at (at + 2) (0x50 ∷ 0x45 ∷ []) (le_bytes 2 k) e₁ refl (omega arith) e₂

-- at the front
pub over-start : (Y p : List ℕ) → overwritten Y 0 p ≡ p ++ drop (length p) Y
unfolding overwritten
over-start Y p = let w : 0 + length p ≡ length p = omega arith in ap (λ (z : ℕ). p ++ drop z Y) w

-- ---- a head as two numbers

-- the bytes of a number, the lower j and the upper k
le_parts : (j k x y z : ℕ) → x < 256 ^ j → z ≡ x + 256 ^ j * y → le_bytes (j + k) z ≡ le_bytes j x ++ le_bytes k y
unfolding le_bytes
le_parts zero k x y z h e =
    let w : 0 + k ≡ k = omega arith in
    let o : 256 ^ 0 * y ≡ 1 * y = ap (λ (m : ℕ). m * y) (pow-zero 256) in
    let v : z ≡ y = omega (arith, pow-zero 256) in
    ap₂ le_bytes w v
le_parts (suc j) k x y z h e =
    let w : suc j + k ≡ suc (j + k) = omega arith in
    let o : 256 ^ suc j * y ≡ 256 * (256 ^ j * y) = ap (λ (m : ℕ). m * y) (pow-succ' 256 j) ∙ mul_assoc 256 (256 ^ j) y in
    let v : z % 256 ≡ x % 256 = omega arith in
    ap (λ (i : ℕ). le_bytes i z) w
    ∙ ap₂ ◌∷◌ v (le_parts j k (x / 256) y (z / 256) (omega (arith, pow-suc 256 j)) (omega arith))

-- x is the mark and the start's lower six bytes; y its upper two, h, and the length
pub head-numbers : (s n h x y : ℕ) → s < 2 ^ 64 → s < 2 ^ 48 * (h + 1) → x + 2 ^ 64 * h ≡ 0x5250 + 65536 * s → y ≡ h + 65536 * n
    → le_bytes 8 x ++ le_bytes 4 y ≡ head_bytes s n
unfolding head_bytes le_bytes
head-numbers s n h x y a b e f =
    let l : ℕ = s - 2 ^ 48 * h in
    ap₂ ◌++◌ (le_parts 2 6 0x5250 l x (omega arith) (omega arith)) (le_parts 2 2 h n y (omega arith) f)
    ∙ ap (λ (t : List ℕ). le_bytes 2 0x5250 ++ (t ++ le_bytes 2 n)) (sym (le_parts 6 2 l h s (omega arith) (omega arith)))

-- the upper two and the length fit a number of eight bytes
pub tail-small : (s b : ℕ) → s < 2 ^ 64 → b ≤ 2 ^ 32 → s / 2 ^ 48 + b < 2 ^ 64
tail-small s b h k = omega arith
