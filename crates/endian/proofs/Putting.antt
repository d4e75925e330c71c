-- Bytes put over a buffer, one part after another, and a number's bytes in halves. Assumes nothing.
use mathlib.Core.Path.{◌≡◌, refl, sym, ap, ap₂, ◌∙◌}
use Prim.Native.Nat.{ℕ, ◌+◌, ◌/◌, ◌%◌, ◌≤◌, ◌<◌}
use mathlib.Core.List.{List, [], ◌∷◌, ◌++◌}
use native.Mathlib.Omega.{arith}
use native.Mathlib.Numerals.{add-one}
use lib.ListN.{length, take, drop, set, length-set}
use lib.Seq.{set_split}
use Rattle.endian.specs.LittleEndian.{le_bytes}
use Rattle.endian.specs.Overwriting.{overwritten}
use Rattle.endian.proofs.Parts.{over-join}

-- ---- one part after another

-- where the index is known by its number
pub over-next : (m m₁ m₂ : List ℕ) (at t : ℕ) (q r : List ℕ) → m₁ ≡ overwritten m at q → t ≡ at + length q
    → at + length q + length r ≤ length m
    → m₂ ≡ overwritten m₁ t r → m₂ ≡ overwritten m at (q ++ r)
over-next m m₁ m₂ at t q r e w h e₂ = e₂ ∙ ap₂ (λ (x : List ℕ) (z : ℕ). overwritten x z r) e w ∙ over-join m at q r h

set-over : (m : List ℕ) (at x : ℕ) → at < length m → set m at x ≡ overwritten m at (x ∷ [])
unfolding overwritten
set-over m at x h = set_split m at x h ∙ ap (λ (z : ℕ). take at m ++ x ∷ drop z m) (sym (add-one at))

-- two bytes stored
pub two-put : (m : List ℕ) (at x y : ℕ) → at + 2 ≤ length m → set (set m at x) (at + 1) y ≡ overwritten m at (x ∷ y ∷ [])
two-put m at x y h =
    over-next m (set m at x) (set (set m at x) (at + 1) y) at (at + 1) (x ∷ []) (y ∷ []) (set-over m at x (omega arith)) refl (omega arith)
    (set-over (set m at x) (at + 1) y (omega (arith, length-set m at x)))

-- ---- a number's bytes in halves

pub put_2 : (m : List ℕ) (at x y z : ℕ) → at + 2 ≤ length m → y ≡ x % 256 → z ≡ x / 256 % 256
    → set (set m at y) (at + 1) z ≡ overwritten m at (le_bytes 2 x)
unfolding le_bytes
put_2 m at x y z h e e' = two-put m at y z h ∙ ap₂ (λ (y z : ℕ). overwritten m at (y ∷ z ∷ [])) e e'

halves-4 : (x : ℕ) → le_bytes 2 x ++ le_bytes 2 (x / 65536) ≡ le_bytes 4 x
unfolding le_bytes
halves-4 x = let w : x / 65536 ≡ x / 256 / 256 = omega arith in ap (λ (z : ℕ). x % 256 ∷ x / 256 % 256 ∷ z % 256 ∷ z / 256 % 256 ∷ []) w

halves-8 : (x : ℕ) → le_bytes 4 x ++ le_bytes 4 (x / 4294967296) ≡ le_bytes 8 x
unfolding le_bytes
halves-8 x =
    let w : x / 4294967296 ≡ x / 256 / 256 / 256 / 256 = omega arith in
    ap (λ (z : ℕ). x % 256 ∷ x / 256 % 256 ∷ x / 256 / 256 % 256 ∷ x / 256 / 256 / 256 % 256 ∷ le_bytes 4 z) w

pub put_4 : (m m₁ m₂ : List ℕ) (at x : ℕ) → at + 4 ≤ length m → m₁ ≡ overwritten m at (le_bytes 2 x)
    → m₂ ≡ overwritten m₁ (at + 2) (le_bytes 2 (x / 65536)) → m₂ ≡ overwritten m at (le_bytes 4 x)
unfolding le_bytes
put_4 m m₁ m₂ at x h e₁ e₂ =
    over-next m m₁ m₂ at (at + 2) (le_bytes 2 x) (le_bytes 2 (x / 65536)) e₁ refl (omega arith) e₂ ∙ ap (overwritten m at) (halves-4 x)

pub put-8 : (m m₁ m₂ : List ℕ) (at x : ℕ) → at + 8 ≤ length m → m₁ ≡ overwritten m at (le_bytes 4 x)
    → m₂ ≡ overwritten m₁ (at + 4) (le_bytes 4 (x / 4294967296)) → m₂ ≡ overwritten m at (le_bytes 8 x)
unfolding le_bytes
put-8 m m₁ m₂ at x h e₁ e₂ =
    over-next m m₁ m₂ at (at + 4) (le_bytes 4 x) (le_bytes 4 (x / 4294967296)) e₁ refl (omega arith) e₂ ∙ ap (overwritten m at) (halves-8 x)
