-- Bits of a number, and sums of numbers that share none. Assumes nothing.
use mathlib.Core.Path.{◌≡◌, refl, sym, ap, ◌∙◌, subst}
use Prim.Native.Nat.{ℕ, zero, suc, ◌+◌, ◌*◌, ◌/◌, ◌%◌, ◌^◌, ◌<◌, min}
use native.Mathlib.Nat.{mod-lt, mod-eq_of_lt, lt_of_le_of_lt, pow-suc}
use native.Mathlib.Numerals.{one-add}
use native.Mathlib.Omega.{arith}
use lib.Arith.{digits_mod, lt-one}
use lib.Bits.{bit_and, and_step, and_le_r, and_block, and_mod, and_shr}
use lib.Pow.{pow_pos, shr-shr, split}
use Rattle.encoding.specs.Classes.{bit}

pub bit-and : (a b i : ℕ) → bit (bit_and a b) i ≡ min (bit a i) (bit b i)
bit-and a b i =
    ap (λ (n : ℕ). n % 2) (and_shr a b i ∙ and_step (a / 2 ^ i) (b / 2 ^ i))
    ∙ digits_mod (bit_and (a / 2 ^ i / 2) (b / 2 ^ i / 2)) (omega arith)

bit-suc : (a i : ℕ) → bit a (suc i) ≡ bit (a / 2) i
bit-suc a i = ap (λ (n : ℕ). n % 2) (ap (λ (k : ℕ). a / 2 ^ k) (sym (one-add i)) ∙ sym (shr-shr a 1 i))

half : (n a : ℕ) → a < 2 ^ suc n → a / 2 < 2 ^ n
half n a h = omega (arith, pow-suc 2 n)

-- two numbers with the same bits are equal
pub bits-equal : (n a b : ℕ) → a < 2 ^ n → b < 2 ^ n → ((i : ℕ) → i < n → bit a i ≡ bit b i) → a ≡ b
bits-equal zero a b ha hb e = omega arith
bits-equal (suc n) a b ha hb e =
    let h : a / 2 ≡ b / 2 =
    bits-equal n (a / 2) (b / 2) (half n a ha) (half n b hb) (λ i l. sym (bit-suc a i) ∙ e (suc i) (omega arith) ∙ bit-suc b i) in
    let z : a / 1 % 2 ≡ b / 1 % 2 = e 0 (omega arith) in
    omega arith

-- a number's bits above k do not meet one below 2 ^ k
pub and_below : (k x y : ℕ) → y < 2 ^ k → bit_and (x % 2 ^ k) y ≡ bit_and x y
and_below k x y h =
    ap (bit_and (x % 2 ^ k)) (sym (mod-eq_of_lt h)) ∙ sym (and_mod x y k) ∙ mod-eq_of_lt (lt_of_le_of_lt (and_le_r x y) h)

-- what stands above bit k, and the rest
pub and-head : (k x v r : ℕ) → r < 2 ^ k → bit_and x (v * 2 ^ k + r) ≡ bit_and (x / 2 ^ k) v * 2 ^ k + bit_and x r
and-head k x v r h =
    ap (λ (n : ℕ). bit_and n (v * 2 ^ k + r)) (sym (split x k))
    ∙ and_block k (x / 2 ^ k) v (x % 2 ^ k) r (mod-lt x (pow_pos k)) h
    ∙ ap (λ (n : ℕ). bit_and (x / 2 ^ k) v * 2 ^ k + n) (and_below k x r h)

-- a mask that is a sum of two with no bit in common
pub and-add : (n w a b : ℕ) → w < 2 ^ n → bit_and a b ≡ 0 → bit_and w (a + b) ≡ bit_and w a + bit_and w b
and-add zero w a b h e = subst (λ (x : ℕ). bit_and x (a + b) ≡ bit_and x a + bit_and x b) (sym (lt-one h)) refl
and-add (suc n) w a b h e =
    let s = and_step a b in
    let hi : (a + b) / 2 ≡ a / 2 + b / 2 = omega arith in
    let lo : (a + b) % 2 ≡ a % 2 + b % 2 = omega arith in
    let k : bit_and (w / 2) ((a + b) / 2) ≡ bit_and (w / 2) (a / 2) + bit_and (w / 2) (b / 2) =
    ap (bit_and (w / 2)) hi ∙ and-add n (w / 2) (a / 2) (b / 2) (half n w h) (omega arith) in
    omega (arith, and_step w (a + b), and_step w a, and_step w b)
