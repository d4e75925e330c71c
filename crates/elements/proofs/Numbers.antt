-- A store's access has the numbers of the definitions. Assumes nothing.
use Rattle.std.proofs.Common.{◌≡◌, ℕ, ◌+◌, ◌*◌, ◌/◌, ◌%◌, ◌^◌, ◌<◌, ◌≤◌, Bool, true, false, cond, List, length, drop, ℤ, pos, ◌*ℤ◌, sym, refl, ap, ◌∙◌, ap₂, mul-le-mul_right, arith, length-drop, length-take, w64, of_z}
use native.Mathlib.Nat.{mul-div-mul_right}
use Rattle.encoding.specs.Classes.{Rm, Class, has, width}
use Rattle.encoding.specs.Encoding.{number_of, class_numbered, class_for, refused}
use Rattle.encoding.specs.Layouts.{number_in}
use Rattle.encoding.specs.declared.Number.{Number}
use Rattle.encoding.specs.declared.Store.{Store}
use Rattle.encoding.proofs.Statements.{class-numbered}
use Rattle.elements.specs.Machine.{Machine, base_of, index_of, register}
use Rattle.elements.specs.Stores.{step_of, start_of}

-- VB·8/esize elements are VB over the bytes of one
pub per-is : (vb : ℕ) (c : Class) → c.esize / 8 * 8 ≡ c.esize → vb / step_of c ≡ vb * 8 / c.esize
per-is vb c e = sym (mul-div-mul_right vb (step_of c) (omega arith)) ∙ ap (λ (n : ℕ). vb * 8 / n) e

-- a number of the class that a store names is one of the store's class
pub number_is : (s : Store) → refused s ≡ false → (x : Number) (n : ℕ) → n ≡ number_in (class_numbered (number_of s)) x
    → n ≡ number_in (class_for s) x
number_is s e x n q = q ∙ ap (λ (c : Class). number_in c x) (class-numbered s e)

-- by the number that was read
pub pers : (vb : ℕ) (c : Class) → c.esize / 8 * 8 ≡ c.esize → (n : ℕ) → n ≡ step_of c → vb / n ≡ vb * 8 / c.esize
pers vb c w n e = ap (λ (y : ℕ). vb / y) e ∙ per-is vb c w

-- ---- a strided store's first address

-- a class has Rm where Rm has more values than one
has-rm : (c : Class) → (2 ^ width c Rm ≡ 1 → ⊥) → has c Rm ≡ true
has-rm c = go (has c Rm)
  where
    go : (b : Bool) → (2 ^ cond b 5 0 ≡ 1 → ⊥) → b ≡ true
    go true f = refl
    go false f = absurd (f refl)

lacks-rm : (c : Class) → 2 ^ width c Rm ≡ 1 → has c Rm ≡ false
lacks-rm c = go (has c Rm)
  where
    go : (b : Bool) → 2 ^ cond b 5 0 ≡ 1 → b ≡ false
    go true e = absurd (omega arith)
    go false e = refl

module _ (m : Machine) (c : Class) (rn rm : ℕ) (z : ℤ) where
  -- r is the answer, of the numbers that were read
  pub start-displaced : (n : ℕ) → n ≡ 2 ^ width c Rm → n ≡ 1 → (b : ℕ) → b ≡ base_of m rn → (d : ℤ) → d ≡ z → (r : ℕ)
      → r ≡ (b + of_z w64 (d *ℤ pos m.vb)) % 2 ^ 64 → r ≡ start_of m c rn rm z % 2 ^ 64
  start-displaced n e h b q d p r s =
      s
      ∙ ap₂ (λ (y : ℕ) (x : ℤ). (y + of_z w64 (x *ℤ pos m.vb)) % 2 ^ 64) q p
      ∙ ap (λ (t : Bool). (base_of m rn + cond t (index_of m rm * 2 ^ c.scale) (of_z w64 (z *ℤ pos m.vb))) % 2 ^ 64)
      (sym (lacks-rm c (sym e ∙ h)))

  pub start-indexed : (n : ℕ) → n ≡ 2 ^ width c Rm → (n ≡ 1 → ⊥) → (b : ℕ) → b ≡ base_of m rn → (i : ℕ) → i ≡ index_of m rm
      → (l : ℕ) → l ≡ c.scale → (s : ℕ) → s ≡ (i * 2 ^ l) % 2 ^ 64 → (r : ℕ) → r ≡ (b + s) % 2 ^ 64 → r ≡ start_of m c rn rm z % 2 ^ 64
  start-indexed n e h b q i p l o s t r u =
      let v : r ≡ (b + i * 2 ^ l) % 2 ^ 64 = omega arith in
      v
      ∙ ap₂ (λ (y n : ℕ). (y + n) % 2 ^ 64) q (ap₂ (λ (n y : ℕ). n * 2 ^ y) p o)
      ∙ ap (λ (t : Bool). (base_of m rn + cond t (index_of m rm * 2 ^ c.scale) (of_z w64 (z *ℤ pos m.vb))) % 2 ^ 64)
      (sym (has-rm c (λ x. h (e ∙ x))))

-- ---- registers lie in their buffer

pub register-within : (n r k s : ℕ) → r < k → k * n ≤ s → r * n + n ≤ s
register-within n r k s h e = omega (arith, mul-le-mul_right n h)

pub register-in : (n r k s : ℕ) → r < k → s ≡ k * n → r * n + n ≤ s
register-in n r k s h e = register-within n r k s h (omega arith)

pub predicate-in : (vb r s : ℕ) → r < 16 → vb % 8 ≡ 0 → s ≡ 2 * vb → r * (vb / 8) + vb / 8 ≤ s
predicate-in vb r s h e q = register-in (vb / 8) r 16 s h (omega arith)

pub register-long : (n r : ℕ) (s : List ℕ) → r * n + n ≤ length s → length (register n s r) ≡ n
register-long n r s h = omega (arith, length-take n (drop (r * n) s), length-drop (r * n) s)
