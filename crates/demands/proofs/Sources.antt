-- Where the bytes of a store's elements stand in the Z buffer, of a machine that verdicts 1 and 2 let pass. Assumes nothing.
use mathlib.Core.Path.{◌≡◌, ap, ◌∙◌, subst}
use mathlib.Core.Bool.{true, false}
use mathlib.Core.List.{List}
use Prim.Native.Nat.{ℕ, zero, suc, ◌+◌, ◌*◌, ◌/◌, ◌%◌, ◌≤◌, ◌<◌}
use native.Mathlib.Nat.{one-mul, mul-zero, mod-lt, mul-le-mul_right, div-lt_iff_lt-mul, div-mul-le_self}
use native.Mathlib.Omega.{arith}
use borrow.Author.Tests.{eqb-true}
use lib.Dec.{eqb}
use lib.ListN.{length, get_or, take, drop, length-take, length-drop}
use lib.Seq.{get_or-take, get_or-drop}
use Rattle.encoding.specs.Classes.{Class}
use Rattle.encoding.specs.Encoding.{class_for, refused}
use Rattle.encoding.specs.declared.Store.{Store}
use Rattle.encoding.specs.declared.Store.TheVariants.{Scatter, Strided, Quadword}
use Rattle.encoding.proofs.Statements.{known-accepted}
use Rattle.endian.proofs.Order.{both}
use Rattle.elements.specs.Machine.{Machine, register}
use Rattle.elements.specs.Stores.{step_of, size_of, per_register, count_of, stride_of, register_in, index_in}
use Rattle.elements.specs.Elements.{element_at}
use Rattle.elements.proofs.Numbers.{per-is, register-in, register-long}
use Rattle.elements.proofs.Shapes.{scatter-in, quadword-in, strided-in}
use Rattle.verdicts.specs.Verdicts.{length_ok, registers_ok}
use Rattle.verdicts.specs.declared.Flags.{Flags}
use Rattle.checks.specs.Checking.{Sound}
use Rattle.checks.proofs.Order.{length-sound}
use Rattle.demands.specs.Demand2.{ElementBytes}

-- what verdicts 1 and 2 leave of VB and the buffers
pub sound : (f : Flags) (m : Machine) → length_ok f.early f.streaming m.vb ≡ true → registers_ok m ≡ true
    → Sound m.vb m.z m.p
unfolding registers_ok
sound f m v r =
    let l = length-sound f.early f.streaming m.vb v in
    let q = both (eqb (length m.z) (32 * m.vb)) (eqb (length m.p) (2 * m.vb)) r in
    record {
      low = l.low;
      high = l.high;
      sixteen = l.sixteen;
      long_z = eqb-true (length m.z) (32 * m.vb) q.0;
      long_p = eqb-true (length m.p) (2 * m.vb) q.1;
    }

-- ---- an element in its register

-- a register holds its elements
pub whole : (m : Machine) (c : Class) → c.esize / 8 * 8 ≡ c.esize → per_register m c * step_of c ≤ m.vb
whole m c q = subst (λ (n : ℕ). n * step_of c ≤ m.vb) (per-is m.vb c q) (div-mul-le_self m.vb (step_of c))

-- element i of a register
in-register : (m : Machine) (c : Class) (i : ℕ) → c.esize / 8 * 8 ≡ c.esize → size_of c ≤ step_of c → i < per_register m c
    → i * step_of c + size_of c ≤ m.vb
in-register m c i q s h = omega (arith, mul-le-mul_right (step_of c) h, whole m c q)

-- the r-th of n registers that are d apart
strided-below : (n d first r : ℕ) → n * d ≡ 16 → first / 16 < 2 → first % 16 < d → r < n → first + r * d < 32
strided-below n d first r q a b h = omega (arith, mul-le-mul_right d h)

-- register and index of an element that a store has, and that it has some bytes
record Held (m : Machine) (s : Store) (e : ℕ) : Type 0 where
  register : register_in m (class_for s) s e < 32
  fits : index_in m (class_for s) s e + size_of (class_for s) ≤ m.vb
  some : 0 < size_of (class_for s)

held : (m : Machine) (s : Store) (e : ℕ) → refused s ≡ false → e < count_of m s → Held m s e
held m (Scatter f) e a h =
    let c = class_for (Scatter f) in
    let s = scatter-in f a in
    let i : e < per_register m c = omega (arith, ap (λ (n : ℕ). n * per_register m c) s.nreg, one-mul (per_register m c)) in
    record { register = s.zt; fits = in-register m c e s.eight s.small.size.1 i; some = s.small.size.0 }
held m (Strided f) e a h =
    let c = class_for (Strided f) in
    let s = strided-in f a in
    let some : 0 < per_register m c = positive c.nreg (per_register m c) h in
    record {
      register =
          strided-below c.nreg (stride_of c) f.first (e / per_register m c) s.registers s.first s.zt
          ((div-lt_iff_lt-mul some).1 h);
      fits = in-register m c (e % per_register m c) s.eight s.small.size.1 (mod-lt e some);
      some = s.small.size.0;
    }
  where
    positive : (n k : ℕ) → e < n * k → 0 < k
    positive n zero h = absurd (omega (arith, mul-zero n))
    positive n (suc k) h = omega arith
held m (Quadword f) e a h =
    let c = class_for (Quadword f) in
    let s = quadword-in f a in
    let i : e < per_register m c = omega (arith, ap (λ (n : ℕ). n * per_register m c) s.nreg, one-mul (per_register m c)) in
    record { register = s.zt; fits = in-register m c e s.eight s.small.size.1 i; some = s.small.size.0 }

-- ---- its bytes

-- bytes of a part of a register are bytes of the buffer
part_bytes : (vb r at n : ℕ) (z : List ℕ) → r * vb + vb ≤ length z → at + n ≤ vb
    → (length (take n (drop at (register vb z r))) ≡ n)
    × ((k : ℕ) → k < n → get_or (take n (drop at (register vb z r))) k 0 ≡ get_or z (r * vb + at + k) 0)
part_bytes vb r at n z h l =
    let q = register-long vb r z h in (
      omega (arith, length-take n (drop at (register vb z r)), length-drop at (register vb z r)),
      (λ k j.
          get_or-take n (drop at (register vb z r)) k 0 j
          ∙ get_or-drop at (register vb z r) k 0
          ∙ get_or-take vb (drop (r * vb) z) (at + k) 0 (omega arith)
          ∙ get_or-drop (r * vb) z (at + k) 0
          ∙ ap (λ (i : ℕ). get_or z i 0) (omega arith)),
    )

pub element-of : (m : Machine) (s : Store) (e : ℕ) → Sound m.vb m.z m.p → refused s ≡ false → e < count_of m s
    → (length (element_at m s e).bytes ≡ size_of (class_for s))
    × ((k : ℕ) → k < size_of (class_for s)
    → get_or (element_at m s e).bytes k 0 ≡ get_or m.z (register_in m (class_for s) s e * m.vb + index_in m (class_for s) s e + k) 0)
unfolding element_at
element-of m s e o a h =
    let c = class_for s in
    let t = held m s e a h in
    part_bytes m.vb (register_in m c s e) (index_in m c s e) (size_of c) m.z
    (register-in m.vb (register_in m c s e) 32 (length m.z) t.register o.long_z)
    t.fits

-- it has some
pub some_bytes : (m : Machine) (s : Store) (e : ℕ) → Sound m.vb m.z m.p → refused s ≡ false → e < count_of m s
    → 0 < length (element_at m s e).bytes
some_bytes m s e o a h = omega (arith, (element-of m s e o a h).0, (held m s e a h).some)

pub element_bytes : ElementBytes
element_bytes f m word s e v r d h = element-of m s e (sound f m v r) (known-accepted word s d) h
