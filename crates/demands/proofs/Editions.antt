-- Document 02 (vi): both rules for the vector length. Assumes nothing.
use Rattle.std.specs.Prelude.{Some, Err}
use mathlib.Core.Path.{◌≡◌, refl, sym, ap, ◌∙◌, subst}
use mathlib.Core.Bool.{Bool, true, false, not, cond, ◌&&◌, ◌||◌}
use mathlib.Core.Logic.{◌↔◌, ◌⊎◌, inl, inr, ⊎_elim}
use Prim.Native.Nat.{ℕ, ◌*◌, ◌/◌, ◌%◌, ◌≤◌}
use native.Mathlib.Omega.{arith}
use lib.Dec.{T, eqb, eqb→eq}
use lib.Ieee.Fits.{and_l, and_r}
use lib.ListN.{length}
use borrow.Author.Tests.{eqb-true}
use Rattle.encoding.specs.Classes.{Class, no_class, classes, class_at}
use Rattle.encoding.specs.Decoding.{decode_of}
use Rattle.encoding.specs.Encoding.{class_for, row_for}
use Rattle.encoding.specs.declared.Store.{Store}
use Rattle.encoding.specs.declared.Store.TheVariants.{Strided}
use Rattle.encoding.specs.declared.StridedFields.{StridedFields}
use Rattle.encoding.proofs.Tests.{every, every-at, yes}
use Rattle.encoding.proofs.Statements.{one_of, accepted, known-accepted}
use Rattle.elements.specs.Machine.{Machine}
use Rattle.elements.specs.Stores.{step_of, per_register}
use Rattle.elements.proofs.Numbers.{per-is}
use Rattle.verdicts.specs.Verdicts.{length_ok, registers_ok, undefined, illegal_for, decided, verdict_of, number, Verdict}
use Rattle.verdicts.specs.Statements.{OneOfFive, AnyMultiple, AllowedLength}
use Rattle.verdicts.specs.declared.Flags.{Flags}
use Rattle.verdicts.specs.declared.Refusal.TheVariants.{Length, Registers, Window, Undefined, Illegal}
use Rattle.verdicts.proofs.Rows.{decides-given}
use Rattle.verdicts.proofs.Words.{five-multiple, length-given}
use Rattle.verdicts.proofs.Statements.{table-given-when}
use Rattle.window.specs.Window.{window_ok}
use Rattle.endian.proofs.Order.{absurdly}
use Rattle.demands.specs.Demand2.{table_for}
use Rattle.demands.specs.Editions.{Answered, BothRules}
use Rattle.demands.proofs.Storing.{storing-decided}

-- ---- verdict 1 stands first, so that it is answered exactly when it is given

module _ (f : Flags) (m : Machine) (word : ℕ) (v : Verdict) (c : Answered f m word v) where
  first : (number v ≡ 1) ↔ (AllowedLength f.early f.streaming m.vb → ⊥)
  first =
      let rs = table_for f m c.base c.memory word c.buffer in
      let q =
      (storing-decided f m c.base c.memory word c.buffer v c.memory' c.buffer' c.call).0 1 (λ e. omega (arith, e)) in (
        (λ e.
            (table-given-when f m c.base (length c.memory) (decode_of word) (length c.buffer)).vector_length.0
            (decides-given 1 rs (q.0 e))),
        (λ h. q.1 (inl (refl, (length-given f.early f.streaming m.vb).1 h))),
      )

  first-as : (e s : Bool) → f.early ≡ e → f.streaming ≡ s → (number v ≡ 1) ↔ (AllowedLength e s m.vb → ⊥)
  first-as e s p q =
      subst (λ (y : Bool). (number v ≡ 1) ↔ (AllowedLength e y m.vb → ⊥)) q
      (subst (λ (y : Bool). (number v ≡ 1) ↔ (AllowedLength y f.streaming m.vb → ⊥)) p first)

-- under the late edition streaming doesn't matter, and with streaming on the edition doesn't
by-late : (f : Flags) (m : Machine) (word : ℕ) (v : Verdict) → Answered f m word v → f.early ≡ false
    → (number v ≡ 1) ↔ (OneOfFive m.vb → ⊥)
by-late f m word v c p = first-as f m word v c false f.streaming p refl

by-streaming : (f : Flags) (m : Machine) (word : ℕ) (v : Verdict) → Answered f m word v → f.streaming ≡ true
    → (number v ≡ 1) ↔ (OneOfFive m.vb → ⊥)
by-streaming f m word v c q = go f.early refl
  where
    go : (e : Bool) → f.early ≡ e → (number v ≡ 1) ↔ (OneOfFive m.vb → ⊥)
    go true p = first-as f m word v c true true p q
    go false p = first-as f m word v c false true p q

nothing_else : (f f₁ : Flags) (m m₁ : Machine) (word word₁ : ℕ) (v v₁ : Verdict) → Answered f m word v → Answered f₁ m₁ word₁ v₁
    → f.early ≡ f₁.early → f.streaming ≡ f₁.streaming → m.vb ≡ m₁.vb → number v ≡ 1 → number v₁ ≡ 1
nothing_else f f₁ m m₁ word word₁ v v₁ c c₁ p q r n =
    let h = (first-as f m word v c f₁.early f₁.streaming p q).0 n in
    (first f₁ m₁ word₁ v₁ c₁).1 (subst (λ (vb : ℕ). AllowedLength f₁.early f₁.streaming vb → ⊥) r h)

-- ---- a strided word

-- one of the first five lines is given: 1 or 5
within : (a b c d e : Bool) (x : Verdict) → (a ≡ true) ⊎ (e ≡ true)
    → let n = number
    (cond a (Err Length)
    (cond b (Err Registers)
    (cond c (Err Window) (cond d (Err Undefined) (cond e (Err Illegal) x)))))
    in (1 ≤ n) × (n ≤ 5)
within true b c d e x o = (omega arith, omega arith)
within false true c d e x o = (omega arith, omega arith)
within false false true d e x o = (omega arith, omega arith)
within false false false true e x o = (omega arith, omega arith)
within false false false false true x o = (omega arith, omega arith)
within false false false false false x o = absurd (⊎_elim (λ e. never e) (λ e. never e) o)
  where
    never : ◌≡◌ {A = Bool} false true → ⊥
    never e = absurdly cc

strided_refused : (f : Flags) (m : Machine) (word : ℕ) (v : Verdict) (g : StridedFields) → Answered f m word v
    → decode_of word ≡ Some (Strided g) → (OneOfFive m.vb → ⊥) → (1 ≤ number v) × (number v ≤ 5)
unfolding verdict_of decided
strided_refused f m word v g c d h =
    subst (λ (y : Verdict). (1 ≤ number y) × (number y ≤ 5)) (sym c.call.answer)
    (within (not (length_ok f.early f.streaming m.vb)) (not (registers_ok m)) (not (window_ok c.base (length c.memory)))
    (undefined f (decode_of word)) (illegal_for f (decode_of word)) _ (go f.streaming refl))
  where
    five : (e : Bool) → AllowedLength e true m.vb → ⊥
    five true o = h o
    five false o = h o

    go : (s : Bool) → f.streaming ≡ s
        → (not (length_ok f.early f.streaming m.vb) ≡ true) ⊎ (illegal_for f (decode_of word) ≡ true)
    go true q =
        inl (ap (λ (y : Bool). not (length_ok f.early y m.vb)) q ∙ (length-given f.early true m.vb).1 (five f.early))
    go false q = inr (ap (illegal_for f) d ∙ ap not q)

-- ---- elements fill their register

-- a class's step is 1, 2, 4, 8 or 16 bytes, and esize is a multiple of 8
abbrev is_width : ℕ → Bool
is_width n = eqb n 8 || eqb n 1 || eqb n 16 || eqb n 4 || eqb n 2

steps : Class → Bool
steps c = eqb (step_of c * 8) c.esize && is_width (step_of c)

all-steps : T (every steps classes)
unfolding every classes steps
all-steps = tt

divides : (vb n : ℕ) → vb % 16 ≡ 0 → is_width n ≡ true → vb / n * n ≡ vb
divides vb n h w =
    ⊎_elim (λ e. by 8 (eqb-true n 8 e) (omega arith))
    (⊎_elim (λ e. by 1 (eqb-true n 1 e) (omega arith))
    (⊎_elim (λ e. by 16 (eqb-true n 16 e) (omega arith))
    (⊎_elim (λ e. by 4 (eqb-true n 4 e) (omega arith)) (λ e. by 2 (eqb-true n 2 e) (omega arith)))))
    (one_of (eqb n 8) (eqb n 1) (eqb n 16) (eqb n 4) (eqb n 2) w)
  where
    by : (k : ℕ) → n ≡ k → vb / k * k ≡ vb → vb / n * n ≡ vb
    by k e q = ap (λ (y : ℕ). vb / y * y) e ∙ q

fill : (m : Machine) (word : ℕ) (s : Store) → decode_of word ≡ Some s → AnyMultiple m.vb
    → per_register m (class_for s) * step_of (class_for s) ≡ m.vb
unfolding steps class_at
fill m word s d ((k, q), l, h) =
    let c = class_for s in
    let t = every-at steps classes no_class all-steps (row_for s) (accepted s (known-accepted word s d)).0 in
    let a = eqb→eq (step_of c * 8) c.esize (and_l (eqb (step_of c * 8) c.esize) (is_width (step_of c)) t) in
    let w = yes (is_width (step_of c)) (and_r (eqb (step_of c * 8) c.esize) (is_width (step_of c)) t) in
    ap (λ (n : ℕ). n * step_of c) (sym (per-is m.vb c a)) ∙ divides m.vb (step_of c) (omega (arith, q)) w

pub both-rules : BothRules
both-rules =
    record {
      early = λ f m word v c p q. first-as f m word v c true false p q;
      late = by-late;
      streaming = by-streaming;
      nothing_else = nothing_else;
      five_too = five-multiple;
      strided_refused = strided_refused;
      fill = fill;
    }
