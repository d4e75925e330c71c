-- The table's lines in their order: what is decided once the first of them don't hold. Assumes nothing.
use Rattle.std.specs.Prelude.{Option, Err}
use mathlib.Core.Path.{◌≡◌, refl, sym, ap, ◌∙◌}
use mathlib.Core.Bool.{Bool, true, false, not, cond, ◌&&◌, ◌||◌}
use mathlib.Core.List.{List, [], ◌∷◌}
use mathlib.Core.Logic.{⊎_elim}
use Prim.Native.Nat.{ℕ, ◌*◌, ◌%◌, ◌^◌, ◌≤◌}
use native.Mathlib.Omega.{arith}
use lib.Dec.{eqb, leb}
use lib.ListN.{length}
use borrow.Author.Tests.{not-false, eqb-true, leb-true}
use Rattle.encoding.specs.Decoding.{decode_of}
use Rattle.encoding.proofs.Statements.{one_of}
use Rattle.encoding.specs.declared.Store.{Store}
use Rattle.writes.specs.Elements.{Element}
use Rattle.window.specs.Window.{window_ok}
use Rattle.endian.proofs.Order.{absurdly, told}
use Rattle.elements.specs.Machine.{Machine}
use Rattle.elements.specs.Counter.{highest}
use Rattle.elements.proofs.Highest.{four-times, highest-power}
use Rattle.verdicts.specs.Verdicts.{elements_for, size_for, one_of_five, length_ok, registers_ok, undefined, illegal_for, stack, stack_for}
use Rattle.verdicts.specs.Verdicts.{decided, Verdict}
use Rattle.verdicts.specs.Verdicts.{verdict_of}
use Rattle.checks.specs.Checking.{Sound, concluded}
use Rattle.verdicts.specs.declared.Flags.{Flags}
use Rattle.verdicts.specs.declared.Refusal.TheVariants.{Length, Registers, Window, Undefined, Illegal, Stack}

-- ---- VB

-- what a counter needs of VB holds with streaming on, and every strided store has it on
pub record Vb (streaming : Bool) (vb : ℕ) : Type 0 where
  pub low : 16 ≤ vb
  pub high : vb ≤ 256
  pub sixteen : vb % 16 ≡ 0
  pub power : streaming ≡ true → 4 * vb ≡ 2 ^ highest vb

-- each of the five is 2^k for some k from 4 to 8
five-sound : (streaming : Bool) (vb : ℕ) → one_of_five vb ≡ true → Vb streaming vb
unfolding one_of_five
five-sound streaming vb e =
    ⊎_elim (λ h. of 4 (eqb-true vb 16 h) (omega arith) (omega arith) refl)
    (⊎_elim (λ h. of 5 (eqb-true vb 32 h) (omega arith) (omega arith) refl)
    (⊎_elim (λ h. of 6 (eqb-true vb 64 h) (omega arith) (omega arith) refl)
    (⊎_elim (λ h. of 7 (eqb-true vb 128 h) (omega arith) (omega arith) refl)
    (λ h. of 8 (eqb-true vb 256 h) (omega arith) (omega arith) refl))))
    (one_of (eqb vb 16) (eqb vb 32) (eqb vb 64) (eqb vb 128) (eqb vb 256) e)
  where
    of : (k : ℕ) → vb ≡ 2 ^ k → 16 ≤ 2 ^ k → 2 ^ k ≤ 256 → 2 ^ k % 16 ≡ 0 → Vb streaming vb
    of k q a b d =
        record {
          low = omega arith;
          high = omega arith;
          sixteen = ap (λ (n : ℕ). n % 16) q ∙ d;
          power = λ u. omega (arith, four-times k, ap (λ (n : ℕ). 2 ^ n) (ap highest q ∙ highest-power k));
        }

pub five-power : (vb : ℕ) → one_of_five vb ≡ true → 4 * vb ≡ 2 ^ highest vb
five-power vb e = (five-sound true vb e).power refl

pub length-sound : (early streaming : Bool) (vb : ℕ) → length_ok early streaming vb ≡ true → Vb streaming vb
unfolding length_ok
length-sound true false vb e =
    let (d, (l, (h, u))) = told (eqb (vb % 16) 0) (leb 16 vb ∷ leb vb 256 ∷ []) e in
    record {
      low = leb-true 16 vb l;
      high = leb-true vb 256 h;
      sixteen = eqb-true (vb % 16) 0 d;
      power = λ s. absurdly cc;
    }
length-sound true true vb e = five-sound true vb e
length-sound false streaming vb e = five-sound streaming vb e

-- ---- 6

-- what doesn't refuse a store with an active element refuses none
pub never-stack : (f : Flags) (sp : ℕ) (s b : Bool) (x : Element) → b ≡ stack f sp s (x ∷ []) → b ≡ false → (es : List Element)
    → false ≡ stack f sp s es
never-stack f sp s b x e q [] = go s f.sp_check (not (eqb (sp % 16) 0)) (sym e ∙ q)
  where
    go : (s c d : Bool) → (s && c && d && true) ≡ false → false ≡ (s && c && d && f.sp_check_none_active)
    go false c d k = refl
    go true false d k = refl
    go true true false k = refl
    go true true true k = absurdly cc
never-stack f sp s b x e q (y ∷ ys) = sym q ∙ e

-- ---- from 4 on, for what a word decodes to

abbrev pub verdict_for : Flags → Machine → ℕ → ℕ → ℕ → Option Store → Verdict
verdict_for f m W L room d =
    cond (undefined f d) (Err Undefined)
    (cond (illegal_for f d) (Err Illegal)
    (cond (stack_for f m d) (Err Stack) (concluded f.strict W L room (size_for d) (elements_for m d))))

-- ---- from 1 on

module _ (f : Flags) (m : Machine) (W L word : ℕ) where
  abbrev from-3 : ℕ → Verdict
  from-3 room = cond (not (window_ok W L)) (Err Window) (verdict_for f m W L room (decode_of word))

  abbrev from-2 : ℕ → Verdict
  from-2 room = cond (not (registers_ok m)) (Err Registers) (from-3 room)

  -- the test of both buffers
  abbrev misfit : Bool
  misfit = not (eqb (length m.z) (32 * m.vb)) || not (eqb (length m.p) (2 * m.vb))

  pub of_length : (b : Bool) → b ≡ length_ok f.early f.streaming m.vb → not b ≡ true → (room : ℕ)
      → verdict_of f m W L word room ≡ Err Length
  unfolding verdict_of decided
  of_length b e t room = ap (λ (y : Bool). cond y (Err Length) (from-2 room)) (ap not (sym e) ∙ t)

  module _ (b : Bool) (e : b ≡ length_ok f.early f.streaming m.vb) (t : not b ≡ false) where
    past-1 : (room : ℕ) → verdict_of f m W L word room ≡ from-2 room
    unfolding verdict_of decided
    past-1 room = ap (λ (y : Bool). cond y (Err Length) (from-2 room)) (ap not (sym e) ∙ t)

    either : (x y : Bool) → not (x && y) ≡ not x || not y
    either true y = refl
    either false y = refl

    registers-by : (c : Bool) → misfit ≡ c → not (registers_ok m) ≡ c
    unfolding registers_ok
    registers-by c q = either (eqb (length m.z) (32 * m.vb)) (eqb (length m.p) (2 * m.vb)) ∙ q

    pub of-registers : misfit ≡ true → (room : ℕ) → verdict_of f m W L word room ≡ Err Registers
    of-registers q room = past-1 room ∙ ap (λ (y : Bool). cond y (Err Registers) (from-3 room)) (registers-by true q)

    module _ (r : misfit ≡ false) where
      pub sound : Sound m.vb m.z m.p
      sound =
          let v = length-sound f.early f.streaming m.vb (sym e ∙ not-false b t) in
          let q = both (eqb (length m.z) (32 * m.vb)) (eqb (length m.p) (2 * m.vb)) r in
          record {
            low = v.low;
            high = v.high;
            sixteen = v.sixteen;
            long_z = eqb-true (length m.z) (32 * m.vb) q.0;
            long_p = eqb-true (length m.p) (2 * m.vb) q.1;
          }
        where
          both : (x y : Bool) → not x || not y ≡ false → (x ≡ true) × (y ≡ true)
          both true true q = (refl, refl)
          both true false q = absurdly cc
          both false y q = absurdly cc

      past-2 : (room : ℕ) → verdict_of f m W L word room ≡ from-3 room
      past-2 room = past-1 room ∙ ap (λ (y : Bool). cond y (Err Registers) (from-3 room)) (registers-by false r)

      by-window : (d c : Bool) → d ≡ window_ok W L → not d ≡ c → (room : ℕ)
          → verdict_of f m W L word room ≡ cond c (Err Window) (verdict_for f m W L room (decode_of word))
      by-window d c q u room =
          past-2 room ∙ ap (λ (y : Bool). cond y (Err Window) (verdict_for f m W L room (decode_of word))) (ap not (sym q) ∙ u)

      pub of-window : (d : Bool) → d ≡ window_ok W L → not d ≡ true → (room : ℕ) → verdict_of f m W L word room ≡ Err Window
      of-window d q u = by-window d true q u

      pub of-decoded : (d : Bool) → d ≡ window_ok W L → not d ≡ false → (room : ℕ)
          → verdict_of f m W L word room ≡ verdict_for f m W L room (decode_of word)
      of-decoded d q u = by-window d false q u
