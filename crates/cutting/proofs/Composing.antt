-- One run after another: what is to come, put from here on, is the whole. Assumes nothing.
use mathlib.Core.Path.{◌≡◌, refl, sym, ap, ap₂, ◌∙◌, subst}
use Prim.Native.Nat.{ℕ, suc, ◌+◌, ◌≤◌}
use mathlib.Core.List.{List, [], ◌∷◌, ◌++◌, append_assoc}
use native.Mathlib.Omega.{arith}
use lib.ListN.{length}
use Rattle.writes.specs.Encoding.{run_then, runs_then, trailer, encode_runs}
use Rattle.endian.specs.Overwriting.{overwritten}
use Rattle.endian.proofs.Parts.{over-join, length_over}
use Rattle.writes.proofs.Runs.{length-run_then, length-trailer}
use Rattle.stretches.specs.Intervals.{Interval, interval, Separate}
use Rattle.stretches.specs.Intervals.{total}
use Rattle.cutting.proofs.Shapes.{run-headed}
use Rattle.cutting.specs.Cutting.{head_bytes, part, run_bytes, cut, Composing}
use Rattle.cutting.proofs.Copying.{length-of-part, length-run_bytes}

-- ---- lengths

pub separate-less : (L f : ℕ) (I : List Interval) → Separate L f I → Separate L 0 I
separate-less L f [] a = tt
separate-less L f (interval s n ∷ I) a = (omega arith, a.1, a.2, a.3)

module _ (W : ℕ) (mem : List ℕ) where
  pub length_cut : (I : List Interval) → length (cut W mem I) ≡ length I
  unfolding cut
  length_cut [] = refl
  length_cut (interval s n ∷ I) = ap suc (length_cut I)

  pub length-cut-runs : (f : ℕ) (I : List Interval) (T : List ℕ) → Separate (length mem) f I
      → length (runs_then (cut W mem I) T) ≡ total I + length T
  unfolding cut runs_then total
  length-cut-runs f [] T a = omega arith
  length-cut-runs f (interval s n ∷ I) T a =
      omega (
        arith,
        length-run_then (W + s) (part mem s n) (runs_then (cut W mem I) T),
        length-of-part mem s n a.2,
        length-cut-runs (s + n + 1) I T a.3,
      )

  -- the bytes of a run in front of what follows
  run-then : (s n : ℕ) (T : List ℕ) → s + n ≤ length mem → run_then (W + s) (part mem s n) T ≡ run_bytes W mem s n ++ T
  unfolding run_bytes
  run-then s n T h =
      run-headed (W + s) (part mem s n) T
      ∙ ap (λ (z : ℕ). head_bytes (W + s) z ++ (part mem s n ++ T)) (length-of-part mem s n h)
      ∙ sym (append_assoc (head_bytes (W + s) n) (part mem s n) T)

-- ---- the first run, the next one, and the trailer

module _ (W : ℕ) (mem : List ℕ) (J₀ : List Interval) (out₀ : List ℕ) (room : total J₀ + 4 ≤ length out₀) where
  pub composing-first : (J : List Interval) → J ≡ J₀ → Separate (length mem) 0 J₀ → Composing W mem J₀ out₀ J out₀ 0 0
  unfolding encode_runs
  composing-first J e a =
      let w : 0 + length J₀ ≡ length (cut W mem J₀) = omega (arith, length_cut W mem J₀) in
      subst (λ (I : List Interval). Composing W mem J₀ out₀ I out₀ 0 0) (sym e)
      record {
        separate = a;
        long = refl;
        sum = omega arith;
        same = ap (λ (z : ℕ). overwritten out₀ 0 (runs_then (cut W mem J₀) (trailer z))) w;
      }

  module _ (J : List Interval) (out : List ℕ) (at k : ℕ) (c : Composing W mem J₀ out₀ J out at k) where
    -- the next run fits memory and buffer
    pub composing-room : (s n : ℕ) (J' : List Interval) → J ≡ interval s n ∷ J' → (s + n ≤ length mem) × (at + 12 + n + 4 ≤ length out)
    unfolding total
    composing-room s n J' e =
        let a : Separate (length mem) 0 (interval s n ∷ J') = subst (Separate (length mem) 0) e c.separate in
        (a.2, omega (arith, ap total e, c.sum, c.long))

    pub composing-next : (s n : ℕ) (J' : List Interval) (out' : List ℕ) (at' : ℕ) → J ≡ interval s n ∷ J'
        → out' ≡ overwritten out at (run_bytes W mem s n) → at' ≡ at + 12 + n → Composing W mem J₀ out₀ J' out' at' (k + 1)
    unfolding total runs_then cut
    composing-next s n J' out' at' e q w =
        let a : Separate (length mem) 0 (interval s n ∷ J') = subst (Separate (length mem) 0) e c.separate in
        let R : List ℕ = run_bytes W mem s n in
        let z : ℕ = k + 1 + length J' in
        let T : List ℕ = runs_then (cut W mem J') (trailer z) in
        let lR = length-run_bytes W mem s n a.2 in
        let lT = length-cut-runs W mem (s + n + 1) J' (trailer z) a.3 in
        let lt = length-trailer z in
        let t = ap total e in
        let v : z ≡ k + suc (length J') = omega arith in
        record {
          separate = separate-less (length mem) (s + n + 1) J' a.3;
          long = ap length q ∙ length_over out at R (omega (arith, c.sum, c.long)) ∙ c.long;
          sum = omega (arith, c.sum);
          same = ap₂ (λ (x : List ℕ) (y : ℕ). overwritten x y T) q (let u : at' ≡ at + length R = omega arith in u)
              ∙ over-join out at R T (omega (arith, c.sum, c.long))
              ∙ ap (overwritten out at) (sym (run-then W mem s n T a.2))
              ∙ ap (λ (y : ℕ). overwritten out at (runs_then (cut W mem (interval s n ∷ J')) (trailer y))) v
              ∙ ap (λ (I : List Interval). overwritten out at (runs_then (cut W mem I) (trailer (k + length I)))) (sym e)
              ∙ c.same;
        }

    -- none is to come
    pub composing-none : J ≡ [] → Composing W mem J₀ out₀ [] out at k
    composing-none e = subst (λ (I : List Interval). Composing W mem J₀ out₀ I out at k) e c

    pub composing-done : J ≡ [] → (out' : List ℕ) → out' ≡ overwritten out at (trailer k)
        → (at ≡ total J₀) × (out' ≡ overwritten out₀ 0 (encode_runs (cut W mem J₀)))
    unfolding total runs_then cut
    composing-done e out' q =
        let w : k ≡ k + 0 = omega arith in (
          omega (arith, c.sum, ap total e),
          q ∙ ap (λ (z : ℕ). overwritten out at (trailer z)) w
              ∙ ap (λ (I : List Interval). overwritten out at (runs_then (cut W mem I) (trailer (k + length I)))) (sym e) ∙ c.same,
        )

    pub composing-left : at + 4 ≤ length out
    composing-left = omega (arith, c.sum, c.long)

-- ---- one run, and the trailer

pub composed-one : (W : ℕ) (mem out : List ℕ) (a n : ℕ) → 1 ≤ n → a + n ≤ length mem → n + 16 ≤ length out → (out' out'' : List ℕ)
    → out' ≡ overwritten out 0 (run_bytes W mem a n) → out'' ≡ overwritten out' (n + 12) (trailer 1)
    → out'' ≡ overwritten out 0 (encode_runs (cut W mem (interval a n ∷ [])))
unfolding total
composed-one W mem out a n h l r out' out'' p q =
    let J : List Interval = interval a n ∷ [] in
    let room : total J + 4 ≤ length out = omega arith in
    let first = composing-first W mem J out room J refl (omega arith, h, l, tt) in
    let next = composing-next W mem J out room J out 0 0 first a n [] out' (n + 12) refl p (omega arith) in
    (composing-done W mem J out room [] out' (n + 12) 1 next refl out'' q).1
