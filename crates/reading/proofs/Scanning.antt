-- All steps: what is read are exactly encodings of sets within the sizes, and where reading stops no further run can be taken. Assumes
-- nothing.
use mathlib.Core.Path.{◌≡◌, refl, sym, ap, ap₂, ◌∙◌, subst}
use Prim.Native.Nat.{ℕ, zero, suc, ◌+◌, ◌*◌, ◌^◌, ◌≤◌, ◌<◌}
use mathlib.Core.List.{List, [], ◌∷◌, ◌++◌}
use native.Mathlib.Omega.{arith}
use native.Mathlib.Nat.{add-zero}
use lib.ListN.{length, take, drop}
use lib.Seq.{drop-drop}
use Rattle.std.specs.Prelude.{Option, Some, None}
use Rattle.endian.specs.LittleEndian.{Bytes}
use Rattle.writes.specs.Sets.{Run, run, payload, Apart}
use Rattle.writes.specs.Sizes.{max_runs, max_bytes}
use Rattle.writes.proofs.Sizes.{runs_fit, bytes_fit}
use Rattle.writes.specs.Encoding.{run_then, runs_then, trailer}
use Rattle.endian.proofs.Order.{absurdly}
use Rattle.endian.proofs.LittleEndian.{bytes_take, bytes_drop}
use Rattle.reading.specs.Reader.{floor_of, past, step_at, Found, whole, broken, before, on_step, scan}
use Rattle.reading.specs.declared.Step.{Step}
use Rattle.reading.specs.declared.Step.TheVariants.{Next, End}
use Rattle.reading.specs.declared.Cursor.{Cursor}
use Rattle.reading.proofs.Steps.{Admits, TakenAt, run-bytes, trailer-bytes, past-floor, step-next, step_end, step-next-inv}
use Rattle.reading.proofs.Steps.{step-end-inv, payload-at, after-at, taken-length}

-- what is told of a find behind a run
pub before-whole : (r : Run) (o : Found) (rs : List Run) (e : ℕ) → before r o ≡ whole rs e
    → (ts : List Run) × (o ≡ whole ts e) × (rs ≡ r ∷ ts)
before-whole r (broken ts d) rs e q = absurdly cc
before-whole r (whole ts d) rs e q = (ts, (cc), (cc))

pub before-broken : (r : Run) (o : Found) (rs : List Run) (e : ℕ) → before r o ≡ broken rs e
    → (ts : List Run) × (o ≡ broken ts e) × (rs ≡ r ∷ ts)
before-broken r (broken ts d) rs e q = (ts, (cc), (cc))
before-broken r (whole ts d) rs e q = absurdly cc

-- runs that may stand behind a cursor, in front of a rest
pub record Ahead (s : List ℕ) (c : Cursor) (rs : List Run) (rest : List ℕ) : Type 0 where
  pub bytes : drop c.at s ≡ runs_then rs rest
  pub apart : Apart (floor_of c.runs c.last) rs
  pub few : c.runs + length rs ≤ max_runs
  pub small : c.bytes + payload rs ≤ max_bytes

-- the first of them is taken, and the others are behind it
module _ (s : List ℕ) (c : Cursor) (st : ℕ) (p : List ℕ) (rs : List Run) (rest : List ℕ) (a : Ahead s c (run st p ∷ rs) rest) where
  pub ahead_step : step_at s c ≡ Some (Next st (c.at + 12) (length p) (past c st (length p)))
  unfolding runs_then payload
  ahead_step =
      let g = a.apart in
      let small : c.bytes + (length p + payload rs) ≤ max_bytes = a.small in
      let few : c.runs + suc (length rs) ≤ max_runs = a.few in
      let ad : Admits c st (length p) = record { one = g.1; few = omega arith; small = omega arith; top = g.2; gap = g.0 } in
      step-next s c st p (runs_then rs rest) a.bytes ad (omega (arith, bytes_fit))

  pub ahead_after : Ahead s (past c st (length p)) rs rest
  unfolding runs_then payload past
  ahead_after =
      let g = a.apart in
      let small : c.bytes + (length p + payload rs) ≤ max_bytes = a.small in
      let few : c.runs + suc (length rs) ≤ max_runs = a.few in
      record {
        bytes = after-at s c.at st p (runs_then rs rest) a.bytes;
        apart = subst (λ (z : ℕ). Apart z rs) (sym (past-floor c st (length p) g.1)) g.4;
        few = omega arith;
        small = omega arith;
      }

  pub ahead-scan : (f : ℕ) → scan (suc f) s c ≡ before (run st p) (scan f s (past c st (length p)))
  unfolding scan runs_then
  ahead-scan f =
      ap (on_step (scan f s) s c) ahead_step
      ∙ ap (λ (z : List ℕ). before (run st z) (scan f s (past c st (length p)))) (payload-at s c.at st p (runs_then rs rest) a.bytes)

-- ---- a patch ahead is read

pub ahead-read : (f : ℕ) (s : List ℕ) (c : Cursor) (rs : List Run) (e : ℕ) (rest : List ℕ) → length rs < f
    → Ahead s c rs (trailer (c.runs + length rs) ++ rest) → e ≡ c.at + (12 * length rs + payload rs) + 4 → scan f s c ≡ whole rs e
unfolding scan runs_then payload past
ahead-read zero s c rs e rest h a q = absurd (omega arith)
ahead-read (suc f) s c [] e rest h a q =
    let b : drop c.at s ≡ trailer c.runs ++ rest = a.bytes ∙ ap (λ (z : ℕ). trailer z ++ rest) (add-zero c.runs) in
    ap (on_step (scan f s) s c) (step_end s c rest b (omega (arith, a.few, runs_fit))) ∙ ap (λ (z : ℕ). whole [] z) (omega arith)
ahead-read (suc f) s c (run st p ∷ rs) e rest h a q =
    let w : c.runs + suc (length rs) ≡ c.runs + 1 + length rs = omega arith in
    let c' = past c st (length p) in
    let a' : Ahead s c' rs (trailer (c.runs + 1 + length rs) ++ rest) =
    subst (λ (z : ℕ). Ahead s c' rs (trailer z ++ rest)) w (ahead_after s c st p rs _ a) in
    ahead-scan s c st p rs _ a f ∙ ap (before (run st p)) (ahead-read f s c' rs e rest (omega arith) a' (omega arith))

-- ---- what is read stood ahead

-- a run that was taken, in front of what stands behind it
module _ (s : List ℕ) (c : Cursor) (st at n : ℕ) (c' : Cursor) (hb : Bytes s) (k : TakenAt s c st at n c') where
  taken-bytes : drop c.at s ≡ run_then st (take n (drop at s)) (drop c'.at s)
  unfolding past
  taken-bytes =
      let l : List ℕ = drop c.at s in
      let ep : take n (drop 12 l) ≡ take n (drop at s) =
      ap (take n) (drop-drop 12 c.at s ∙ ap (λ (z : ℕ). drop z s) (sym k.index)) in
      let en : c.at + (12 + n) ≡ c'.at = omega (arith, ap (λ (z : Cursor). z.at) k.next) in
      let ea : drop (12 + n) l ≡ drop c'.at s = drop-drop (12 + n) c.at s ∙ ap (λ (z : ℕ). drop z s) en in
      run-bytes l st n (bytes_drop c.at s hb) k.head ∙ ap₂ (λ (x y : List ℕ). run_then st x y) ep ea

  pub taken-ahead : (rs : List Run) (rest : List ℕ) → Ahead s c' rs rest → Ahead s c (run st (take n (drop at s)) ∷ rs) rest
  unfolding runs_then payload past
  taken-ahead rs rest a =
      let ad = k.admitted in
      let lp = taken-length s c st at n c' k in
      let top : st + n ≤ 2 ^ 64 = ad.top in
      let one : 1 ≤ n = ad.one in
      let fl : floor_of c'.runs c'.last ≡ st + length (take n (drop at s)) + 1 =
      ap (λ (z : Cursor). floor_of z.runs z.last) k.next ∙ past-floor c st n ad.one ∙ ap (λ (z : ℕ). st + z + 1) (sym lp) in
      let er : c'.runs ≡ c.runs + 1 = ap (λ (z : Cursor). z.runs) k.next in
      let eb : c'.bytes ≡ c.bytes + n = ap (λ (z : Cursor). z.bytes) k.next in
      let hp = bytes_take n (drop at s) (bytes_drop at s hb) in
      record {
        bytes = taken-bytes ∙ ap (run_then st (take n (drop at s))) a.bytes;
        apart = (ad.gap, omega arith, omega arith, hp, subst (λ (z : ℕ). Apart z rs) fl a.apart);
        few = omega (arith, a.few);
        small = omega (arith, a.small);
      }

-- what was read up to e; how far reading came
pub record Read (s : List ℕ) (c : Cursor) (rs : List Run) (e : ℕ) : Type 0 where
  pub ahead : Ahead s c rs (trailer (c.runs + length rs) ++ drop e s)
  pub end : e ≡ c.at + (12 * length rs + payload rs) + 4

pub record Stopped (s : List ℕ) (c : Cursor) (rs : List Run) (a : ℕ) : Type 0 where
  pub ahead : Ahead s c rs (drop a s)
  pub end : a ≡ c.at + (12 * length rs + payload rs)
  pub no-trailer : drop a s ≡ trailer (c.runs + length rs) → ⊥

-- what a cursor has behind it is within the sizes
pub record Kept (c : Cursor) : Type 0 where
  pub few : c.runs ≤ max_runs
  pub small : c.bytes ≤ max_bytes

pub kept_next : (s : List ℕ) (c : Cursor) (st at n : ℕ) (c' : Cursor) → TakenAt s c st at n c' → Kept c'
unfolding past
kept_next s c st at n c' k =
    let ad = k.admitted in
    record {
      few = omega (arith, ap (λ (z : Cursor). z.runs) k.next, ad.few);
      small = omega (arith, ap (λ (z : Cursor). z.bytes) k.next, ad.small);
    }

step-read : (f : ℕ) (s : List ℕ) (c : Cursor) (rs : List Run) (e : ℕ) → Bytes s → Kept c
    → ((c' : Cursor) (ts : List Run) → Kept c' → scan f s c' ≡ whole ts e → Read s c' ts e)
    → (w : Option Step) → step_at s c ≡ w → on_step (scan f s) s c w ≡ whole rs e → Read s c rs e
unfolding on_step runs_then payload past
step-read f s c rs e hb h ih None q r = absurdly cc
step-read f s c rs e hb h ih (Some (End d)) q r =
    let er : [] ≡ rs = cc in
    let ee : d ≡ e = cc in
    let k = step-end-inv s c d q in
    let eq : e ≡ c.at + 4 = omega (arith, k.index) in
    subst (λ (z : List Run). Read s c z e) er
    (record {
      ahead = record {
        bytes = trailer-bytes (drop c.at s) c.runs (bytes_drop c.at s hb) k.head
            ∙ ap₂ (λ (x : ℕ) (y : List ℕ). trailer x ++ y) (sym (add-zero c.runs))
            (drop-drop 4 c.at s ∙ ap (λ (z : ℕ). drop z s) (sym eq));
        apart = tt;
        few = omega (arith, h.few);
        small = omega (arith, h.small);
      };
      end = omega arith;
    })
step-read f s c rs e hb h ih (Some (Next st at n c')) q r =
    let x : Run = run st (take n (drop at s)) in
    let b = before-whole x (scan f s c') rs e r in
    let ts = b.0 in
    let k = step-next-inv s c st at n c' q in
    let i = ih c' ts (kept_next s c st at n c' k) b.1 in
    let er : c'.runs ≡ c.runs + 1 = ap (λ (z : Cursor). z.runs) k.next in
    let ea : c'.at ≡ c.at + 12 + n = ap (λ (z : Cursor). z.at) k.next in
    let w : c'.runs + length ts ≡ c.runs + suc (length ts) = omega arith in
    subst (λ (z : List Run). Read s c z e) (sym b.2)
    (record {
      ahead = subst (λ (z : ℕ). Ahead s c (x ∷ ts) (trailer z ++ drop e s)) w
          (taken-ahead s c st at n c' hb k ts (trailer (c'.runs + length ts) ++ drop e s) i.ahead);
      end = omega (arith, i.end, taken-length s c st at n c' k);
    })

pub scan-read : (f : ℕ) (s : List ℕ) (c : Cursor) (rs : List Run) (e : ℕ) → Bytes s → Kept c → scan f s c ≡ whole rs e → Read s c rs e
unfolding scan
scan-read zero s c rs e hb h q = absurdly cc
scan-read (suc f) s c rs e hb h q =
    step-read f s c rs e hb h (λ c' ts h' r. scan-read f s c' ts e hb h' r) (step_at s c) refl q
