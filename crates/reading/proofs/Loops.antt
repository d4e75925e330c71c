-- The loop over the steps comes to where reading ends. Assumes nothing.
use mathlib.Core.Path.{◌≡◌, refl, sym, ap, ap₂, ◌∙◌, subst}
use Prim.Native.Nat.{ℕ, zero, suc, ◌+◌, ◌-◌, ◌≤◌, ◌<◌}
use mathlib.Core.List.{List, [], ◌∷◌}
use native.Mathlib.Omega.{arith}
use lib.ListN.{length, take, drop, length-drop}
use Rattle.std.specs.Prelude.{Option, Some, None, Result, Ok, Err}
use Rattle.writes.specs.Sets.{Run, run, payload}
use Rattle.writes.specs.Sizes.{max_runs}
use Rattle.reading.specs.Reader.{past, step_at, Found, whole, broken, before, on_step, scan, from, read_at}
use Rattle.reading.specs.Stops.{last_of, stop_of}
use Rattle.reading.specs.declared.Step.{Step}
use Rattle.reading.specs.declared.Step.TheVariants.{Next, End}
use Rattle.reading.specs.declared.Cursor.{Cursor}
use Rattle.reading.proofs.Steps.{TakenAt, step-next-inv, step-end-inv, taken-length}

-- ---- what is still to be read from a cursor, and where that ends

unfoldable pub rest : List ℕ → Cursor → Found
rest s c = scan (suc max_runs - c.runs) s c

unfoldable pub stop : Cursor → List Run → ℕ → Cursor
stop c rs a = record { at = a; runs = c.runs + length rs; bytes = c.bytes + payload rs; last = last_of c.last rs }

unfoldable pub stop_from : Cursor → Found → Result Cursor Cursor
stop_from c (whole rs e) = Ok (stop c rs (e - 4))
stop_from c (broken rs a) = Err (stop c rs a)

pub rest-step : (s : List ℕ) (c : Cursor) (w : Option Step) → c.runs ≤ max_runs → step_at s c ≡ w
    → rest s c ≡ on_step (scan (max_runs - c.runs) s) s c w
unfolding rest scan
rest-step s c w h e =
    let q : suc max_runs - c.runs ≡ suc (max_runs - c.runs) = omega arith in
    ap (λ (n : ℕ). scan n s c) q ∙ ap (on_step (scan (max_runs - c.runs) s) s c) e

-- the loop's invariant
pub record Going (s : List ℕ) (a : ℕ) (c : Cursor) : Type 0 where
  pub few : c.runs ≤ max_runs
  pub same : stop_of (read_at s a) ≡ stop_from c (rest s c)

pub going-first : (s : List ℕ) (a : ℕ) → Going s a (from a)
unfolding read_at rest stop_of stop_from stop
going-first s a =
    let w : suc max_runs ≡ suc max_runs - 0 = omega arith in
    record { few = omega arith; same = zeros (read_at s a) ∙ ap (λ (n : ℕ). stop_from (from a) (scan n s (from a))) w }
  where
    zeros : (o : Found) → stop_of o ≡ stop_from (from a) o
    zeros (whole rs e) =
        let i : length rs ≡ 0 + length rs = omega arith in
        let j : payload rs ≡ 0 + payload rs = omega arith in
        cc
    zeros (broken rs e) =
        let i : length rs ≡ 0 + length rs = omega arith in
        let j : payload rs ≡ 0 + payload rs = omega arith in
        cc

pub going_next : (s : List ℕ) (a : ℕ) (c : Cursor) (st at n : ℕ) (c' : Cursor) → Going s a c → step_at s c ≡ Some (Next st at n c')
    → Going s a c'
unfolding on_step past rest stop_from stop payload last_of
going_next s a c st at n c' g e =
    let k = step-next-inv s c st at n c' e in
    let ad = k.admitted in
    let w : max_runs - c.runs ≡ suc max_runs - c'.runs = omega (arith, ap (λ (z : Cursor). z.runs) k.next) in
    let q = rest-step s c (Some (Next st at n c')) g.few e ∙ ap (λ (z : ℕ). before (run st (take n (drop at s))) (scan z s c')) w in
    record {
      few = omega (arith, ap (λ (z : Cursor). z.runs) k.next, ad.few);
      same = g.same ∙ ap (stop_from c) q ∙ go (scan (suc max_runs - c'.runs) s c');
    }
  where
    k : TakenAt s c st at n c'
    k = step-next-inv s c st at n c' e

    -- a run more
    more : (rs : List Run) (d : ℕ) → stop c (run st (take n (drop at s)) ∷ rs) d ≡ stop c' rs d
    more rs d =
        let l = taken-length s c st at n c' k in
        let x : c.runs + suc (length rs) ≡ c'.runs + length rs = omega (arith, ap (λ (z : Cursor). z.runs) k.next) in
        let y : c.bytes + (length (take n (drop at s)) + payload rs) ≡ c'.bytes + payload rs =
        omega (arith, ap (λ (z : Cursor). z.bytes) k.next) in
        let z : st + (length (take n (drop at s)) - 1) ≡ c'.last = omega (arith, ap (λ (z : Cursor). z.last) k.next) in
        cc

    go : (o : Found) → stop_from c (before (run st (take n (drop at s))) o) ≡ stop_from c' o
    go (whole rs d) = ap Ok (more rs (d - 4))
    go (broken rs d) = ap Err (more rs d)

pub going_less : (s : List ℕ) (c : Cursor) (st at n : ℕ) (c' : Cursor) → step_at s c ≡ Some (Next st at n c')
    → max_runs - c'.runs < max_runs - c.runs
unfolding past
going_less s c st at n c' e =
    let k = step-next-inv s c st at n c' e in
    let ad = k.admitted in
    omega (arith, ap (λ (z : Cursor). z.runs) k.next, ad.few)

-- the steps' end, at a trailer and before what can't be accepted
stopped : (c : Cursor) → stop c [] c.at ≡ c
unfolding stop payload last_of
stopped c =
    let x : c.runs + 0 ≡ c.runs = omega arith in
    let y : c.bytes + 0 ≡ c.bytes = omega arith in
    ap₂ (λ (k t : ℕ). record { at = c.at; runs = k; bytes = t; last = c.last }) x y

pub stop-end : (s : List ℕ) (a : ℕ) (c : Cursor) (e : ℕ) → Going s a c → step_at s c ≡ Some (End e) → Ok c ≡ stop_of (read_at s a)
unfolding on_step stop_from
stop-end s a c e g q =
    let k = step-end-inv s c e q in
    let w : e - 4 ≡ c.at = omega (arith, k.index) in
    sym (g.same ∙ ap (stop_from c) (rest-step s c (Some (End e)) g.few q) ∙ ap Ok (ap (stop c []) w ∙ stopped c))

pub stop-bad : (s : List ℕ) (a : ℕ) (c : Cursor) → Going s a c → step_at s c ≡ None → Err c ≡ stop_of (read_at s a)
unfolding on_step stop_from
stop-bad s a c g q = sym (g.same ∙ ap (stop_from c) (rest-step s c None g.few q) ∙ ap Err (stopped c))

-- ---- a trailer's four bytes

Fits : List ℕ → Found → Type 0
Fits s (whole rs e) = (4 ≤ e) × (e ≤ length s)
Fits s (broken rs a) = Unit {0}

before-fits : (s : List ℕ) (r : Run) (o : Found) → Fits s o → Fits s (before r o)
unfolding Fits
before-fits s r (whole rs e) h = h
before-fits s r (broken rs a) h = tt

step_fits : (s : List ℕ) (c : Cursor) (go : Cursor → Found) → ((c' : Cursor) → Fits s (go c')) → (w : Option Step) → step_at s c ≡ w
    → Fits s (on_step go s c w)
unfolding on_step Fits
step_fits s c go h (Some (Next st at n c')) q = before-fits s (run st (take n (drop at s))) (go c') (h c')
step_fits s c go h (Some (End e)) q =
    let k = step-end-inv s c e q in
    let hd = k.head in
    (omega (arith, k.index), omega (arith, k.index, hd.long, length-drop c.at s))
step_fits s c go h None q = tt

scan-fits : (f : ℕ) (s : List ℕ) (c : Cursor) → Fits s (scan f s c)
unfolding scan Fits
scan-fits zero s c = tt
scan-fits (suc f) s c = step_fits s c (scan f s) (λ c'. scan-fits f s c') (step_at s c) refl

pub read_fits : (s : List ℕ) (a : ℕ) (rs : List Run) (e : ℕ) → read_at s a ≡ whole rs e → (4 ≤ e) × (e ≤ length s)
unfolding read_at Fits
read_fits s a rs e q = subst (Fits s) q (scan-fits (suc max_runs) s (from a))
