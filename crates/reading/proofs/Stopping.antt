-- Where reading stops: the runs before it could be taken, and no more. Assumes nothing.
use mathlib.Core.Path.{◌≡◌, refl, sym, ap, ◌∙◌, subst}
use Prim.Native.Nat.{ℕ, zero, suc, ◌+◌, ◌≤◌, ◌<◌}
use mathlib.Core.List.{List, [], ◌∷◌, ◌++◌, append-nil}
use native.Mathlib.Omega.{arith}
use native.Mathlib.Nat.{add-zero}
use lib.ListN.{length, take, drop}
use Rattle.std.specs.Prelude.{Option, Some, None}
use Rattle.endian.specs.LittleEndian.{Bytes}
use Rattle.writes.specs.Sets.{Run, run, payload}
use Rattle.writes.specs.Sizes.{max_runs}
use Rattle.writes.proofs.Sizes.{runs_fit}
use Rattle.writes.specs.Encoding.{runs_then, trailer}
use Rattle.endian.proofs.Order.{absurdly}
use Rattle.reading.specs.Reader.{past, step_at, Found, whole, broken, before, on_step, scan}
use Rattle.reading.specs.Stops.{runs_in}
use Rattle.reading.specs.declared.Step.{Step}
use Rattle.reading.specs.declared.Step.TheVariants.{Next, End}
use Rattle.reading.specs.declared.Cursor.{Cursor}
use Rattle.reading.proofs.Steps.{step_end, step-next-inv, taken-length}
use Rattle.reading.proofs.Scanning.{before-broken, Ahead, ahead_after, ahead-scan, taken-ahead, Stopped, Kept, kept_next}

step-stopped : (f : ℕ) (s : List ℕ) (c : Cursor) (rs : List Run) (a : ℕ) → Bytes s → Kept c → max_runs < suc f + c.runs
    → ((c' : Cursor) (ts : List Run) → Kept c' → max_runs < f + c'.runs → scan f s c' ≡ broken ts a → Stopped s c' ts a)
    → (w : Option Step) → step_at s c ≡ w → on_step (scan f s) s c w ≡ broken rs a → Stopped s c rs a
unfolding on_step runs_then payload past
step-stopped f s c rs a hb h m ih (Some (End e)) q r = absurdly cc
step-stopped f s c rs a hb h m ih None q r =
    let er : [] ≡ rs = cc in
    let ea : c.at ≡ a = cc in
    subst (λ (z : List Run). Stopped s c z a) er
    (record {
      ahead = record { bytes = ap (λ (z : ℕ). drop z s) ea; apart = tt; few = omega (arith, h.few); small = omega (arith, h.small) };
      end = omega arith;
      no-trailer = λ t.
          let b : drop c.at s ≡ trailer c.runs ++ [] =
          ap (λ (z : ℕ). drop z s) ea ∙ t ∙ ap trailer (add-zero c.runs) ∙ sym (append-nil (trailer c.runs)) in
          let n = step_end s c [] b (omega (arith, h.few, runs_fit)) in
          absurdly cc;
    })
step-stopped f s c rs a hb h m ih (Some (Next st at n c')) q r =
    let x : Run = run st (take n (drop at s)) in
    let b = before-broken x (scan f s c') rs a r in
    let ts = b.0 in
    let t = step-next-inv s c st at n c' q in
    let er : c'.runs ≡ c.runs + 1 = ap (λ (z : Cursor). z.runs) t.next in
    let ea : c'.at ≡ c.at + 12 + n = ap (λ (z : Cursor). z.at) t.next in
    let w : c.runs + suc (length ts) ≡ c'.runs + length ts = omega arith in
    let i = ih c' ts (kept_next s c st at n c' t) (omega arith) b.1 in
    subst (λ (z : List Run). Stopped s c z a) (sym b.2)
    (record {
      ahead = taken-ahead s c st at n c' hb t ts (drop a s) i.ahead;
      end = omega (arith, i.end, taken-length s c st at n c' t);
      no-trailer = λ d. i.no-trailer (d ∙ ap trailer w);
    })

pub scan-stopped : (f : ℕ) (s : List ℕ) (c : Cursor) (rs : List Run) (a : ℕ) → Bytes s → Kept c → max_runs < f + c.runs
    → scan f s c ≡ broken rs a → Stopped s c rs a
unfolding scan
scan-stopped zero s c rs a hb h m q = absurd (omega (arith, h.few))
scan-stopped (suc f) s c rs a hb h m q =
    step-stopped f s c rs a hb h m (λ c' ts h' m' r. scan-stopped f s c' ts a hb h' m' r) (step_at s c) refl q

-- no more runs stand ahead than were taken
runs-before : (r : Run) (o : Found) → length (runs_in (before r o)) ≡ suc (length (runs_in o))
runs-before r (whole rs e) = refl
runs-before r (broken rs a) = refl

pub no_more : (f : ℕ) (s : List ℕ) (c : Cursor) (more : List Run) (rest : List ℕ) → max_runs < f + c.runs → Ahead s c more rest
    → length more ≤ length (runs_in (scan f s c))
unfolding past
no_more f s c [] rest m d = omega arith
no_more zero s c (run st p ∷ ts) rest m d = absurd (omega (arith, d.few))
no_more (suc f) s c (run st p ∷ ts) rest m d =
    let c' = past c st (length p) in
    let i = no_more f s c' ts rest (omega arith) (ahead_after s c st p ts rest d) in
    omega (
      arith,
      ap (λ (o : Found). length (runs_in o)) (ahead-scan s c st p ts rest d f),
      runs-before (run st p) (scan f s c'),
    )
