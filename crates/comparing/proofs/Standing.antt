-- Where a side stands: at the run that a cursor comes to, and further. Assumes nothing.
use mathlib.Core.Path.{◌≡◌, refl, sym, ap, ap₂, ◌∙◌}
use Prim.Native.Nat.{ℕ, zero, suc, ◌+◌, ◌-◌, ◌≤◌, ◌<◌}
use mathlib.Core.List.{List, [], ◌∷◌, ◌++◌, append_assoc}
use native.Mathlib.Omega.{arith}
use native.Mathlib.Nat.{add-zero}
use lib.ListN.{length, take, drop, length-drop}
use lib.Seq.{drop-drop, take-nil}
use Rattle.std.specs.Prelude.{Some, None}
use Rattle.writes.specs.Sets.{ByteWrite, write, Run, run, runs, writes_at, writes_of}
use Rattle.writes.specs.Sizes.{max_runs}
use Rattle.endian.proofs.Order.{absurdly}
use Rattle.endian.proofs.Parts.{length_part}
use Rattle.reading.specs.Reader.{past, step_at, Stands, Found, whole, broken, before, on_step, scan, from, read_at}
use Rattle.reading.specs.Stops.{runs_in}
use Rattle.reading.specs.declared.Step.TheVariants.{Next, End}
use Rattle.reading.specs.declared.Cursor.{Cursor}
use Rattle.reading.proofs.Loops.{rest, rest-step}
use Rattle.reading.proofs.Steps.{step-next-inv}
use Rattle.patch.specs.Placing.{runs_read, set_of}
use Rattle.patch.proofs.Patches.{patch-read}
use Rattle.comparing.specs.Comparing.{IsPatch}
use Rattle.comparing.specs.Merging.{Ends, left_of, Fit, Fronted, Started, Skipped}
use Rattle.comparing.specs.declared.fronts.Front.{Front}

-- ---- the run that a cursor comes to

runs-before : (r : Run) (o : Found) → runs_in (before r o) ≡ r ∷ runs_in o
runs-before r (whole rs e) = refl
runs-before r (broken rs a) = refl

never-whole : {X : Type 0} (rs rs' : List Run) (a e : ℕ) → broken rs a ≡ whole rs' e → X
never-whole rs rs' a e q = absurdly cc

-- where the steps end at a trailer, none is bad
pub stands : (s : List ℕ) (c : Cursor) → c.runs ≤ max_runs → Ends s c → Stands s c
unfolding on_step
stands s c h e q = never-whole [] e.0 c.at e.1 (sym (rest-step s c None h q) ∙ e.2)

ends-behind : (s : List ℕ) (r : Run) (c c' : Cursor) → rest s c ≡ before r (rest s c') → Ends s c → Ends s c'
ends-behind s r c c' q e = go (rest s c') refl
  where
    go : (o : Found) → rest s c' ≡ o → Ends s c'
    go (whole rs d) w = (rs, d, w)
    go (broken rs a) w = never-whole (r ∷ rs) e.0 a e.1 (sym (q ∙ ap (before r) w) ∙ e.2)

pub front-next : (s : List ℕ) (c : Cursor) (st at n : ℕ) (c' : Cursor) → c.runs ≤ max_runs → Ends s c → step_at s c ≡ Some (Next st at n c')
    → Fronted s c (record { address = st; at = at; left = n; cursor = c' })
unfolding on_step past rest left_of writes_of
front-next s c st at n c' h d e =
    let k = step-next-inv s c st at n c' e in
    let ad = k.admitted in
    let hd = k.head in
    let er : c'.runs ≡ c.runs + 1 = ap (λ (z : Cursor). z.runs) k.next in
    let w : max_runs - c.runs ≡ suc max_runs - c'.runs = omega arith in
    let p = run st (take n (drop at s)) in
    let b : rest s c ≡ before p (rest s c') = rest-step s c (Some (Next st at n c')) h e ∙ ap (λ (z : ℕ). before p (scan z s c')) w in
    let q : runs_in (rest s c) ≡ p ∷ runs_in (rest s c') = ap runs_in b ∙ runs-before p (rest s c') in
    record {
      fit = record {
        stands = omega (arith, length-drop c.at s, hd.long, hd.fits, k.index);
        top = ad.top;
        few = omega (arith, ad.few);
        ends = ends-behind s p c c' b d;
        last = λ z. absurd (omega (arith, ad.one));
      };
      same = sym (ap writes_of q);
    }

pub front-end : (s : List ℕ) (c : Cursor) (e : ℕ) → c.runs ≤ max_runs → Ends s c → step_at s c ≡ Some (End e)
    → Fronted s c (record { address = 0; at = 0; left = 0; cursor = c })
unfolding on_step left_of writes_at
front-end s c e h d q =
    let last : runs_in (rest s c) ≡ [] = ap runs_in (rest-step s c (Some (End e)) h q) in
    record { fit = record { stands = omega arith; top = omega arith; few = h; ends = d; last = λ z. last }; same = refl }

pub patch-ends : (s : List ℕ) → IsPatch s → Ends s (from 0)
unfolding read_at rest
patch-ends s h =
    let w : suc max_runs - 0 ≡ suc max_runs = omega arith in
    (runs h.0, length s, ap (λ (n : ℕ). scan n s (from 0)) w ∙ patch-read h.0 s h.1)

pub started : (s : List ℕ) (r : Front) → Fronted s (from 0) r → Started s r
unfolding set_of runs_read read_at rest
started s r h =
    let w : suc max_runs - 0 ≡ suc max_runs = omega arith in
    record { fit = h.fit; same = h.same ∙ ap (λ (n : ℕ). writes_of (runs_in (scan n s (from 0)))) w }

-- ---- further

take_split : (n k : ℕ) (l : List ℕ) → k ≤ n → take n l ≡ take k l ++ take (n - k) (drop k l)
take_split n zero l h = ap (λ (z : ℕ). take z l) {x = n} {y = n - 0} (omega arith)
take_split zero (suc k) l h = absurd (omega arith)
take_split (suc n) (suc k) [] h = sym (take-nil (suc n - suc k))
take_split (suc n) (suc k) (x ∷ l) h =
    let w : n - k ≡ suc n - suc k = omega arith in
    ap (λ (z : List ℕ). x ∷ z) (take_split n k l (omega arith) ∙ ap (λ (m : ℕ). take k l ++ take m (drop k l)) w)

writes_at-append : (a : ℕ) (p q : List ℕ) → writes_at a (p ++ q) ≡ writes_at a p ++ writes_at (a + length p) q
unfolding writes_at
writes_at-append a [] q = ap (λ (z : ℕ). writes_at z q) (sym (add-zero a))
writes_at-append a (b ∷ p) q =
    let w : suc a + length p ≡ a + suc (length p) = omega arith in
    ap (λ (z : List ByteWrite). write a b ∷ z) (writes_at-append (suc a) p q ∙ ap (λ (z : ℕ). writes_at (suc a) p ++ writes_at z q) w)

pub length-writes_at : (a : ℕ) (p : List ℕ) → length (writes_at a p) ≡ length p
unfolding writes_at
length-writes_at a [] = refl
length-writes_at a (b ∷ p) = ap suc (length-writes_at (suc a) p)

pub skip-part : (s : List ℕ) (f : Front) (k a at n : ℕ) → Fit s f → k < f.left → a ≡ f.address + k → at ≡ f.at + k → n ≡ f.left - k
    → Skipped s f k (record { address = a; at = at; left = n; cursor = f.cursor })
unfolding left_of
skip-part s f k a at n h l ea et en =
    let p = take k (drop f.at s) in
    let R = writes_of (runs_in (rest s f.cursor)) in
    let lp : length p ≡ k = length_part s f.at k (omega (arith, h.stands)) in
    let q : take (f.left - k) (drop k (drop f.at s)) ≡ take n (drop at s) =
    ap₂ take (sym en) (drop-drop k f.at s ∙ ap (λ (z : ℕ). drop z s) (sym et)) in
    record {
      fit = record {
        stands = omega (arith, h.stands);
        top = omega (arith, h.top);
        few = h.few;
        ends = h.ends;
        last = λ z. absurd (omega arith);
      };
      same =
          ap (λ (z : List ByteWrite). z ++ R)
          (ap (writes_at f.address) (take_split f.left k (drop f.at s) (omega arith) ∙ ap (λ (z : List ℕ). p ++ z) q)
          ∙ writes_at-append f.address p (take n (drop at s))
          ∙ ap (λ (z : ℕ). writes_at f.address p ++ writes_at z (take n (drop at s))) {x = f.address + length p} {y = a} (omega arith))
          ∙ append_assoc (writes_at f.address p) (writes_at a (take n (drop at s))) R;
    }

pub skip_all : (s : List ℕ) (f : Front) (k : ℕ) (r : Front) → k ≤ f.left → f.left ≤ k → Fronted s f.cursor r → Skipped s f k r
unfolding left_of
skip_all s f k r h g e =
    let w : f.left ≡ k = omega arith in
    record {
      fit = e.fit;
      same =
          ap (λ (z : ℕ). writes_at f.address (take z (drop f.at s)) ++ writes_of (runs_in (rest s f.cursor))) w
          ∙ ap (λ (z : List ByteWrite). writes_at f.address (take k (drop f.at s)) ++ z) (sym e.same);
    }
