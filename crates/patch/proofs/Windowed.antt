-- The loops over the runs of a patch: the lowest outside the window, and all put into it. Assumes nothing.
use mathlib.Core.Path.{◌≡◌, refl, sym, ap, ap₂, ◌∙◌, subst}
use Prim.Native.Nat.{ℕ, suc, ◌+◌, ◌-◌, ◌^◌, ◌≤◌, ◌<◌}
use mathlib.Core.List.{List, [], ◌∷◌}
use mathlib.Core.Bool.{Bool, true, false, cond}
use native.Mathlib.Omega.{arith}
use native.Mathlib.Numerals.{add-one}
use lib.ListN.{length, take, drop, length-drop}
use lib.Seq.{drop-drop}
use Rattle.std.specs.Prelude.{Some, None}
use Rattle.endian.specs.LittleEndian.{le_val}
use Rattle.writes.specs.Sets.{Run, run, writes_at, writes_of, payload, Apart, overlay}
use Rattle.writes.specs.Sizes.{max_bytes}
use Rattle.writes.proofs.Sizes.{bytes_fit}
use Rattle.endian.specs.Overwriting.{overwritten}
use Rattle.writes.specs.Encoding.{run_then, runs_then}
use Rattle.window.specs.Window.{in_window}
use Rattle.endian.proofs.Order.{absurdly}
use Rattle.writes.proofs.Overlay.{overlay-nil, overlay-run, overlay-runs}
use Rattle.endian.proofs.Parts.{length_over}
use Rattle.window.proofs.Windows.{in-window, in-window-inv}
use Rattle.patch.specs.Applying.{lowest_outside}
use Rattle.reading.specs.Stops.{last_of}
use Rattle.patch.specs.Placing.{runs_read, set_of, surveyed, RunsOf, RunsTo, AllInside}
use Rattle.reading.proofs.Steps.{RunAt, run_of, payload-at, after-at}

-- ---- the runs that are left, k of n behind

pub record Left (s : List ℕ) (n at k : ℕ) (todo : List Run) : Type 0 where
  pub rest : List ℕ
  pub low : ℕ
  pub bytes : drop at s ≡ runs_then todo rest
  pub apart : Apart low todo
  pub small : payload todo ≤ max_bytes
  pub count : k + length todo ≡ n

pub left-first : (s : List ℕ) (n : ℕ) → RunsOf s n → Left s n 0 0 (runs_read s)
left-first s n r =
    record { rest = r.rest; low = 0; bytes = r.bytes; apart = r.apart; small = r.small; count = omega (arith, r.count) }

-- the first of them by its index
pub record Here (s : List ℕ) (at : ℕ) (st : ℕ) (p : List ℕ) : Type 0 where
  pub start : le_val (take 8 (drop (at + 2) s)) ≡ st
  pub count : le_val (take 2 (drop (at + 10) s)) ≡ length p
  pub bytes : take (length p) (drop (at + 12) s) ≡ p
  pub fits : at + 12 + length p ≤ length s

pub left_here : (s : List ℕ) (n at k st : ℕ) (p : List ℕ) (ts : List Run) → Left s n at k (run st p ∷ ts) → Here s at st p
unfolding runs_then payload
left_here s n at k st p ts l =
    let g = l.apart in
    let one : 1 ≤ length p = g.1 in
    let top : st + length p ≤ 2 ^ 64 = g.2 in
    let small : length p + payload ts ≤ max_bytes = l.small in
    let h = run_of st p (runs_then ts l.rest) (omega arith) (omega (arith, bytes_fit)) in
    let e : drop at s ≡ run_then st p (runs_then ts l.rest) = l.bytes in
    let r = subst (λ (z : List ℕ). RunAt z st (length p)) (sym e) h in
    record {
      start = ap (λ (z : List ℕ). le_val (take 8 z)) (sym (drop-drop 2 at s)) ∙ r.start;
      count = ap (λ (z : List ℕ). le_val (take 2 z)) (sym (drop-drop 10 at s)) ∙ r.count;
      bytes = payload-at s at st p (runs_then ts l.rest) e;
      fits = omega (arith, length-drop at s, r.long, r.fits);
    }

pub left-next : (s : List ℕ) (n at k st : ℕ) (p : List ℕ) (ts : List Run) → Left s n at k (run st p ∷ ts)
    → Left s n (at + 12 + length p) (k + 1) ts
unfolding runs_then payload
left-next s n at k st p ts l =
    let g = l.apart in
    let small : length p + payload ts ≤ max_bytes = l.small in
    let count : k + suc (length ts) ≡ n = l.count in
    record {
      rest = l.rest;
      low = st + length p + 1;
      bytes = after-at s at st p (runs_then ts l.rest) l.bytes;
      apart = g.4;
      small = omega arith;
      count = omega arith;
    }

-- ---- the lowest outside the window

pub record Surveying (W L : ℕ) (s : List ℕ) (n at k : ℕ) : Type 0 where
  pub todo : List Run
  pub left : Left s n at k todo
  pub same : surveyed W L s ≡ lowest_outside W L k todo

pub surveying-first : (W L : ℕ) (s : List ℕ) (n : ℕ) → RunsOf s n → Surveying W L s n 0 0
unfolding surveyed
surveying-first W L s n r = record { todo = runs_read s; left = left-first s n r; same = refl }

-- a list with more to do isn't empty
module _ {X : Type 0} (s : List ℕ) (n at k : ℕ) where
  pub more : (todo : List Run) → Left s n at k todo → k < n
      → ((st : ℕ) (p : List ℕ) (ts : List Run) → Left s n at k (run st p ∷ ts) → todo ≡ run st p ∷ ts → X) → X
  more [] l h f = let c : k + 0 ≡ n = l.count in absurd (omega arith)
  more (run st p ∷ ts) l h f = f st p ts l refl

pub none_left : (s : List ℕ) (n at k : ℕ) (todo : List Run) → Left s n at k todo → n ≤ k → todo ≡ []
none_left s n at k [] l h = refl
none_left s n at k (run st p ∷ ts) l h = let c : k + suc (length ts) ≡ n = l.count in absurd (omega arith)

-- where its head and its bytes stand
pub head-fits : (s : List ℕ) (n at k : ℕ) (todo : List Run) → Left s n at k todo → k < n → at + 12 ≤ length s
head-fits s n at k todo l h = more s n at k todo l h (λ st p ts l' e. let x = left_here s n at k st p ts l' in omega (arith, x.fits))

pub run_fits : (s : List ℕ) (n at k len : ℕ) (todo : List Run) → Left s n at k todo → k < n
    → len ≡ le_val (take 2 (drop (at + 10) s)) → at + 12 + len ≤ length s
run_fits s n at k len todo l h q =
    more s n at k todo l h (λ st p ts l' e. let x = left_here s n at k st p ts l' in omega (arith, x.fits, x.count))

module _ (W L : ℕ) (s : List ℕ) (n at k st len : ℕ) (v : Surveying W L s n at k) (h : k < n)
    (es : st ≡ le_val (take 8 (drop (at + 2) s))) (el : len ≡ le_val (take 2 (drop (at + 10) s))) where
  -- the survey by the test of the run here
  tested : (st' : ℕ) (p : List ℕ) (ts : List Run) → Left s n at k (run st' p ∷ ts) → v.todo ≡ run st' p ∷ ts
      → surveyed W L s ≡ cond (in_window W L st len) (lowest_outside W L (suc k) ts) (Some (k, st))
  unfolding lowest_outside
  tested st' p ts l e =
      let x = left_here s n at k st' p ts l in
      let w : st' ≡ st = sym x.start ∙ sym es in
      let u : length p ≡ len = sym x.count ∙ sym el in
      v.same
      ∙ ap (lowest_outside W L k) e
      ∙ ap₂ (λ (a b : ℕ). cond (in_window W L a b) (lowest_outside W L (suc k) ts) (Some (k, a))) w u

  pub surveying-in : in_window W L st len ≡ true → Surveying W L s n (at + 12 + len) (k + 1)
  surveying-in t =
      more s n at k v.todo v.left h (λ st' p ts l e.
      let x = left_here s n at k st' p ts l in
      let u : length p ≡ len = sym x.count ∙ sym el in
      record {
        todo = ts;
        left = subst (λ (z : ℕ). Left s n (at + 12 + z) (k + 1) ts) u (left-next s n at k st' p ts l);
        same = tested st' p ts l e
            ∙ ap (λ (b : Bool). cond b (lowest_outside W L (suc k) ts) (Some (k, st))) t
            ∙ ap (λ (z : ℕ). lowest_outside W L z ts) (sym (add-one k));
      })

  pub surveying-out : in_window W L st len ≡ false → Some (k, st) ≡ surveyed W L s
  surveying-out t =
      more s n at k v.todo v.left h (λ st' p ts l e.
      sym (tested st' p ts l e ∙ ap (λ (b : Bool). cond b (lowest_outside W L (suc k) ts) (Some (k, st))) t))

pub surveying-done : (W L : ℕ) (s : List ℕ) (n at k : ℕ) → Surveying W L s n at k → n ≤ k → None ≡ surveyed W L s
unfolding lowest_outside
surveying-done W L s n at k v h = sym (v.same ∙ ap (lowest_outside W L k) (none_left s n at k v.todo v.left h))

-- ---- the window spans the runs: runs ascend

last-least : (l f : ℕ) (rs : List Run) → Apart f rs → l < f → l ≤ last_of l rs
unfolding last_of
last-least l f [] g h = omega arith
last-least l f (run s p ∷ rs) g h =
    let a : f ≤ s = g.0 in
    let one : 1 ≤ length p = g.1 in
    let i = last-least (s + (length p - 1)) (s + length p + 1) rs g.4 (omega arith) in
    omega arith

span-inside : (W L k l f : ℕ) (rs : List Run) → Apart f rs → W ≤ f → last_of l rs + 1 ≤ W + L → lowest_outside W L k rs ≡ None
unfolding lowest_outside last_of
span-inside W L k l f [] g h e = refl
span-inside W L k l f (run s p ∷ rs) g h e =
    let a : f ≤ s = g.0 in
    let one : 1 ≤ length p = g.1 in
    let i = last-least (s + (length p - 1)) (s + length p + 1) rs g.4 (omega arith) in
    ap (λ (b : Bool). cond b (lowest_outside W L (suc k) rs) (Some (k, s))) (in-window W L s (length p) (omega arith) (omega arith))
    ∙ span-inside W L (suc k) (s + (length p - 1)) (s + length p + 1) rs g.4 (omega arith) e

pub spanned-none : (W L : ℕ) (s : List ℕ) (n l : ℕ) → RunsTo s n l → n ≡ 0 → surveyed W L s ≡ None
unfolding surveyed lowest_outside
spanned-none W L s n l r e = ap (lowest_outside W L 0) (none_left s n 0 0 (runs_read s) (left-first s n r.runs) (omega arith))

pub spanned-all : (W L : ℕ) (s : List ℕ) (n l st : ℕ) → RunsTo s n l → (n ≡ 0 → ⊥) → st ≡ le_val (take 8 (drop 2 s)) → W ≤ st
    → (b : ℕ) → 1 ≤ b → in_window W L l b ≡ true → surveyed W L s ≡ None
unfolding surveyed
spanned-all W L s n l st r z es h b o t =
    more s n 0 0 (runs_read s) (left-first s n r.runs) (omega arith) (λ st' p ts v e.
    let x = left_here s n 0 0 st' p ts v in
    let i = in-window-inv W L l b t in
    let g = v.apart in
    let w : st ≡ st' = es ∙ x.start in
    let q : last_of 0 (run st' p ∷ ts) ≡ l = ap (last_of 0) (sym e) ∙ r.last in
    ap (lowest_outside W L 0) e
    ∙ span-inside W L 0 0 st' (run st' p ∷ ts) (omega arith, g.1, g.2, g.3, g.4) (omega arith) (omega (arith, i.1)))

-- ---- all put into the window

abbrev pub AllIn : ℕ → ℕ → List Run → Type 0
AllIn W L [] = Unit {0}
AllIn W L (run s p ∷ rs) = (W ≤ s) × (s + length p ≤ W + L) × AllIn W L rs

pub all_in : (W L k : ℕ) (rs : List Run) → lowest_outside W L k rs ≡ None → AllIn W L rs
unfolding lowest_outside
all_in W L k [] e = tt
all_in W L k (run s p ∷ rs) e = go (in_window W L s (length p)) refl e (all_in W L (suc k) rs)
  where
    go : (t : Bool) → in_window W L s (length p) ≡ t → cond t (lowest_outside W L (suc k) rs) (Some (k, s)) ≡ None
        → (lowest_outside W L (suc k) rs ≡ None → AllIn W L rs) → AllIn W L (run s p ∷ rs)
    go true q r f = let i = in-window-inv W L s (length p) q in (i.0, i.1, f r)
    go false q r f = absurdly cc

pub record Writing (W : ℕ) (m₀ s : List ℕ) (n at k : ℕ) (m : List ℕ) : Type 0 where
  pub todo : List Run
  pub left : Left s n at k todo
  pub inside : AllIn W (length m₀) todo
  pub long : length m ≡ length m₀
  pub same : overlay W m₀ (set_of s) ≡ overlay W m (writes_of todo)

pub writing-first : (W : ℕ) (m s : List ℕ) (n : ℕ) → AllInside W (length m) s n → Writing W m s n 0 0 m
unfolding set_of surveyed
writing-first W m s n h =
    record {
      todo = runs_read s;
      left = left-first s n h.runs;
      inside = all_in W (length m) 0 (runs_read s) h.inside;
      long = refl;
      same = refl;
    }

module _ (W : ℕ) (m₀ s : List ℕ) (n at k : ℕ) (m : List ℕ) (st len : ℕ) (v : Writing W m₀ s n at k m) (h : k < n)
    (es : st ≡ le_val (take 8 (drop (at + 2) s))) (el : len ≡ le_val (take 2 (drop (at + 10) s))) where
  -- the run here lies in the window
  pub writing-fits : (W ≤ st) × (st - W + len ≤ length m)
  writing-fits =
      more s n at k v.todo v.left h (λ st' p ts l e.
      let x = left_here s n at k st' p ts l in
      let i : AllIn W (length m₀) (run st' p ∷ ts) = subst (AllIn W (length m₀)) e v.inside in
      let i0 : W ≤ st' = i.0 in
      let i1 : st' + length p ≤ W + length m₀ = i.1 in
      (omega (arith, x.start), omega (arith, x.start, x.count, v.long)))

  pub writing-next : (m' : List ℕ) → m' ≡ overwritten m (st - W) (take len (drop (at + 12) s))
      → Writing W m₀ s n (at + 12 + len) (k + 1) m'
  writing-next m' em =
      more s n at k v.todo v.left h (λ st' p ts l e.
      let x = left_here s n at k st' p ts l in
      let g = l.apart in
      let i : AllIn W (length m₀) (run st' p ∷ ts) = subst (AllIn W (length m₀)) e v.inside in
      let f = writing-fits in
      let w : st' ≡ st = sym x.start ∙ sym es in
      let u : length p ≡ len = sym x.count ∙ sym el in
      let ep : m' ≡ overwritten m (st - W) p = em ∙ ap (overwritten m (st - W))
      (ap (λ (z : ℕ). take z (drop (at + 12) s)) (sym u) ∙ x.bytes) in
      let f0 : W ≤ st = f.0 in
      let f1 : st - W + length p ≤ length m = omega (arith, f.1) in
      let d : st' ≡ W + (st - W) = omega arith in
      record {
        todo = ts;
        left = subst (λ (z : ℕ). Left s n (at + 12 + z) (k + 1) ts) u (left-next s n at k st' p ts l);
        inside = i.2;
        long = ap length ep ∙ length_over m (st - W) p f1 ∙ v.long;
        same = v.same
            ∙ ap (λ (z : List Run). overlay W m (writes_of z)) e
            ∙ overlay-runs W m st' p ts g.4
            ∙ ap (λ (z : List ℕ). overlay W z (writes_of ts))
            (ap (λ (z : ℕ). overlay W m (writes_at z p)) d ∙ overlay-run W m (st - W) p f1 ∙ sym ep);
      })

pub writing-done : (W : ℕ) (m₀ s : List ℕ) (n at k : ℕ) (m : List ℕ) → Writing W m₀ s n at k m → n ≤ k → m ≡ overlay W m₀ (set_of s)
unfolding writes_of
writing-done W m₀ s n at k m v h =
    sym (v.same ∙ ap (λ (z : List Run). overlay W m (writes_of z)) (none_left s n at k v.todo v.left h) ∙ overlay-nil W m)
