-- What the demands say of applying a patch. Assumes nothing.
use mathlib.Core.Path.{◌≡◌, refl, sym, ap, ◌∙◌, subst}
use Prim.Native.Nat.{ℕ, suc, ◌+◌, ◌<◌}
use mathlib.Core.Bool.{Bool, true, false, cond}
use mathlib.Core.List.{List, [], ◌∷◌, ◌++◌}
use mathlib.Core.Logic.{◌⊎◌, inl, inr}
use native.Mathlib.Omega.{arith}
use lib.ListN.{length, get_or}
use Rattle.std.specs.Prelude.{Option, Some, None, Ok, Err}
use Rattle.endian.specs.LittleEndian.{Bytes}
use Rattle.writes.specs.Encoding.{PatchOf}
use Rattle.writes.specs.Sets.{ByteWrite, Run, run, runs, overlay}
use Rattle.writes.specs.Statements.{Among, here, there}
use Rattle.window.specs.Window.{window_ok, in_window}
use Rattle.endian.proofs.Order.{two, absurdly, not-both}
use Rattle.writes.proofs.Overlay.{length-overlay, get_or-overlay}
use Rattle.writes.proofs.Runs.{bytes-encode}
use Rattle.patch.specs.Answers.{applied_number}
use Rattle.patch.specs.Applying.{Applied, lowest_outside, AppliedTo}
use Rattle.patch.specs.declared.ApplyError.TheVariants.{Window, BadPatch, Outside}
use Rattle.patch.proofs.Statements.{none_shared, one-outcome}
use Rattle.demands.specs.Demand1.{ExactlyOne, OfApplying}
use Rattle.demands.specs.Demand2.{SomeRunOutside, ApplyingDecided, OutsideNamesTheLowest}
use Rattle.demands.specs.Demand3.{LaysTheSet}

-- ---- demand 1

bytes-or-not : (s : List ℕ) → Bytes s ⊎ (Bytes s → ⊥)
bytes-or-not [] = inl tt
bytes-or-not (b ∷ s) = two b 256 (λ h. go h (bytes-or-not s)) (λ h. inr (λ x. omega (arith, x.0)))
  where
    go : b < 256 → Bytes s ⊎ (Bytes s → ⊥) → Bytes (b ∷ s) ⊎ (Bytes (b ∷ s) → ⊥)
    go h (inl x) = inl (h, x)
    go h (inr f) = inr (λ x. f x.1)

patch-bytes : (S : List ByteWrite) (s : List ℕ) → PatchOf S s → Bytes s
patch-bytes S s p = subst Bytes (sym p.bytes) (bytes-encode S p.within.set)

-- what isn't bytes is no patch
module _ (W : ℕ) (mem s : List ℕ) (f : Bytes s → ⊥) where
  only-window : window_ok W (length mem) ≡ false → (r : Applied) (mem' : List ℕ) → AppliedTo W mem s r mem'
      → (r ≡ Err Window) × (mem' ≡ mem)
  unfolding AppliedTo
  only-window e (Err Window) mem' h = (refl, h.1)
  only-window e (Err BadPatch) mem' h = not-both (window_ok W (length mem)) h.0 e
  only-window e (Err (Outside k a)) mem' h = not-both (window_ok W (length mem)) h.0 e
  only-window e (Ok z) mem' h = not-both (window_ok W (length mem)) h.0 e

  only-bad : window_ok W (length mem) ≡ true → (r : Applied) (mem' : List ℕ) → AppliedTo W mem s r mem' → (r ≡ Err BadPatch) × (mem' ≡ mem)
  unfolding AppliedTo
  only-bad e (Err Window) mem' h = not-both (window_ok W (length mem)) e h.0
  only-bad e (Err BadPatch) mem' h = (refl, h.2)
  only-bad e (Err (Outside k a)) mem' h = absurd (f (patch-bytes h.1.0 s h.1.1))
  only-bad e (Ok z) mem' h = absurd (f (patch-bytes h.1.0 s h.1.1))

  refuses-others : ExactlyOne (AppliedTo W mem s)
  unfolding AppliedTo
  refuses-others = go (window_ok W (length mem)) refl
    where
      go : (b : Bool) → window_ok W (length mem) ≡ b → ExactlyOne (AppliedTo W mem s)
      go false e = record { answer = Err Window; content = mem; meets = (e, refl); only = only-window e }
      go true e = record { answer = Err BadPatch; content = mem; meets = (e, (λ S p. f (patch-bytes S s p)), refl); only = only-bad e }

pub apply_one : (W : ℕ) (mem s : List ℕ) → ExactlyOne (AppliedTo W mem s)
apply_one W mem s = go (bytes-or-not s)
  where
    go : Bytes s ⊎ (Bytes s → ⊥) → ExactlyOne (AppliedTo W mem s)
    go (inl b) = let o = one-outcome W mem s b in record { answer = o.0; content = o.1; meets = o.2; only = o.3 }
    go (inr f) = refuses-others W mem s f

pub apply_numbered : (r : Applied) → OfApplying (applied_number r)
apply_numbered (Ok z) = inl refl
apply_numbered (Err Window) = inr (inl refl)
apply_numbered (Err BadPatch) = inr (inr (inl refl))
apply_numbered (Err (Outside k a)) = inr (inr (inr refl))

-- ---- the lowest run outside

-- what a survey finds, the runs being numbered from k on
record Lowest (W L k n a : ℕ) (rs : List Run) : Type 0 where
  before : List Run
  bytes : List ℕ
  after : List Run
  split : rs ≡ before ++ (run a bytes ∷ after)
  number : n ≡ k + length before
  out : in_window W L a (length bytes) ≡ false
  inside : (t : ℕ) (q : List ℕ) → Among t q before → in_window W L t (length q) ≡ true

past : (W L k n a s : ℕ) (p : List ℕ) (rs : List Run) → in_window W L s (length p) ≡ true → Lowest W L (suc k) n a rs
    → Lowest W L k n a (run s p ∷ rs)
past W L k n a s p rs i l =
    record {
      before = run s p ∷ l.before;
      bytes = l.bytes;
      after = l.after;
      split = ap (λ (x : List Run). run s p ∷ x) l.split;
      number = omega (arith, l.number);
      out = l.out;
      inside = first;
    }
  where
    first : (t : ℕ) (q : List ℕ) → Among t q (run s p ∷ l.before) → in_window W L t (length q) ≡ true
    first t q here = i
    first t q (there x) = l.inside t q x

nowhere : {X : Type 0} (t : ℕ) (q : List ℕ) (rs : List Run) → rs ≡ [] → Among t q rs → X
nowhere t q (r ∷ rs) e x = absurd (omega (arith, ap length e))
nowhere {X = X} t q [] e x = elim x [ ]

lowest : (W L k n a : ℕ) (rs : List Run) → lowest_outside W L k rs ≡ Some (n, a) → Lowest W L k n a rs
unfolding lowest_outside
lowest W L k n a [] e = absurdly cc
lowest W L k n a (run s p ∷ rs) e = go (in_window W L s (length p)) refl e (lowest W L (suc k) n a rs)
  where
    go : (b : Bool) → in_window W L s (length p) ≡ b → cond b (lowest_outside W L (suc k) rs) (Some (k, s)) ≡ Some (n, a)
        → (lowest_outside W L (suc k) rs ≡ Some (n, a) → Lowest W L (suc k) n a rs) → Lowest W L k n a (run s p ∷ rs)
    go true i q f = past W L k n a s p rs i (f q)
    go false i q f =
        let v : ◌≡◌ {A = ℕ × ℕ} (k, s) (n, a) = cc in
        let u : k ≡ n = ap (λ (y : ℕ × ℕ). y.0) v in
        let w : s ≡ a = ap (λ (y : ℕ × ℕ). y.1) v in
        subst (λ (y : ℕ). Lowest W L k n y (run s p ∷ rs)) w
        (record { before = []; bytes = p; after = rs; split = refl; number = omega arith; out = i; inside = λ t q. nowhere t q [] refl })

among-split : (a : ℕ) (p : List ℕ) (before after : List Run) → Among a p (before ++ (run a p ∷ after))
among-split a p [] after = here
among-split a p (r ∷ before) after = there (among-split a p before after)

some-outside : (W L n a : ℕ) (rs : List Run) → lowest_outside W L 0 rs ≡ Some (n, a) → SomeRunOutside W L rs
some-outside W L n a rs e =
    let l = lowest W L 0 n a rs e in
    (a, l.bytes, subst (Among a l.bytes) (sym l.split) (among-split a l.bytes l.before l.after), l.out)

-- where none is outside there is none
front-inside : (b : Bool) (v : Option (ℕ × ℕ)) (k s : ℕ) → cond b v (Some (k, s)) ≡ None → (b ≡ true) × (v ≡ None)
front-inside true v k s e = (refl, e)
front-inside false v k s e = absurdly cc

none-outside : (W L k : ℕ) (rs : List Run) → lowest_outside W L k rs ≡ None → (a : ℕ) (p : List ℕ) → Among a p rs
    → in_window W L a (length p) ≡ true
unfolding lowest_outside
none-outside W L k (run s q ∷ rs) e a p here = (front-inside (in_window W L a (length p)) (lowest_outside W L (suc k) rs) k a e).0
none-outside W L k (run s q ∷ rs) e a p (there y) =
    none-outside W L (suc k) rs (front-inside (in_window W L s (length q)) (lowest_outside W L (suc k) rs) k s e).1 a p y
none-outside W L k [] e a p x = elim x [ ]

-- ---- the numbers

-- the same set
same : (S S' : List ByteWrite) (s : List ℕ) → PatchOf S s → PatchOf S' s → runs S ≡ runs S'
same S S' s p p' = ap runs (none_shared S S' s p p')

pub applying-decided : ApplyingDecided
unfolding AppliedTo
applying-decided W mem s (Err Window) mem' h = (
  ((λ e. h.0), (λ w. refl)),
  ((λ e. absurd (omega (arith, e))), (λ w. not-both (window_ok W (length mem)) w.0 h.0)),
  ((λ e. absurd (omega (arith, e))), (λ w. not-both (window_ok W (length mem)) w.0 h.0)),
)
applying-decided W mem s (Err BadPatch) mem' h = (
  ((λ e. absurd (omega (arith, e))), (λ w. not-both (window_ok W (length mem)) h.0 w)),
  ((λ e. (h.0, λ x. h.1 x.0 x.1)), (λ w. refl)),
  ((λ e. absurd (omega (arith, e))), (λ w. absurd (h.1 w.1.0 w.1.1))),
)
applying-decided W mem s (Err (Outside k a)) mem' h =
    let x = h.1 in (
      ((λ e. absurd (omega (arith, e))), (λ w. not-both (window_ok W (length mem)) h.0 w)),
      ((λ e. absurd (omega (arith, e))), (λ w. absurd (w.1 (x.0, x.1)))),
      ((λ e. (h.0, (x.0, x.1, some-outside W (length mem) k a (runs x.0) x.2))), (λ w. refl)),
    )
applying-decided W mem s (Ok z) mem' h =
    let x = h.1 in (
      ((λ e. absurd (omega (arith, e))), (λ w. not-both (window_ok W (length mem)) h.0 w)),
      ((λ e. absurd (omega (arith, e))), (λ w. absurd (w.1 (x.0, x.1)))),
      (
        (λ e. absurd (omega (arith, e))),
        (λ w.
            let S = w.1.0 in
            let o = w.1.2 in
            let m = subst (Among o.0 o.1) (same S x.0 s w.1.1 x.1) o.2 in
            let i = none-outside W (length mem) 0 (runs x.0) x.2 o.0 o.1 m in
            not-both (in_window W (length mem) o.0 (length o.1)) i o.3),
      ),
    )

pub outside-names-the-lowest : OutsideNamesTheLowest
unfolding AppliedTo
outside-names-the-lowest W mem s k a mem' S h p =
    let x = h.1 in
    let l = lowest W (length mem) 0 k a (runs x.0) x.2 in
    (l.before, l.bytes, l.after, same S x.0 s p x.1 ∙ l.split, omega (arith, l.number), l.out, l.inside)

-- ---- what it leaves

pub lays-the-set : LaysTheSet
unfolding AppliedTo
lays-the-set W mem s z mem' S h p =
    let x = h.1 in
    let q : x.0 ≡ S = none_shared x.0 S s x.1 p in
    let l : mem' ≡ overlay W mem S = x.5 ∙ ap (overlay W mem) q in (
      ap length l ∙ length-overlay W mem S,
      (λ i j. ap (λ (y : List ℕ). get_or y i 0) l ∙ get_or-overlay W mem S i j),
      x.3 ∙ ap (λ (T : List ByteWrite). length (runs T)) q,
      x.4 ∙ ap (λ (T : List ByteWrite). length T) q,
    )
