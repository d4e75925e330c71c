-- Each line of the table is given exactly when document 01 says, in its words. Assumes nothing.
use Rattle.std.specs.Prelude.{Option, Some, None}
use mathlib.Core.Path.{◌≡◌, refl, sym, ap, subst}
use mathlib.Core.Bool.{Bool, true, false, not, cond, ◌&&◌, ◌||◌}
use mathlib.Core.List.{List, [], ◌∷◌}
use mathlib.Core.Logic.{◌↔◌, ◌⊎◌, inl, inr, ⊎_elim}
use mathlib.Core.Option.{some}
use Prim.Native.Nat.{ℕ, ◌+◌, ◌*◌, ◌/◌, ◌%◌, ◌^◌, ◌<◌}
use native.Mathlib.Omega.{arith}
use borrow.Author.Tests.{eqb-true, eq-eqb, leb-true, le-leb}
use lib.Dec.{eqb, leb}
use lib.ListN.{length}
use Rattle.encoding.specs.declared.Store.{Store}
use Rattle.encoding.specs.declared.Store.TheVariants.{Scatter, Strided, Quadword}
use Rattle.encoding.proofs.Statements.{one_of}
use Rattle.writes.specs.Elements.{Element, InWindow, share_byte, shares_with, overlap_from, first_overlap}
use Rattle.writes.proofs.Sharing.{or-true, or-one, common-true, true-common}
use Rattle.window.specs.Window.{window_ok, in_window}
use Rattle.endian.proofs.Order.{two, absurdly, not-both, both, told}
use Rattle.window.proofs.Windows.{window-true, window-false, in-window-inv}
use Rattle.elements.specs.Machine.{Machine}
use Rattle.elements.specs.Elements.{elements}
use Rattle.verdicts.specs.Verdicts.{elements_for, one_of_five, length_ok, registers_ok, undefined, illegal_for, some_active, stack_for}
use Rattle.verdicts.specs.Verdicts.{first_outside, found, overlap}
use Rattle.verdicts.specs.Statements.{Listed, here, there, OneOfFive, AnyMultiple, AllowedLength}
use Rattle.verdicts.specs.Statements.{NoClassOrOff, NotInThisMode, BasedOnSp}
use Rattle.verdicts.specs.Statements.{StandsBefore, first, later, Writes, TwoShare}
use Rattle.verdicts.specs.declared.Flags.{Flags}

-- ---- tests

-- a test denied, by what it says
denied : {P : Type 0} (b : Bool) → (b ≡ true → P) → (P → b ≡ true) → (not b ≡ true) ↔ (P → ⊥)
denied true f g = ((λ e. absurdly cc), (λ h. absurd (h (f refl))))
denied false f g = ((λ e p. not-both false (g p) refl), (λ h. refl))

off : (b : Bool) → (not b ≡ true) ↔ (b ≡ false)
off true = ((λ e. absurdly cc), (λ e. absurdly cc))
off false = ((λ e. refl), (λ e. refl))

never : {X : Type 0} → ◌≡◌ {A = Bool} false true → X
never e = absurdly cc

-- ---- 1 to 3

pub one-of-five : (vb : ℕ) → one_of_five vb ≡ true → OneOfFive vb
unfolding one_of_five
one-of-five vb e =
    ⊎_elim (λ h. inl (eqb-true vb 16 h))
    (⊎_elim (λ h. inr (inl (eqb-true vb 32 h)))
    (⊎_elim (λ h. inr (inr (inl (eqb-true vb 64 h))))
    (⊎_elim (λ h. inr (inr (inr (inl (eqb-true vb 128 h))))) (λ h. inr (inr (inr (inr (eqb-true vb 256 h))))))))
    (one_of (eqb vb 16) (eqb vb 32) (eqb vb 64) (eqb vb 128) (eqb vb 256) e)

pub five-ok : (vb : ℕ) → OneOfFive vb → one_of_five vb ≡ true
unfolding one_of_five
five-ok vb (inl e) = subst (λ (n : ℕ). one_of_five n ≡ true) (sym e) refl
five-ok vb (inr (inl e)) = subst (λ (n : ℕ). one_of_five n ≡ true) (sym e) refl
five-ok vb (inr (inr (inl e))) = subst (λ (n : ℕ). one_of_five n ≡ true) (sym e) refl
five-ok vb (inr (inr (inr (inl e)))) = subst (λ (n : ℕ). one_of_five n ≡ true) (sym e) refl
five-ok vb (inr (inr (inr (inr e)))) = subst (λ (n : ℕ). one_of_five n ≡ true) (sym e) refl

-- a length that is taken is allowed
pub length-allowed : (early streaming : Bool) (vb : ℕ) → length_ok early streaming vb ≡ true → AllowedLength early streaming vb
unfolding length_ok
length-allowed true false vb e =
    let (d, (l, (h, u))) = told (eqb (vb % 16) 0) (leb 16 vb ∷ leb vb 256 ∷ []) e in
    ((vb / 16, omega (arith, eqb-true (vb % 16) 0 d)), leb-true 16 vb l, leb-true vb 256 h)
length-allowed true true vb e = one-of-five vb e
length-allowed false streaming vb e = one-of-five vb e

allowed-ok : (early streaming : Bool) (vb : ℕ) → AllowedLength early streaming vb → length_ok early streaming vb ≡ true
unfolding length_ok
allowed-ok true false vb ((k, e), l, h) = cc (eq-eqb (vb % 16) 0 (omega (arith, e)), le-leb 16 vb l, le-leb vb 256 h)
allowed-ok true true vb o = five-ok vb o
allowed-ok false streaming vb o = five-ok vb o

-- the five are multiples, and lengths of both editions
pub five-multiple : (vb : ℕ) → OneOfFive vb → AnyMultiple vb
five-multiple vb (inl e) = ((1, e), omega arith, omega arith)
five-multiple vb (inr (inl e)) = ((2, e), omega arith, omega arith)
five-multiple vb (inr (inr (inl e))) = ((4, e), omega arith, omega arith)
five-multiple vb (inr (inr (inr (inl e)))) = ((8, e), omega arith, omega arith)
five-multiple vb (inr (inr (inr (inr e)))) = ((16, e), omega arith, omega arith)

pub five-allowed : (early streaming : Bool) (vb : ℕ) → one_of_five vb ≡ true → length_ok early streaming vb ≡ true
five-allowed true false vb e = allowed-ok true false vb (five-multiple vb (one-of-five vb e))
five-allowed true true vb e = allowed-ok true true vb (one-of-five vb e)
five-allowed false streaming vb e = allowed-ok false streaming vb (one-of-five vb e)

pub length-given : (early streaming : Bool) (vb : ℕ)
    → (not (length_ok early streaming vb) ≡ true) ↔ (AllowedLength early streaming vb → ⊥)
length-given early streaming vb =
    denied (length_ok early streaming vb) (length-allowed early streaming vb) (allowed-ok early streaming vb)

pub registers-given : (m : Machine)
    → (not (registers_ok m) ≡ true) ↔ ((length m.z ≡ 32 * m.vb) × (length m.p ≡ 2 * m.vb) → ⊥)
unfolding registers_ok
registers-given m =
    let z = eqb (length m.z) (32 * m.vb) in
    let p = eqb (length m.p) (2 * m.vb) in
    denied (z && p)
    (λ e. let b = both z p e in (eqb-true (length m.z) (32 * m.vb) b.0, eqb-true (length m.p) (2 * m.vb) b.1))
    (λ q. cc (eq-eqb (length m.z) (32 * m.vb) q.0, eq-eqb (length m.p) (2 * m.vb) q.1))

pub window-given : (W L : ℕ) → (not (window_ok W L) ≡ true) ↔ ((65536 < L) ⊎ (2 ^ 64 < W + L))
window-given W L = (
  (λ e.
      two 65536 L (λ h. inl h)
      (λ h. two (2 ^ 64) (W + L) (λ g. inr g) (λ g. not-both (window_ok W L) (window-true W L h g) ((off (window_ok W L)).0 e)))),
  (λ o. (off (window_ok W L)).1 (window-false W L (λ h. ⊎_elim (λ l. omega (arith, h.0, l)) (λ l. omega (arith, h.1, l)) o))),
)

-- ---- 4 to 6

pub undefined-given : (f : Flags) (d : Option Store) → (undefined f d ≡ true) ↔ NoClassOrOff f d
undefined-given f None = ((λ e. tt), (λ u. refl))
undefined-given f (Some (Scatter g)) = off f.sve
undefined-given f (Some (Strided g)) = off f.sme2
undefined-given f (Some (Quadword g)) = off f.sve2p1

-- streaming on and FA64 off
in-streaming : (s a : Bool) → (s && not a ≡ true) ↔ ((s ≡ true) × (a ≡ false))
in-streaming s a = ((λ e. let b = both s (not a) e in (b.0, (off a).0 b.1)), (λ q. cc (q.0, q.1)))

pub illegal-given : (f : Flags) (d : Option Store) → (illegal_for f d ≡ true) ↔ NotInThisMode f d
illegal-given f None = (never, (λ x. absurd x))
illegal-given f (Some (Scatter g)) = in-streaming f.streaming f.fa64
illegal-given f (Some (Strided g)) = off f.streaming
illegal-given f (Some (Quadword g)) = in-streaming f.streaming f.fa64

none-listed : {X : Type 0} (x : Element) (es : List Element) → es ≡ [] → Listed x es → X
none-listed x (y ∷ es) e l = absurd (omega (arith, ap length e))
none-listed {X = X} x [] e l = elim l [ ]

-- an active element or the second SP flag
some-or-flag : (es : List Element) (i : Bool) → (some_active es || i ≡ true) ↔ (((x : Element) × Listed x es) ⊎ (i ≡ true))
some-or-flag [] i = ((λ e. inr e), ⊎_elim (λ x. none-listed x.0 [] refl x.1) (λ e. e))
some-or-flag (x ∷ es) i = ((λ e. inl (x, here)), (λ o. refl))

-- SP is checked, where the base register is SP by a test r
checked : {R : Type 0} (f : Flags) (sp : ℕ) (r : Bool) (es : List Element) → (r ≡ true) ↔ R
    → (r && f.sp_check && not (eqb (sp % 16) 0) && (some_active es || f.sp_check_none_active) ≡ true)
    ↔ (R × (f.sp_check ≡ true) × (sp % 16 ≡ 0 → ⊥) × (((x : Element) × Listed x es) ⊎ (f.sp_check_none_active ≡ true)))
checked f sp r es t =
    let c = f.sp_check in
    let n = not (eqb (sp % 16) 0) in
    let o = some_active es || f.sp_check_none_active in
    let k = denied (eqb (sp % 16) 0) (eqb-true (sp % 16) 0) (eq-eqb (sp % 16) 0) in
    let i = some-or-flag es f.sp_check_none_active in (
      (λ e. let b = told r (c ∷ n ∷ o ∷ []) e in (t.0 b.0, b.1.0, k.0 b.1.1.0, i.0 b.1.1.1.0)),
      (λ q. all_true r c n o (t.1 q.0) q.1 (k.1 q.2) (i.1 q.3)),
    )
  where
    all_true : (a b c d : Bool) → a ≡ true → b ≡ true → c ≡ true → d ≡ true → a && b && c && d ≡ true
    all_true a b c d p q r s = cc

pub stack-given : (f : Flags) (m : Machine) (d : Option Store)
    → (stack_for f m d ≡ true)
    ↔ (BasedOnSp d
    × (f.sp_check ≡ true)
    × (m.sp % 16 ≡ 0 → ⊥)
    × (((x : Element) × Listed x (elements_for m d)) ⊎ (f.sp_check_none_active ≡ true)))
stack-given f m None = (never, (λ x. absurd x.0))
stack-given f m (Some (Scatter g)) =
    checked f m.sp (eqb g.rn 31) (elements m (Scatter g)) (eqb-true g.rn 31, eq-eqb g.rn 31)
stack-given f m (Some (Strided g)) =
    checked f m.sp (eqb g.rn 31) (elements m (Strided g)) (eqb-true g.rn 31, eq-eqb g.rn 31)
stack-given f m (Some (Quadword g)) = checked f m.sp false (elements m (Quadword g)) (never, (λ x. absurd x))

-- ---- 7

module _ (W L : ℕ) where
  pub found-outside : (es : List Element) → found (first_outside W L es) ≡ true
      → (x : Element) × Listed x es × (in_window W L x.address (length x.bytes) ≡ false)
  unfolding first_outside
  found-outside [] e = absurdly cc
  found-outside (y ∷ es) e = go (in_window W L y.address (length y.bytes)) refl e (found-outside es)
    where
      go : (b : Bool) → in_window W L y.address (length y.bytes) ≡ b → found (cond b (first_outside W L es) (some y)) ≡ true
          → (found (first_outside W L es) ≡ true → (x : Element) × Listed x es × (in_window W L x.address (length x.bytes) ≡ false))
          → (x : Element) × Listed x (y ∷ es) × (in_window W L x.address (length x.bytes) ≡ false)
      go true i q f = let r = f q in (r.0, there r.1, r.2)
      go false i q f = (y, here, i)

  pub outside-found : (es : List Element) (x : Element) → Listed x es → in_window W L x.address (length x.bytes) ≡ false
      → found (first_outside W L es) ≡ true
  unfolding first_outside
  outside-found (y ∷ es) x here i = ap (λ (b : Bool). found (cond b (first_outside W L es) (some y))) i
  outside-found (y ∷ es) x (there l) i = go (in_window W L y.address (length y.bytes)) (outside-found es x l i)
    where
      go : (b : Bool) → found (first_outside W L es) ≡ true → found (cond b (first_outside W L es) (some y)) ≡ true
      go true e = e
      go false e = refl
  outside-found [] x x4 i = elim x4 [ ]

  -- where none is found all lie inside
  pub none_found : (es : List Element) → found (first_outside W L es) ≡ false → InWindow W L es
  unfolding first_outside
  none_found [] e = tt
  none_found (y ∷ es) e = go (in_window W L y.address (length y.bytes)) refl e (none_found es)
    where
      go : (b : Bool) → in_window W L y.address (length y.bytes) ≡ b → found (cond b (first_outside W L es) (some y)) ≡ false
          → (found (first_outside W L es) ≡ false → InWindow W L es) → InWindow W L (y ∷ es)
      go true i q f = let w = in-window-inv W L y.address (length y.bytes) i in (w.0, w.1, f q)
      go false i q f = absurdly cc

pub fault-given : (W L : ℕ) (es : List Element)
    → (found (first_outside W L es) ≡ true) ↔ ((x : Element) × Listed x es × (in_window W L x.address (length x.bytes) ≡ false))
fault-given W L es = (found-outside W L es, (λ o. outside-found W L es o.0 o.1 o.2))

-- ---- 12

-- an address that both write
abbrev pub Shared : Element → Element → Type 0
Shared y x = (a : ℕ) × Writes y a × Writes x a

shared-true : (y x : Element) → Shared y x → share_byte x y ≡ true
shared-true y x c =
    common-true y x.address (length x.bytes)
    (record { at = c.0; low = c.2.0; high = c.2.1; from = c.1.0; upto = c.1.1 })

true-shared : (y x : Element) → share_byte x y ≡ true → Shared y x
true-shared y x e =
    let c = true-common y x.address (length x.bytes) e in
    (c.at, (c.from, c.upto), (c.low, c.high))

-- with one of the lower elements
pub with-true : (x y : Element) (ys : List Element) → Listed y ys → Shared y x → shares_with x ys ≡ true
unfolding shares_with
with-true x y (z ∷ ys) here c = ap (λ (b : Bool). b || shares_with x ys) (shared-true y x c)
with-true x y (z ∷ ys) (there l) c = or-true (share_byte x z) (shares_with x ys) (with-true x y ys l c)
with-true x y [] x3 c = elim x3 [ ]

pub true-with : (x : Element) (ys : List Element) → shares_with x ys ≡ true → (y : Element) × Listed y ys × Shared y x
unfolding shares_with
true-with x [] e = absurdly cc
true-with x (y ∷ ys) e = go (or-one (share_byte x y) (shares_with x ys) e) (true-with x ys)
  where
    go : (share_byte x y ≡ true) ⊎ (shares_with x ys ≡ true) → (shares_with x ys ≡ true → (z : Element) × Listed z ys × Shared z x)
        → (z : Element) × Listed z (y ∷ ys) × Shared z x
    go (inl h) rest = (y, here, true-shared y x h)
    go (inr h) rest = let r = rest h in (r.0, there r.1, r.2)

-- one of the elements shares a byte with one that stands before it, or with one of those that are lower than all
abbrev SomeShare : List Element → List Element → Type 0
SomeShare lower es = TwoShare es ⊎ ((y : Element) × (x : Element) × Listed y lower × Listed x es × Shared y x)

found-share : (lower es : List Element) → found (overlap_from lower es) ≡ true → SomeShare lower es
unfolding overlap_from
found-share lower [] e = absurdly cc
found-share lower (x ∷ xs) e = go (shares_with x lower) refl e (found-share (x ∷ lower) xs)
  where
    moved : SomeShare (x ∷ lower) xs → SomeShare lower (x ∷ xs)
    moved (inl (y, z, b, c)) = inl (y, z, later b, c)
    moved (inr (y, z, here, l, c)) = inl (x, z, first l, c)
    moved (inr (y, z, there k, l, c)) = inr (y, z, k, there l, c)

    go : (b : Bool) → shares_with x lower ≡ b → found (cond b (some x) (overlap_from (x ∷ lower) xs)) ≡ true
        → (found (overlap_from (x ∷ lower) xs) ≡ true → SomeShare (x ∷ lower) xs) → SomeShare lower (x ∷ xs)
    go true q e rest = let r = true-with x lower q in inr (r.0, x, r.1, here, r.2)
    go false q e rest = moved (rest e)

-- one behind the first, or the first itself
behind : (z : Element) (lower xs : List Element) → found (overlap_from (z ∷ lower) xs) ≡ true → found (overlap_from lower (z ∷ xs)) ≡ true
unfolding overlap_from
behind z lower xs e = go (shares_with z lower)
  where
    go : (b : Bool) → found (cond b (some z) (overlap_from (z ∷ lower) xs)) ≡ true
    go true = refl
    go false = e

lower-found : (lower es : List Element) (y x : Element) → Listed y lower → Listed x es → Shared y x
    → found (overlap_from lower es) ≡ true
unfolding overlap_from
lower-found lower (z ∷ xs) y x l here c =
    ap (λ (b : Bool). found (cond b (some z) (overlap_from (z ∷ lower) xs))) (with-true x y lower l c)
lower-found lower (z ∷ xs) y x l (there k) c = behind z lower xs (lower-found (z ∷ lower) xs y x (there l) k c)
lower-found lower [] y x l x5 c = elim x5 [ ]

share-found : (lower es : List Element) (y x : Element) → StandsBefore y x es → Shared y x → found (overlap_from lower es) ≡ true
unfolding overlap_from
share-found lower (z ∷ xs) y x (first l) c = behind z lower xs (lower-found (z ∷ lower) xs y x here l c)
share-found lower (z ∷ xs) y x (later b) c = behind z lower xs (share-found (z ∷ lower) xs y x b c)
share-found lower [] y x x4 c = elim x4 [ ]

pub overlap-given : (f : Flags) (es : List Element) → (overlap f es ≡ true) ↔ ((f.strict ≡ true) × TwoShare es)
overlap-given f es = (
  (λ e. let b = both f.strict (found (first_overlap es)) e in (b.0, none-lower (found-share [] es b.1))),
  (λ h. let s = h.1 in two-true f.strict (found (first_overlap es)) h.0 (share-found [] es s.0 s.1 s.2 s.3)),
)
  where
    none-lower : SomeShare [] es → TwoShare es
    none-lower (inl t) = t
    none-lower (inr (y, x, l, k, c)) = none-listed y [] refl l

    two-true : (a b : Bool) → a ≡ true → b ≡ true → a && b ≡ true
    two-true a b p q = cc
