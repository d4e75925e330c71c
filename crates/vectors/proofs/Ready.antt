-- `store_vector`: gathered keys are ready to be finished. Assumes nothing.
use Rattle.std.specs.Prelude.{Option, Some, None}
use mathlib.Core.Path.{◌≡◌, refl, sym, ap, ◌∙◌, subst}
use mathlib.Core.Bool.{Bool, true, false, cond}
use mathlib.Core.List.{List, [], ◌∷◌}
use mathlib.Core.Option.{none, some}
use Prim.Native.Nat.{ℕ, zero, suc, ◌+◌, ◌*◌, ◌≤◌, ◌<◌}
use native.Mathlib.Nat.{mul-le-mul, mul-le-mul_left}
use native.Mathlib.Omega.{arith}
use lib.ListN.{length, take, drop}
use Rattle.std.specs.Prelude.{Result, Ok, Err}
use Rattle.encoding.specs.declared.Extension.{Extension}
use Rattle.encoding.specs.declared.Extension.TheVariants.{Uxtw, Sxtw}
use Rattle.endian.specs.LittleEndian.{Bytes}
use Rattle.writes.specs.Elements.{Element, InWindow}
use Rattle.window.specs.Window.{window_ok}
use Rattle.endian.proofs.LittleEndian.{bytes_take, bytes_drop}
use Rattle.window.proofs.Windows.{window-inv}
use Rattle.elements.specs.Elements.{actives}
use Rattle.elements.specs.Accesses.{offset_bytes, vector_active, vector_element, vector_elements, VectorSound}
use Rattle.elements.specs.declared.VectorAccess.{VectorAccess}
use Rattle.verdicts.specs.Verdicts.{first_outside}
use Rattle.verdicts.specs.declared.Outside.{Outside}
use Rattle.checks.proofs.Walking.{inside-all}
use Rattle.checks.proofs.Spans.{bytes-in, bytes-long}
use Rattle.stretches.specs.Stretches.{Seen, keys_of}
use Rattle.stretches.proofs.Keying.{length-keys}
use Rattle.cutting.specs.Cutting.{part, Fits}
use Rattle.gathering.specs.Gathering.{GatheredAs}
use Rattle.writing.specs.Writing.{Held}
use Rattle.vectors.specs.Steps.{Ready}

-- at most 64 elements
pub vector-few : (v : VectorAccess) (vb : ℕ) → VectorSound v vb → v.count ≤ 64
vector-few v vb s = omega (arith, mul-le-mul_left v.count wide, s.whole, s.high)
  where
    offset-some : (x : Option Extension) → 4 ≤ offset_bytes x
    offset-some None = omega arith
    offset-some (Some Uxtw) = omega arith
    offset-some (Some Sxtw) = omega arith

    wide : 4 ≤ v.step
    wide = omega (arith, offset-some v.extension, s.offset)

-- ---- a list of active elements that lies in the window, one by one

module _ (on : ℕ → Bool) (el : ℕ → Element) (W L step size : ℕ) (stored : List ℕ) where
  -- what holds of element e
  pub record Good (e : ℕ) : Type 0 where
    pub number : (el e).number ≡ e
    pub few : e < 256
    pub long : length (el e).bytes ≡ size
    pub bytes : Bytes (el e).bytes
    pub held : (el e).bytes ≡ part stored (e * step) size
    pub room : e * step + size ≤ length stored

  pub record AllGood (f k : ℕ) (es : List Element) : Type 0 where
    pub seen : Seen W L size f es
    pub fits : Fits W L es
    pub held : Held step size stored es
    pub few : length es ≤ k

  none-good : (f k : ℕ) → AllGood f k []
  none-good f k = record { seen = tt; fits = tt; held = tt; few = omega arith }

  -- an inactive one, and an active one
  off-good : (f k : ℕ) (es : List Element) → AllGood (suc f) k es → AllGood f (suc k) es
  off-good f k es a = record { seen = lower es a.seen; fits = a.fits; held = a.held; few = omega (arith, a.few) }
    where
      lower : (es : List Element) → Seen W L size (suc f) es → Seen W L size f es
      lower [] s = tt
      lower (x ∷ xs) s = let s0 : suc f ≤ x.number = s.0 in (omega arith, s.1, s.2, s.3, s.4, s.5)

  on-good : (f k : ℕ) (es : List Element) → Good f → W ≤ (el f).address → (el f).address + length (el f).bytes ≤ W + L
      → AllGood (suc f) k es
      → AllGood f (suc k) (el f ∷ es)
  on-good f k es g l h a =
      record {
        seen = (
          omega (arith, g.number),
          omega (arith, g.number, g.few),
          l,
          omega (arith, g.long),
          g.long,
          subst (λ (n : ℕ). Seen W L size (suc n) es) (sym g.number) a.seen,
        );
        fits = (l, h, g.bytes, a.fits);
        held = (
          g.held ∙ ap (λ (n : ℕ). part stored (n * step) size) (sym g.number),
          subst (λ (n : ℕ). n * step + size ≤ length stored) (sym g.number) g.room,
          a.held,
        );
        few = omega (arith, a.few);
      }

  pub all-good : (k i : ℕ) → ((e : ℕ) → e < i + k → Good e) → InWindow W L (actives on el k i) → AllGood i k (actives on el k i)
  unfolding actives
  all-good zero i f w = none-good i 0
  all-good (suc k) i f w = go (on i) w (λ v. all-good k (suc i) (λ e h. f e (omega arith)) v)
    where
      go : (c : Bool) → InWindow W L (cond c (el i ∷ actives on el k (suc i)) (actives on el k (suc i)))
          → (InWindow W L (actives on el k (suc i)) → AllGood (suc i) k (actives on el k (suc i)))
          → AllGood i (suc k) (cond c (el i ∷ actives on el k (suc i)) (actives on el k (suc i)))
      go true w rest = on-good i k (actives on el k (suc i)) (f i (omega arith)) w.0 w.1 (rest w.2)
      go false w rest = off-good i k (actives on el k (suc i)) (rest w)

pub ready : (v : VectorAccess) (vb : ℕ) (offsets governing stored K : List ℕ) (W L : ℕ) → VectorSound v vb → length stored ≡ vb
    → Bytes stored → window_ok W L ≡ true → first_outside W L (vector_elements v offsets governing stored) ≡ none
    → K ≡ keys_of W v.size (vector_elements v offsets governing stored)
    → Ready W L v.step v.size stored K (vector_elements v offsets governing stored)
unfolding vector_elements vector_element part
ready v vb offsets governing stored K W L s q b ok none_out keys =
    let es : List Element = vector_elements v offsets governing stored in
    let w = window-inv W L ok in
    let few = vector-few v vb s in
    let g = all-good (vector_active v governing) (vector_element v offsets stored) W L v.step v.size stored v.count 0
    (λ e h.
    record {
      number = refl;
      few = omega arith;
      long = bytes-long v vb s e (omega arith) offsets stored q;
      bytes = bytes_take v.size (drop (e * v.step) stored) (bytes_drop (e * v.step) stored b);
      held = refl;
      room = omega (arith, bytes-in v vb s e (omega arith));
    }) (inside-all W L es none_out) in
    let wide : v.size ≤ 256 = omega (arith, s.size, s.wide) in
    let l : length K ≡ length es = ap length keys ∙ length-keys W L v.size s.some wide es in
    let m : length K * v.size ≤ v.count * v.step = mul-le-mul (let z : length K ≤ v.count = omega (arith, g.few) in z) s.size in
    record {
      keys = keys;
      few = omega (arith, g.few);
      top = w.1;
      small = w.0;
      some = s.some;
      wide = wide;
      bytes = omega (arith, s.whole, s.high);
      width = s.width;
      doubleword = s.doubleword;
      quadword = λ e. omega (arith, s.size, s.wide);
      inside = none_out;
      seen = g.seen;
      fits = g.fits;
      held = g.held;
    }

-- ---- what gathering answered

module _ (W L size : ℕ) (es : List Element) (A : List ℕ) (g : Result ℕ Outside) (h : GatheredAs W L size es A g) where
  pub gathered-out : (o : Outside) → g ≡ Err o
      → (x : Element) × (first_outside W L es ≡ some x) × (o.element ≡ x.number) × (o.address ≡ x.address)
  unfolding GatheredAs
  gathered-out o q = subst (GatheredAs W L size es A) q h

  pub gathered-keys : (n : ℕ) → g ≡ Ok n → (first_outside W L es ≡ none) × (n ≤ length A) × (take n A ≡ keys_of W size es)
  unfolding GatheredAs
  gathered-keys n q = subst (GatheredAs W L size es A) q h
