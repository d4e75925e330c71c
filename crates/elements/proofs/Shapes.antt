-- What the classes of each feature are like, computed over the table, and what a store that isn't refused has in its fields.
-- Assumes nothing.
use Rattle.std.proofs.Common.{◌≡◌, ℕ, ◌*◌, ◌/◌, ◌%◌, ◌^◌, ◌<◌, ◌≤◌, Bool, true, false, cond, not, ◌||◌, T, eqb, ltb, leb, ◌⊎◌, List, [], ◌∷◌, length, get_or, nat_abs, refl, subst, inl, inr, arith, lit<, eqb→eq, ltb→lt, leb→le, eqb-true, Option, Some, None}
use native.Mathlib.Nat.{one-le-pow}
use Rattle.encoding.specs.Classes as C
use Rattle.encoding.specs.Classes.{Zm, imm4, xs, Field, size, Class, classes, class_at, no_class, any, has, width}
use Rattle.encoding.specs.declared.Feature.{Feature}
use Rattle.encoding.specs.declared.Feature.TheVariants.{SVE, SME2, SVE2p1}
use Rattle.encoding.specs.Decoding.{zt_of}
use Rattle.encoding.specs.Encoding.{Value, ◌is◌, lowest, numbers_in, imm_of, row_for, class_for, refused, misextends}
use Rattle.encoding.specs.declared.Extension.{Extension}
use Rattle.encoding.specs.declared.Extension.TheVariants.{Uxtw, Sxtw}
use Rattle.encoding.specs.declared.ScatterFields.{ScatterFields}
use Rattle.encoding.specs.declared.StridedFields.{StridedFields}
use Rattle.encoding.specs.declared.QuadwordFields.{QuadwordFields}
use Rattle.encoding.specs.declared.Store.{Store}
use Rattle.encoding.specs.declared.Store.TheVariants.{Scatter, Strided, Quadword}
use Rattle.encoding.proofs.Tests.{every, every-at, yes}
use Rattle.encoding.proofs.Rows.{Small, small_at, row-holds}
use Rattle.encoding.proofs.Causes.{fits, in-range, is-named, is-extended}
use Rattle.encoding.proofs.Inverse.{named-parts}
use Rattle.encoding.proofs.Signed.{named_small}
use Rattle.encoding.proofs.Statements.{accepted}
use Rattle.elements.specs.Stores.{step_of, size_of, stride_of}
use Rattle.elements.specs.Accesses.{offset_bytes, other_step, is_width, exponent_of}

-- ---- the classes of a feature

-- what holds of a class: its elements are whole bytes, and what its feature's classes have in common
shape : Feature → Class → List Bool
shape SVE c =
    eqb (step_of c * 8) c.esize
    ∷ eqb c.nreg 1
    ∷ (eqb (step_of c) 8 || eqb (step_of c) 4)
    ∷ (has c xs || eqb (step_of c) 8)
    ∷ is_width (size_of c)
    ∷ []
shape SME2 c =
    eqb (step_of c * 8) c.esize
    ∷ ltb 0 c.nreg
    ∷ eqb (c.nreg * stride_of c) 16
    ∷ leb (2 ^ width c (zt_of c)) (stride_of c)
    ∷ eqb (step_of c) (2 ^ exponent_of c)
    ∷ eqb (size_of c) (2 ^ exponent_of c)
    ∷ ltb (exponent_of c) 4
    ∷ []
shape SVE2p1 c = eqb (step_of c * 8) c.esize ∷ eqb c.nreg 1 ∷ eqb (step_of c) 16 ∷ eqb (size_of c) 16 ∷ []

shaped : Class → Bool
shaped c = every (λ b. b) (shape c.feature c)

all-shaped : T (every shaped classes)
unfolding every shaped shape classes any has lowest
all-shaped = tt

-- the i-th of these tests
shape_at : (k : ℕ) → k < length classes → (x : Feature) → (class_at k).feature ≡ x → (i : ℕ) → i < length (shape x (class_at k))
    → T (get_or (shape x (class_at k)) i true)
unfolding shaped class_at
shape_at k h x e =
    every-at (λ b. b) (shape x (class_at k)) true
    (subst (λ (y : Feature). T (every (λ b. b) (shape y (class_at k)))) e (every-at shaped classes no_class all-shaped k h))

-- ---- the fields of a store that isn't refused, and its class

-- a value that a field has in a class is one that its places hold
in-places : (c : Class) (f : Field) (n : ℕ) → n < 2 ^ width c f → n < 2 ^ size f
in-places c f n = go (has c f)
  where
    go : (b : Bool) → n < 2 ^ cond b (size f) 0 → n < 2 ^ size f
    go true h = h
    go false h = omega (arith, one-le-pow (size f) 2 (lit< tt))

-- the i-th of the fields that a store names as they are
abbrev number_at : Store → ℕ → Value
number_at s i = get_or (numbers_in s) i (Zm is 0)

number_in : (c : Class) (s : Store) → T (fits c s) → (i : ℕ) → i < length (numbers_in s)
    → (number_at s i).number < 2 ^ size (number_at s i).field
number_in c s t i h =
    in-places c (number_at s i).field (number_at s i).number
    (ltb→lt (number_at s i).number (2 ^ width c (number_at s i).field)
    (every-at (λ v. ltb v.number (2 ^ width c v.field)) (numbers_in s) (Zm is 0) (in-range c s t) i h))

-- an offset's bytes lie in its element
fits-step : (h : Bool) (e : Option Extension) (n : ℕ) → T (not (misextends h e)) → 4 ≤ n → T (h || eqb n 8) → offset_bytes e ≤ n
fits-step true None n t l u = absurd t
fits-step true (Some Uxtw) n t l u = l
fits-step true (Some Sxtw) n t l u = l
fits-step false None n t l u = let q = eqb→eq n 8 u in omega arith
fits-step false (Some Uxtw) n t l u = absurd t
fits-step false (Some Sxtw) n t l u = absurd t

-- 8 or 4
four-step : (n : ℕ) → (n ≡ 8) ⊎ (n ≡ 4) → 4 ≤ n
four-step n (inl e) = omega arith
four-step n (inr e) = omega arith

either_step : (n : ℕ) → T (eqb n 8 || eqb n 4) → (n ≡ 8) ⊎ (n ≡ 4)
either_step n t = go (eqb n 8) refl t
  where
    go : (b : Bool) → eqb n 8 ≡ b → T (b || eqb n 4) → (n ≡ 8) ⊎ (n ≡ 4)
    go true e u = inl (eqb-true n 8 e)
    go false e u = inr (eqb→eq n 4 u)

-- by the extension
step_by : (x : Option Extension) (n : ℕ) → (x ≡ None → n ≡ 8) → (n ≡ 8) ⊎ (n ≡ 4) → (n ≡ 8) ⊎ (n ≡ other_step x)
step_by None n f s = inl (f refl)
step_by (Some Uxtw) n f s = s
step_by (Some Sxtw) n f s = s

whole-step : (h : Bool) (n : ℕ) → T (not (misextends h None)) → T (h || eqb n 8) → n ≡ 8
whole-step true n t u = absurd t
whole-step false n t u = eqb→eq n 8 u

pub record ScatterIn (f : ScatterFields) (c : Class) : Type 0 where
  pub zm : f.zm < 32
  pub pg : f.pg < 8
  pub rn : f.rn < 32
  pub zt : f.zt < 32
  pub small : Small c
  pub nreg : c.nreg ≡ 1
  pub eight : c.esize / 8 * 8 ≡ c.esize
  pub four : 4 ≤ step_of c
  pub eight-or-four : (step_of c ≡ 8) ⊎ (step_of c ≡ 4)
  pub steps : (step_of c ≡ 8) ⊎ (step_of c ≡ other_step f.extension)
  pub offset : offset_bytes f.extension ≤ step_of c
  pub none : f.extension ≡ None → step_of c ≡ 8
  pub width : is_width (size_of c) ≡ true

pub scatter-in : (f : ScatterFields) → refused (Scatter f) ≡ false → ScatterIn f (class_for (Scatter f))
unfolding shape
scatter-in f r₀ =
    let a = accepted (Scatter f) r₀ in
    let c = class_for (Scatter f) in
    let k = row_for (Scatter f) in
    let r = number_in c (Scatter f) a.1 in
    let t = shape_at k a.0 SVE (row-holds f.class SVE a.0).1 in
    let x = is-extended c (Scatter f) a.1 in
    let e = either_step (step_of c) (t 2 (lit< tt)) in
    let l = four-step (step_of c) e in
    let w : f.extension ≡ None → step_of c ≡ 8 =
    λ q. whole-step (has c xs) (step_of c) (subst (λ (y : Option Extension). T (not (misextends (has c xs) y))) q x) (t 3 (lit< tt)) in
    record {
      zm = r 0 (lit< tt);
      pg = r 1 (lit< tt);
      rn = r 2 (lit< tt);
      zt = r 3 (lit< tt);
      small = small_at k a.0;
      eight = eqb→eq (step_of c * 8) c.esize (t 0 (lit< tt));
      nreg = eqb→eq c.nreg 1 (t 1 (lit< tt));
      four = l;
      offset = fits-step (has c xs) f.extension (step_of c) x l (t 3 (lit< tt));
      eight-or-four = e;
      steps = step_by f.extension (step_of c) w e;
      none = w;
      width = yes (is_width (size_of c)) (t 4 (lit< tt));
    }

pub record QuadwordIn (f : QuadwordFields) (c : Class) : Type 0 where
  pub rm : f.rm < 32
  pub pg : f.pg < 8
  pub zn : f.zn < 32
  pub zt : f.zt < 32
  pub small : Small c
  pub nreg : c.nreg ≡ 1
  pub eight : c.esize / 8 * 8 ≡ c.esize
  pub sixteen : step_of c ≡ 16
  pub whole : size_of c ≡ 16

pub quadword-in : (f : QuadwordFields) → refused (Quadword f) ≡ false → QuadwordIn f (class_for (Quadword f))
unfolding shape
quadword-in f e =
    let a = accepted (Quadword f) e in
    let c = class_for (Quadword f) in
    let k = row_for (Quadword f) in
    let r = number_in c (Quadword f) a.1 in
    let t = shape_at k a.0 SVE2p1 (row-holds f.class SVE2p1 a.0).1 in
    record {
      rm = r 0 (lit< tt);
      pg = r 1 (lit< tt);
      zn = r 2 (lit< tt);
      zt = r 3 (lit< tt);
      small = small_at k a.0;
      eight = eqb→eq (step_of c * 8) c.esize (t 0 (lit< tt));
      nreg = eqb→eq c.nreg 1 (t 1 (lit< tt));
      sixteen = eqb→eq (step_of c) 16 (t 2 (lit< tt));
      whole = eqb→eq (size_of c) 16 (t 3 (lit< tt));
    }

pub record StridedIn (f : StridedFields) (c : Class) : Type 0 where
  pub rm : f.rm < 32
  pub pc : f.pc < 8
  pub rn : f.rn < 32
  pub multiple : nat_abs f.multiple ≤ 64
  pub small : Small c
  pub nreg : 0 < c.nreg
  pub eight : c.esize / 8 * 8 ≡ c.esize
  pub step : step_of c ≡ 2 ^ exponent_of c
  pub size : size_of c ≡ 2 ^ exponent_of c
  pub exponent : exponent_of c < 4
  pub registers : c.nreg * stride_of c ≡ 16
  pub first : f.first / 16 < 2
  pub zt : f.first % 16 < stride_of c

pub strided-in : (f : StridedFields) → refused (Strided f) ≡ false → StridedIn f (class_for (Strided f))
unfolding shape
strided-in f e =
    let a = accepted (Strided f) e in
    let c = class_for (Strided f) in
    let k = row_for (Strided f) in
    let r = number_in c (Strided f) a.1 in
    let t = shape_at k a.0 SME2 (row-holds f.class SME2 a.0).1 in
    let b = small_at k a.0 in
    let n = 2 ^ width c imm4 in
    let i = imm_of c.nreg n f.multiple in
    let high = f.first / 16 in
    let low = f.first % 16 in
    let zt = 2 ^ width c (zt_of c) in
    let p = named-parts (ltb high (2 ^ width c C.T)) (ltb low zt) (ltb i n) (is-named c (Strided f) a.1) in
    record {
      rm = r 0 (lit< tt);
      pc = r 1 (lit< tt);
      rn = r 2 (lit< tt);
      multiple = named_small c.nreg n f.multiple b.nreg b.imm4.1 (ltb→lt i n p.2);
      small = b;
      eight = eqb→eq (step_of c * 8) c.esize (t 0 (lit< tt));
      nreg = ltb→lt 0 c.nreg (t 1 (lit< tt));
      registers = eqb→eq (c.nreg * stride_of c) 16 (t 2 (lit< tt));
      step = eqb→eq (step_of c) (2 ^ exponent_of c) (t 4 (lit< tt));
      size = eqb→eq (size_of c) (2 ^ exponent_of c) (t 5 (lit< tt));
      exponent = ltb→lt (exponent_of c) 4 (t 6 (lit< tt));
      first = in-places c C.T high (ltb→lt high (2 ^ width c C.T) p.0);
      zt = omega (arith, ltb→lt low zt p.1, leb→le zt (stride_of c) (t 3 (lit< tt)));
    }
