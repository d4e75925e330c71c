-- The eight numbers of a decoded store are read off the word's bits. Assumes nothing.
use Rattle.std.specs.Prelude.{Some}
use mathlib.Core.Path.{◌≡◌, refl, sym, ap, ap₂, ◌∙◌, subst}
use mathlib.Core.Bool.{Bool, true, false, not, cond, ◌||◌}
use mathlib.Core.List.{List, [], ◌∷◌}
use Prim.Native.Nat.{ℕ, zero, suc, ◌+◌, ◌-◌, ◌*◌, ◌/◌, ◌%◌, ◌^◌, ◌≤◌, ◌<◌}
use native.Mathlib.Nat.{div-one, mod-one, zero-mul}
use native.Mathlib.Omega.{arith}
use lib.Dec.{T, eqb, ltb, eqb→eq, ltb→lt, T_not}
use lib.IntN.{pos, neg_ℤ}
use lib.ListN.{length}
use mir.Syntax.{w64}
use mir.Val.{of_z}
use borrow.Author.Tests.{ltb-false}
use Rattle.encoding.specs.Classes as C
use Rattle.encoding.specs.Classes.{Zm, Rm, imm4, xs, Rn, Zn, Zt, Zt3, Class, no_class, classes, class_at, any, has, width}
use Rattle.encoding.specs.Classes.{bit, read}
use Rattle.encoding.specs.Decoding.{extension_of, multiple_of, zt_of, store_as, store_of}
use Rattle.encoding.specs.Answers.{decoded_number, decoded_numbers, extension_number, store_numbers}
use Rattle.encoding.specs.Statements.{multiple_bits, word_numbers, NumbersFromBits}
use Rattle.encoding.specs.declared.Extension.TheVariants.{Uxtw, Sxtw}
use Rattle.encoding.specs.declared.Feature.{Feature}
use Rattle.encoding.specs.declared.Feature.TheVariants.{SVE, SME2, SVE2p1}
use Rattle.encoding.proofs.Tests.{holds, cond-true, cond-false, all, Facts, facts, every, every-at}
use Rattle.encoding.proofs.Rows.{Vector, Striding, scattered, striding, quad}
use Rattle.encoding.proofs.Signed.{multiple-low, multiple-high, mul-pos}
use Rattle.encoding.proofs.Reading.{zt-whole}
use Rattle.encoding.proofs.Statements.{decodes-its-class}

-- ---- one number

-- a field that a class may lack
lacking : (h : Bool) (x n : ℕ) → x % 2 ^ cond h n 0 ≡ cond h (x % 2 ^ n) 0
lacking true x n = refl
lacking false x n = mod-one x

-- a test that stands second, where the first fails
second : (a b : Bool) → T (not a) → b ≡ a || b
second true b t = absurd t
second false b t = refl

first : (a b : Bool) → T a → a ≡ a || b
first true b t = refl
first false b t = absurd t

code : (v : ℕ) → v < 2 → extension_number (cond (eqb v 0) (Some Uxtw) (Some Sxtw)) ≡ 1 + v
code zero h = refl
code (suc zero) h = refl
code (suc (suc v)) h = absurd (omega arith)

extension : (h : Bool) (w : ℕ) → extension_number (extension_of h (w / 2 ^ 14 % 2 ^ cond h 1 0)) ≡ cond h (1 + bit w 14) 0
extension true w = code (w / 2 ^ 14 % 2) (omega arith)
extension false w = refl

negative : (n : ℕ) → 0 < n → of_z w64 (neg_ℤ (pos n)) ≡ 2 ^ 64 - n
negative zero h = absurd (omega arith)
negative (suc n) h = refl

multiple : (m v : ℕ) → 0 < m → v < 16 → of_z w64 (multiple_of m v) ≡ multiple_bits m v
multiple m v h l = go (ltb v 8) refl
  where
    go : (b : Bool) → ltb v 8 ≡ b → of_z w64 (multiple_of m v) ≡ cond b (v * m) (2 ^ 64 - (16 - v) * m)
    go true e = ap (of_z w64) (multiple-low m v (ltb→lt v 8 (holds e)))
    go false e =
        let g : 8 ≤ v = ltb-false v 8 e in
        ap (of_z w64) (multiple-high m v g l) ∙ negative ((16 - v) * m) (mul-pos (16 - v) m (omega arith) h)

multiple-or-none : (h : Bool) (m x : ℕ) → 0 < m → of_z w64 (multiple_of m (x % 2 ^ cond h 4 0)) ≡ cond h (multiple_bits m (x % 2 ^ 4)) 0
multiple-or-none true m x h = multiple m (x % 16) h (omega arith)
multiple-or-none false m x h =
    ap (λ (v : ℕ). of_z w64 (multiple_of m v)) (lacking false x 4) ∙ ap (of_z w64) (multiple-low m 0 (omega arith)) ∙ zero-mul m

-- ---- which fields the classes of a feature have

abbrev shape_as : Feature → Class → List Bool
shape_as SVE c = has c Zm ∷ not (has c C.T) ∷ not (has c imm4) ∷ []
shape_as SME2 c = not (has c Zm) ∷ not (has c xs) ∷ has c C.T ∷ eqb (width c (zt_of c)) (cond (has c Zt3) 3 2) ∷ []
shape_as SVE2p1 c = not (has c Zm) ∷ not (has c xs) ∷ not (has c C.T) ∷ not (has c imm4) ∷ []

all-shaped : T (every (λ c. all (shape_as c.feature c)) classes)
unfolding every classes any has
all-shaped = tt

shaped-as : (k : ℕ) → k < length classes → (x : Feature) → (class_at k).feature ≡ x → Facts (shape_as x (class_at k))
unfolding class_at
shaped-as k h x e =
    facts (shape_as x (class_at k))
    (subst (λ (y : Feature). T (all (shape_as y (class_at k)))) e
    (every-at (λ c. all (shape_as c.feature c)) classes no_class all-shaped k h))

-- ---- a store

-- what a class lacks is 0
none : (h : Bool) (x : ℕ) → T (not h) → 0 ≡ cond h x 0
none h x t = sym (cond-false h x 0 (T_not h t))

zt-bits : (b : Bool) → 2 ^ cond b 3 2 ≡ cond b (2 ^ 3) (2 ^ 2)
zt-bits true = refl
zt-bits false = refl

module _ (c : Class) (w : ℕ) where
  -- entry 1 where the class has Zm, and where it may have Rm
  zm-is : T (has c Zm) → read c Zm w ≡ cond (has c Zm || has c Rm) (w / 2 ^ 16 % 2 ^ 5) 0
  zm-is t =
      lacking (has c Zm) (w / 2 ^ 16) 5 ∙ ap (λ (b : Bool). cond b (w / 2 ^ 16 % 2 ^ 5) 0) (first (has c Zm) (has c Rm) t)

  rm-is : T (not (has c Zm)) → read c Rm w ≡ cond (has c Zm || has c Rm) (w / 2 ^ 16 % 2 ^ 5) 0
  rm-is t =
      lacking (has c Rm) (w / 2 ^ 16) 5 ∙ ap (λ (b : Bool). cond b (w / 2 ^ 16 % 2 ^ 5) 0) (second (has c Zm) (has c Rm) t)

  -- entry 5 where it is Zt
  zt-is : width c Zt ≡ 5 → T (not (has c C.T))
      → read c Zt w ≡ cond (has c C.T) (bit w 4 * 16 + w % cond (has c Zt3) (2 ^ 3) (2 ^ 2)) (w % 2 ^ 5)
  zt-is e t = ap₂ (λ (x n : ℕ). x % 2 ^ n) (div-one w) e ∙ sym (cond-false (has c C.T) _ (w % 2 ^ 5) (T_not (has c C.T) t))

  scatter-numbers : Facts (shape_as SVE c) → Vector c Zm Rn → store_numbers (store_as SVE c w) ≡ word_numbers c w
  scatter-numbers (zm, (t, (m, u))) v =
      let e1 = zm-is zm in
      let e2 = extension (has c xs) w in
      let e3 = v.pg in
      let e4 = v.second in
      let e5 = zt-is v.zt t in
      let e6 = none (has c imm4) (multiple_bits c.nreg (w / 2 ^ 16 % 2 ^ 4)) m in
      λ i. c.number ∷ e1 i ∷ e2 i ∷ w / 2 ^ 10 % 2 ^ e3 i ∷ w / 2 ^ 5 % 2 ^ e4 i ∷ e5 i ∷ e6 i ∷ 0 ∷ []

  quadword-numbers : Facts (shape_as SVE2p1 c) → Vector c Rm Zn → store_numbers (store_as SVE2p1 c w) ≡ word_numbers c w
  quadword-numbers (zm, (x, (t, (m, u)))) v =
      let e1 = rm-is zm in
      let e2 = none (has c xs) (1 + bit w 14) x in
      let e3 = v.pg in
      let e4 = v.second in
      let e5 = zt-is v.zt t in
      let e6 = none (has c imm4) (multiple_bits c.nreg (w / 2 ^ 16 % 2 ^ 4)) m in
      λ i. c.number ∷ e1 i ∷ e2 i ∷ w / 2 ^ 10 % 2 ^ e3 i ∷ w / 2 ^ 5 % 2 ^ e4 i ∷ e5 i ∷ e6 i ∷ 0 ∷ []

  strided-numbers : Facts (shape_as SME2 c) → Striding c → store_numbers (store_as SME2 c w) ≡ word_numbers c w
  strided-numbers (zm, (x, (t, (z, u)))) v =
      let e1 = rm-is zm in
      let e2 = none (has c xs) (1 + bit w 14) x in
      let e3 = v.pc in
      let e4 = v.rn in
      let zt : read c (zt_of c) w ≡ w % cond (has c Zt3) (2 ^ 3) (2 ^ 2) =
      sym (zt-whole c w)
      ∙ ap (λ (n : ℕ). w % 2 ^ n) (eqb→eq (width c (zt_of c)) (cond (has c Zt3) 3 2) z)
      ∙ ap (λ (n : ℕ). w % n) (zt-bits (has c Zt3)) in
      let e5 = ap₂ (λ (n x : ℕ). w / 2 ^ 4 % 2 ^ n * 16 + x) v.t zt ∙ sym (cond-true (has c C.T) _ (w % 2 ^ 5) t) in
      let e6 = multiple-or-none (has c imm4) c.nreg (w / 2 ^ 16) v.nreg in
      λ i. c.number ∷ e1 i ∷ e2 i ∷ w / 2 ^ 10 % 2 ^ e3 i ∷ w / 2 ^ 5 % 2 ^ e4 i ∷ e5 i ∷ e6 i ∷ 0 ∷ []

module _ (k w : ℕ) (h : k < length classes) where
  by-feature : (x : Feature) → (class_at k).feature ≡ x → store_numbers (store_as x (class_at k) w) ≡ word_numbers (class_at k) w
  by-feature SVE e = scatter-numbers (class_at k) w (shaped-as k h SVE e) (scattered k h e)
  by-feature SME2 e = strided-numbers (class_at k) w (shaped-as k h SME2 e) (striding k h e)
  by-feature SVE2p1 e = quadword-numbers (class_at k) w (shaped-as k h SVE2p1 e) (quad k h e)

  pub store-numbers : store_numbers (store_of (class_at k) w) ≡ word_numbers (class_at k) w
  unfolding store_of
  store-numbers = by-feature (class_at k).feature refl

pub numbers_from_bits : NumbersFromBits
numbers_from_bits k w h b =
    let e = (decodes-its-class k w h).1 b in
    (ap decoded_number e, ap decoded_numbers e ∙ store-numbers k w h)
