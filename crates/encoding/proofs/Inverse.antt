-- A class's stores and the values of their fields determine each other. Assumes nothing.
use Rattle.std.specs.Prelude.{Option, Some, None, is_none}
use mathlib.Core.Path.{◌≡◌, refl, sym, subst}
use mathlib.Core.Bool.{Bool, true, false, not, cond, ◌&&◌, ◌||◌}
use mathlib.Core.List.{List, [], ◌∷◌, map}
use Prim.Native.Nat.{ℕ, zero, suc, ◌+◌, ◌*◌, ◌/◌, ◌%◌, ◌^◌, ◌<◌}
use native.Mathlib.Nat.{div-add-mod', mod-lt}
use native.Mathlib.Omega.{arith}
use lib.Arith.{lt-one}
use lib.Dec.{T, eqb, ltb, ltb→lt, lt→ltb}
use lib.ListN.{get_or}
use lib.Pow.{pow_pos}
use Rattle.encoding.specs.Classes as C
use Rattle.encoding.specs.Classes.{Field, Zm, Rm, imm4, xs, Pg, Pc, Rn, Zn, Zt, low, Class, has, width, read}
use Rattle.encoding.specs.declared.Feature.{Feature}
use Rattle.encoding.specs.declared.Feature.TheVariants.{SVE, SME2, SVE2p1}
use Rattle.encoding.specs.Decoding.{extension_of, multiple_of, zt_of, store_as}
use Rattle.encoding.specs.Encoding.{number_of, feature_of, Value, values_in, placed, xs_of, imm_of, misextends}
use Rattle.encoding.specs.declared.Extension.{Extension}
use Rattle.encoding.specs.declared.Extension.TheVariants.{Uxtw, Sxtw}
use Rattle.encoding.specs.declared.Store.{Store}
use Rattle.encoding.specs.declared.Store.TheVariants.{Scatter, Strided, Quadword}
use Rattle.encoding.proofs.Tests.{every, made}
use Rattle.encoding.proofs.Signed.{imm-multiple, multiple-imm}
use Rattle.encoding.proofs.Places.{reads, sum_at, fit}
use Rattle.encoding.proofs.Rows.{places_as, Small, Striding}
use Rattle.encoding.proofs.Causes.{fits, fits-made, in-range, is-named, is-extended}

-- the store with these values
abbrev pub from_as : Feature → Class → List ℕ → Store
from_as SVE c vs =
    Scatter
    (record {
      class = c.number;
      zm = get_or vs 0 0;
      extension = extension_of (has c xs) (get_or vs 1 0);
      pg = get_or vs 2 0;
      rn = get_or vs 3 0;
      zt = get_or vs 4 0;
    })
from_as SME2 c vs =
    Strided
    (record {
      class = c.number;
      rm = get_or vs 0 0;
      multiple = multiple_of c.nreg (get_or vs 1 0);
      pc = get_or vs 2 0;
      rn = get_or vs 3 0;
      first = get_or vs 4 0 * 16 + get_or vs 5 0;
    })
from_as SVE2p1 c vs = Quadword (record { class = c.number; rm = get_or vs 0 0; pg = get_or vs 1 0; zn = get_or vs 2 0; zt = get_or vs 3 0 })

-- and a store's values
abbrev pub numbers : Class → Store → List ℕ
numbers c s = map (λ (v : Value). v.number) (values_in c s)

pub store-reads : (x : Feature) (c : Class) (w : ℕ) → store_as x c w ≡ from_as x c (reads (places_as x c) w)
store-reads SVE c w = refl
store-reads SME2 c w = refl
store-reads SVE2p1 c w = refl

pub store-number : (x : Feature) (c : Class) (w : ℕ) → number_of (store_as x c w) ≡ c.number
store-number SVE c w = refl
store-number SME2 c w = refl
store-number SVE2p1 c w = refl

pub store-feature : (x : Feature) (c : Class) (w : ℕ) → feature_of (store_as x c w) ≡ x
store-feature SVE c w = refl
store-feature SME2 c w = refl
store-feature SVE2p1 c w = refl

pub placed-sum : (c : Class) (s : Store) → placed (values_in c s) ≡ sum_at (places_as (feature_of s) c) (numbers c s)
placed-sum c (Scatter f) = refl
placed-sum c (Strided f) = refl
placed-sum c (Quadword f) = refl

-- ---- extensions and xs

xs-fits : (h : Bool) (e : Option Extension) → T (not (misextends h e)) → T (ltb (xs_of e) (2 ^ cond h 1 0))
xs-fits true None t = absurd t
xs-fits true (Some Uxtw) t = tt
xs-fits true (Some Sxtw) t = tt
xs-fits false None t = tt
xs-fits false (Some Uxtw) t = absurd t
xs-fits false (Some Sxtw) t = absurd t

extension-xs : (h : Bool) (e : Option Extension) → T (not (misextends h e)) → extension_of h (xs_of e) ≡ e
extension-xs true None t = absurd t
extension-xs true (Some Uxtw) t = refl
extension-xs true (Some Sxtw) t = refl
extension-xs false None t = refl
extension-xs false (Some Uxtw) t = absurd t
extension-xs false (Some Sxtw) t = absurd t

xs-extension : (h : Bool) (v : ℕ) → v < 2 ^ cond h 1 0 → xs_of (extension_of h v) ≡ v
xs-extension true zero l = refl
xs-extension true (suc zero) l = refl
xs-extension true (suc (suc v)) l = absurd (omega arith)
xs-extension false v l = sym (lt-one l)

extended : (h : Bool) (v : ℕ) → T (not (misextends h (extension_of h v)))
extended true v = go (eqb v 0)
  where
    go : (b : Bool) → T (not (is_none (cond b (Some Uxtw) (Some Sxtw))))
    go true = tt
    go false = tt
extended false v = tt

-- ---- a store that fits: its values fit, and make it again

pub named-parts : (a b i : Bool) → T (not (not (a && b) || not i)) → T a × T b × T i
named-parts true true true t = (tt, tt, tt)
named-parts true true false t = absurd t
named-parts true false i t = absurd t
named-parts false b i t = absurd t

strided-list : (a b c d e f : Bool) → T (a && (c && (d && true))) → T e × T f × T b → T (a && (b && (c && (d && (e && (f && true))))))
strided-list true true true true true true s t = tt
strided-list true true true true true false s t = absurd t.1
strided-list true true true true false f s t = absurd t.0
strided-list true true true false e f s t = absurd s
strided-list true true false d e f s t = absurd s
strided-list true false c d e f s t = absurd t.2
strided-list false b c d e f s t = absurd s

scatter-list : (a b r : Bool) → T (a && r) → T b → T (a && (b && r))
scatter-list true true r s t = s
scatter-list true false r s t = absurd t
scatter-list false b r s t = absurd s

pub values-fit : (c : Class) (s : Store) → T (fits c s) → T (fit (places_as (feature_of s) c) (numbers c s))
unfolding every
values-fit c (Scatter f) t =
    scatter-list (ltb f.zm (2 ^ width c Zm)) (ltb (xs_of f.extension) (2 ^ width c xs))
    (ltb f.pg (2 ^ width c Pg) && (ltb f.rn (2 ^ width c Rn) && (ltb f.zt (2 ^ width c Zt) && true)))
    (in-range c (Scatter f) t) (xs-fits (has c xs) f.extension (is-extended c (Scatter f) t))
values-fit c (Strided f) t =
    let n = 2 ^ width c imm4 in
    let i = imm_of c.nreg n f.multiple in
    let a = ltb (f.first / 16) (2 ^ width c C.T) in
    let b = ltb (f.first % 16) (2 ^ width c (zt_of c)) in
    strided-list (ltb f.rm (2 ^ width c Rm)) (ltb i n) (ltb f.pc (2 ^ width c Pc)) (ltb f.rn (2 ^ width c Rn)) a b
    (in-range c (Strided f) t) (named-parts a b (ltb i n) (is-named c (Strided f) t))
values-fit c (Quadword f) t = in-range c (Quadword f) t

pub from-values : (c : Class) (s : Store) → c.number ≡ number_of s → T (fits c s) → from_as (feature_of s) c (numbers c s) ≡ s
from-values c (Scatter f) e t =
    let x = extension-xs (has c xs) f.extension (is-extended c (Scatter f) t) in
    λ i. Scatter (record { class = e i; zm = f.zm; extension = x i; pg = f.pg; rn = f.rn; zt = f.zt })
from-values c (Strided f) e t =
    let n = 2 ^ width c imm4 in
    let z = imm_of c.nreg n f.multiple in
    let a = ltb (f.first / 16) (2 ^ width c C.T) in
    let b = ltb (f.first % 16) (2 ^ width c (zt_of c)) in
    let p = named-parts a b (ltb z n) (is-named c (Strided f) t) in
    let m = multiple-imm c.nreg n f.multiple (ltb→lt z n p.2) in
    let d = div-add-mod' f.first 16 in
    λ i. Strided (record { class = e i; rm = f.rm; multiple = m i; pc = f.pc; rn = f.rn; first = d i })
from-values c (Quadword f) e t = λ i. Quadword (record { class = e i; rm = f.rm; pg = f.pg; zn = f.zn; zt = f.zt })

-- ---- the store that a word is: it fits, and its values are the word's

below : (c : Class) (f : Field) (w : ℕ) → T (ltb (read c f w) (2 ^ width c f))
below c f w = lt→ltb (read c f w) (2 ^ width c f) (mod-lt (w / 2 ^ low f) (pow_pos (width c f)))

-- T and Zt in the first register
module _ (t z : ℕ) (h : z < 16) where
  top : (t * 16 + z) / 16 ≡ t
  top = omega arith

  rest : (t * 16 + z) % 16 ≡ z
  rest = omega arith

module _ (c : Class) (b : Small c) (w : ℕ) where
  zt-small : read c (zt_of c) w < 16
  zt-small = omega (arith, b.zt.1, mod-lt (w / 2 ^ low (zt_of c)) (pow_pos (width c (zt_of c))))

  imm-back : Striding c → imm_of c.nreg (2 ^ width c imm4) (multiple_of c.nreg (read c imm4 w)) ≡ read c imm4 w
  imm-back s =
      imm-multiple c.nreg s.nreg (2 ^ width c imm4) (read c imm4 w) (mod-lt (w / 2 ^ 16) (pow_pos (width c imm4))) b.imm4.1

  pub store-values : (x : Feature) → (x ≡ SME2 → Striding c) → numbers c (store_as x c w) ≡ reads (places_as x c) w
  store-values SVE s =
      let e = xs-extension (has c xs) (read c xs w) (mod-lt (w / 2 ^ 14) (pow_pos (width c xs))) in
      λ i. read c Zm w ∷ e i ∷ read c Pg w ∷ read c Rn w ∷ read c Zt w ∷ []
  store-values SME2 s =
      let e = imm-back (s refl) in
      let t = top (read c C.T w) (read c (zt_of c) w) zt-small in
      let z = rest (read c C.T w) (read c (zt_of c) w) zt-small in
      λ i. read c Rm w ∷ e i ∷ read c Pc w ∷ read c Rn w ∷ t i ∷ z i ∷ []
  store-values SVE2p1 s = refl

  -- a field's value has as many bits as the field
  abbrev fitting : Field → Bool
  fitting f = ltb (read c f w) (2 ^ width c f)

  named-made : (a b i : Bool) → T a → T b → T i → T (not (not (a && b) || not i))
  named-made true true true p q r = tt
  named-made true true false p q r = absurd r
  named-made true false i p q r = absurd q
  named-made false b i p q r = absurd p

  pub store-fits : (x : Feature) → (x ≡ SME2 → Striding c) → T (fits c (store_as x c w))
  unfolding every
  store-fits SVE s =
      fits-made c (store_as SVE c w)
      (made (fitting Zm ∷ fitting Pg ∷ fitting Rn ∷ fitting Zt ∷ []) (below c Zm w, (below c Pg w, (below c Rn w, (below c Zt w, tt)))))
      tt (extended (has c xs) (read c xs w))
  store-fits SME2 s =
      let first = read c C.T w * 16 + read c (zt_of c) w in
      let i = imm_of c.nreg (2 ^ width c imm4) (multiple_of c.nreg (read c imm4 w)) in
      fits-made c (store_as SME2 c w)
      (made (fitting Rm ∷ fitting Pc ∷ fitting Rn ∷ []) (below c Rm w, (below c Pc w, (below c Rn w, tt))))
      (named-made (ltb (first / 16) (2 ^ width c C.T)) (ltb (first % 16) (2 ^ width c (zt_of c))) (ltb i (2 ^ width c imm4))
      (subst (λ (n : ℕ). T (ltb n (2 ^ width c C.T))) (sym (top (read c C.T w) (read c (zt_of c) w) zt-small)) (below c C.T w))
      (subst (λ (n : ℕ). T (ltb n (2 ^ width c (zt_of c)))) (sym (rest (read c C.T w) (read c (zt_of c) w) zt-small)) (below c (zt_of c) w))
      (subst (λ (n : ℕ). T (ltb n (2 ^ width c imm4))) (sym (imm-back (s refl))) (below c imm4 w)))
      tt
  store-fits SVE2p1 s =
      fits-made c (store_as SVE2p1 c w)
      (made (fitting Rm ∷ fitting Pg ∷ fitting Zn ∷ fitting Zt ∷ []) (below c Rm w, (below c Pg w, (below c Zn w, (below c Zt w, tt)))))
      tt tt
