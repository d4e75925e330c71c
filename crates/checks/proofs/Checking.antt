-- What checking answers: a refusal, or the store's access with its elements. Assumes nothing.
use Rattle.std.specs.Prelude.{Some, None, Result, Ok, Err}
use mathlib.Core.Path.{◌≡◌, refl, sym, ap, ◌∙◌, subst}
use mathlib.Core.Bool.{Bool, true, false, not, cond}
use mathlib.Core.List.{List}
use Prim.Native.Nat.{ℕ, ◌%◌, ◌≤◌}
use native.Mathlib.Omega.{arith}
use borrow.Author.Tests.{not-false}
use Rattle.encoding.specs.Decoding.{decode_of}
use Rattle.encoding.specs.Encoding.{class_for, feature_of, refused}
use Rattle.encoding.specs.declared.Feature.{Feature}
use Rattle.encoding.specs.declared.Feature.TheVariants.{SME2}
use Rattle.encoding.specs.declared.Store.{Store}
use Rattle.encoding.specs.declared.Store.TheVariants as S
use Rattle.encoding.proofs.Statements.{known-accepted}
use Rattle.endian.specs.LittleEndian.{Bytes}
use Rattle.writes.specs.Elements.{Element}
use Rattle.window.specs.Window.{window_ok}
use Rattle.elements.specs.Machine.{Machine}
use Rattle.elements.specs.Stores.{size_of}
use Rattle.elements.specs.Elements.{elements}
use Rattle.elements.specs.Accesses.{VectorSound, StridedSound, strided_elements}
use Rattle.elements.specs.declared.VectorAccess.{VectorAccess}
use Rattle.elements.specs.declared.StridedAccess.{StridedAccess}
use Rattle.elements.proofs.Shapes.{scatter-in, strided-in, quadword-in}
use Rattle.accesses.proofs.Listing.{scatter-elements, strided-elements, quadword-elements}
use Rattle.accesses.proofs.Soundness.{scatter-sound, strided-sound, quadword-sound}
use Rattle.verdicts.specs.Verdicts.{elements_for, flag_on, illegal, on_stack, stack, verdict_of, refusal_number, Verdict}
use Rattle.checks.specs.Checking.{Sound, access_for, vectors_in, elements_in, AccessSound, checked_for, concluded, Passed, CheckedAs}
use Rattle.verdicts.specs.declared.Flags.{Flags}
use Rattle.verdicts.specs.declared.Refusal.{Refusal}
use Rattle.verdicts.specs.declared.Refusal.TheVariants.{Undefined, Illegal, Stack}
use Rattle.checks.specs.declared.Access.{Access}
use Rattle.checks.specs.declared.Access.TheVariants.{Vector, Strided}
use Rattle.checks.proofs.Order.{verdict_for}

-- ---- a store's access is sound, and has its elements

pub record AccessTo (m : Machine) (s : Store) (c : Access) : Type 0 where
  pub sound : AccessSound c m.vb
  pub listed : elements m s ≡ elements_in c m.vb m.z m.p

pub access-to : (m : Machine) → Sound m.vb m.z m.p → Bytes m.z → (s : Store) → refused s ≡ false → AccessTo m s (access_for m s)
access-to m o b (S.Scatter f) a =
    let i = scatter-in f a in
    record { sound = scatter-sound m o.low o.high o.sixteen f i; listed = scatter-elements m b f i }
access-to m o b (S.Strided f) a =
    let i = strided-in f a in
    record { sound = strided-sound m o.low o.high o.sixteen f i; listed = strided-elements m f i o.sixteen o.low }
access-to m o b (S.Quadword f) a =
    let i = quadword-in f a in
    record { sound = quadword-sound m o.low o.high o.sixteen f i; listed = quadword-elements m f i }

-- soundness needs VB alone
pub access-sound : (m : Machine) → 16 ≤ m.vb → m.vb ≤ 256 → m.vb % 16 ≡ 0 → (s : Store) → refused s ≡ false
    → AccessSound (access_for m s) m.vb
access-sound m l h d (S.Scatter f) a = scatter-sound m l h d f (scatter-in f a)
access-sound m l h d (S.Strided f) a = strided-sound m l h d f (strided-in f a)
access-sound m l h d (S.Quadword f) a = quadword-sound m l h d f (quadword-in f a)

-- ---- verdicts 4 to 6 in their order

-- a strided store that isn't illegal has streaming on
pub legal-streams : (f : Flags) (x : Feature) (b : Bool) → b ≡ illegal f x → b ≡ false → x ≡ SME2 → f.streaming ≡ true
legal-streams f x b e t q = not-false f.streaming (sym (ap (illegal f) q) ∙ sym e ∙ t)

module _ (f : Flags) (m : Machine) (s : Store) (x : Feature) (e : x ≡ feature_of s) (a : Bool) (p : a ≡ not (flag_on f x)) where
  -- by the tests that the code makes
  abbrev by : (a b c : Bool) → Result Access Refusal
  by a b c = cond a (Err Undefined) (cond b (Err Illegal) (cond c (Err Stack) (Ok (access_for m s))))

  off : not (flag_on f (feature_of s)) ≡ a
  off = ap (λ (y : Feature). not (flag_on f y)) (sym e) ∙ sym p

  pub for-off : a ≡ true → Err Undefined ≡ checked_for f m s
  for-off t = sym (ap (λ (z : Bool). by z (illegal f (feature_of s)) (stack f m.sp (on_stack s) (elements m s))) (off ∙ t))

  module _ (t : a ≡ false) (b : Bool) (q : b ≡ illegal f x) where
    is-illegal : illegal f (feature_of s) ≡ b
    is-illegal = ap (illegal f) (sym e) ∙ sym q

    pub for-illegal : b ≡ true → Err Illegal ≡ checked_for f m s
    for-illegal u = sym (λ i. by ((off ∙ t) i) ((is-illegal ∙ u) i) (stack f m.sp (on_stack s) (elements m s)))

    module _ (u : b ≡ false) (o : Bool) (es : List Element) (c : Bool) (r : c ≡ stack f m.sp o es) (n : o ≡ on_stack s)
        (l : elements m s ≡ es) where
      is-stack : stack f m.sp (on_stack s) (elements m s) ≡ c
      is-stack = (λ i. stack f m.sp (sym n i) (l i)) ∙ sym r

      pub for-stack : c ≡ true → Err Stack ≡ checked_for f m s
      for-stack w = sym (λ i. by ((off ∙ t) i) ((is-illegal ∙ u) i) ((is-stack ∙ w) i))

      pub for-access : (k : Access) → k ≡ access_for m s → c ≡ false → Ok k ≡ checked_for f m s
      for-access k g w = ap (λ (y : Access). Ok y) g ∙ sym (λ i. by ((off ∙ t) i) ((is-illegal ∙ u) i) ((is-stack ∙ w) i))

-- ---- what checking answers

module _ (f : Flags) (m : Machine) (W L word : ℕ) where
  pub refused_as : (r : Refusal) → refusal_number r ≤ 6 → ((room : ℕ) → verdict_of f m W L word room ≡ Err r)
      → CheckedAs f m W L word (Err r)
  unfolding CheckedAs
  refused_as r n h = (n, h)

  -- and back
  pub refused-told : (c : Result Access Refusal) (r : Refusal) → CheckedAs f m W L word c → c ≡ Err r
      → (room : ℕ) → verdict_of f m W L word room ≡ Err r
  unfolding CheckedAs
  refused-told c r h q = (subst (CheckedAs f m W L word) q h).1

  pub vector-told : (c : Result Access Refusal) (v : VectorAccess) → CheckedAs f m W L word c → c ≡ Ok (Vector v)
      → VectorSound v m.vb × Passed f m W L word (vectors_in v m.vb m.z m.p) v.size
  unfolding CheckedAs
  vector-told c v h q = subst (CheckedAs f m W L word) q h

  pub strided-told : (c : Result Access Refusal) (s : StridedAccess) → CheckedAs f m W L word c → c ≡ Ok (Strided s)
      → StridedSound s m.vb × Passed f m W L word (strided_elements s m.vb m.z) s.size
  unfolding CheckedAs
  strided-told c s h q = subst (CheckedAs f m W L word) q h

  pub undefined-as : ((room : ℕ) → verdict_of f m W L word room ≡ verdict_for f m W L room (decode_of word)) → None ≡ decode_of word
      → CheckedAs f m W L word (Err Undefined)
  undefined-as past d = refused_as Undefined (omega arith) (λ room. past room ∙ ap (verdict_for f m W L room) (sym d))

  module _ (bytes : Bytes m.z) (o : Sound m.vb m.z m.p) (w : window_ok W L ≡ true)
      (past : (room : ℕ) → verdict_of f m W L word room ≡ verdict_for f m W L room (decode_of word)) where
    -- none of 4 to 6 is due of s
    abbrev Concludes : Store → Type 0
    Concludes s = (room : ℕ) → verdict_of f m W L word room ≡ concluded f.strict W L room (size_of (class_for s)) (elements m s)

    passed : (s : Store) → Some s ≡ decode_of word → (es : List Element) → elements m s ≡ es → Concludes s
        → Passed f m W L word es (size_of (class_for s))
    passed s d es q h =
        record {
          registers = o;
          window = w;
          listed = sym (ap (elements_for m) d) ∙ q;
          verdict = λ room. h room ∙ ap (concluded f.strict W L room (size_of (class_for s))) q;
        }

    access-as : (s : Store) → Some s ≡ decode_of word → refused s ≡ false → Concludes s → CheckedAs f m W L word (Ok (access_for m s))
    unfolding CheckedAs
    access-as (S.Scatter g) d a h =
        let t = access-to m o bytes (S.Scatter g) a in (t.sound, passed (S.Scatter g) d _ t.listed h)
    access-as (S.Strided g) d a h =
        let t = access-to m o bytes (S.Strided g) a in (t.sound, passed (S.Strided g) d _ t.listed h)
    access-as (S.Quadword g) d a h =
        let t = access-to m o bytes (S.Quadword g) a in (t.sound, passed (S.Quadword g) d _ t.listed h)

    pub known_as : (s : Store) → Some s ≡ decode_of word → CheckedAs f m W L word (checked_for f m s)
    known_as s d = go (not (flag_on f (feature_of s))) refl (illegal f (feature_of s)) refl (stack f m.sp (on_stack s) (elements m s)) refl
      where
        by : ℕ → Bool → Bool → Bool → Verdict
        by room a b c =
            cond a (Err Undefined)
            (cond b (Err Illegal)
            (cond c (Err Stack) (concluded f.strict W L room (size_of (class_for s)) (elements m s))))

        told : {a b c : Bool} → not (flag_on f (feature_of s)) ≡ a → illegal f (feature_of s) ≡ b
            → stack f m.sp (on_stack s) (elements m s) ≡ c
            → (room : ℕ) → verdict_of f m W L word room ≡ by room a b c
        told p q r room = past room ∙ ap (verdict_for f m W L room) (sym d) ∙ (λ i. by room (p i) (q i) (r i))

        go : (a : Bool) → not (flag_on f (feature_of s)) ≡ a → (b : Bool) → illegal f (feature_of s) ≡ b
            → (c : Bool) → stack f m.sp (on_stack s) (elements m s) ≡ c
            → CheckedAs f m W L word (cond a (Err Undefined) (cond b (Err Illegal) (cond c (Err Stack) (Ok (access_for m s)))))
        go true p b q c r = refused_as Undefined (omega arith) (told p q r)
        go false p true q c r = refused_as Illegal (omega arith) (told p q r)
        go false p false q true r = refused_as Stack (omega arith) (told p q r)
        go false p false q false r = access-as s d (known-accepted word s (sym d)) (told p q r)
