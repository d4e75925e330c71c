-- Document 02 (viii): when 12 is given, what it names, and what a strict store is. Assumes nothing.
use Rattle.std.specs.Prelude.{Some, None, Err}
use Rattle.std.specs.Prelude as P
use mathlib.Core.Path.{◌≡◌, refl, sym, ap, ◌∙◌, subst}
use mathlib.Core.Bool.{Bool, true, false, not, cond, ◌&&◌}
use mathlib.Core.List.{List, [], ◌∷◌}
use mathlib.Core.Option.{Option, none, some}
use Prim.Native.Nat.{ℕ, zero, suc, ◌+◌, ◌-◌, ◌*◌, ◌≤◌, ◌<◌}
use native.Mathlib.Omega.{arith}
use lib.Dec.{ltb}
use lib.ListN.{length}
use Rattle.encoding.specs.Decoding.{decode_of}
use Rattle.encoding.specs.Encoding.{row_for, class_for, feature_of}
use Rattle.encoding.specs.declared.Feature.{Feature}
use Rattle.encoding.specs.declared.Feature.TheVariants.{SVE, SME2, SVE2p1}
use Rattle.encoding.specs.declared.Store.{Store}
use Rattle.encoding.specs.declared.Store.TheVariants.{Strided}
use Rattle.encoding.specs.declared.StridedFields.{StridedFields}
use Rattle.encoding.proofs.Rows.{small_at}
use Rattle.encoding.proofs.Statements.{known-accepted, accepted}
use Rattle.endian.proofs.Order.{absurdly, not-both, both}
use Rattle.writes.specs.Elements.{Element, net_effect, shares_with, overlap_from, first_overlap}
use Rattle.writes.proofs.Sharing.{Full, no-overlap-apart, length-once}
use Rattle.elements.specs.Machine.{Machine}
use Rattle.elements.specs.Stores.{size_of, count_of}
use Rattle.elements.specs.Elements.{active_at, element_at, actives, elements}
use Rattle.elements.proofs.Shapes.{strided-in}
use Rattle.accesses.proofs.Listing.{strided-elements}
use Rattle.accesses.proofs.Soundness.{strided-sound}
use Rattle.accesses.proofs.Apart.{strided-no-overlap}
use Rattle.window.specs.Window.{window_ok}
use Rattle.verdicts.specs.Verdicts.{length_ok, registers_ok, flag_on, illegal, Row, row, Verdict, done}
use Rattle.verdicts.specs.Verdicts.{elements_for, size_for, patch_of, found, overlap, overlap_of, table, decided, done_of}
use Rattle.verdicts.specs.Verdicts.{verdict_of, number}
use Rattle.verdicts.specs.Statements.{Given, NoneGiven, before, without, StandsBefore, TwoShare}
use Rattle.verdicts.specs.declared.Flags.{Flags}
use Rattle.verdicts.specs.declared.Refusal.TheVariants.{Length, Registers, Window, Undefined, Illegal, Overlap, NoRoom}
use Rattle.verdicts.proofs.Rows.{done-same, from, decides-given, decides-before, before-decides, before-decided, none-parted}
use Rattle.verdicts.proofs.Rows.{without-undue, without-undecided}
use Rattle.verdicts.proofs.Words.{Shared, with-true, true-with}
use Rattle.verdicts.proofs.Words as words
use Rattle.verdicts.proofs.Statements.{table-numbered, table-given-when}
use Rattle.outcomes.specs.Storing.{Stored}
use Rattle.demands.specs.Demand2.{table_for, TwoActiveShare, OverlapGiven, OverlapNamesTheLowest}
use Rattle.demands.specs.Demand3.{NoneDue, effect_for}
use Rattle.demands.specs.Strict.{lenient, StrictStores}
use Rattle.demands.proofs.Shared.{stands-two, two-stands, lower_of, listed-lower, lower-listed, first-overlap}
use Rattle.demands.proofs.Sources.{element-of}
use Rattle.demands.proofs.Storing.{Settled, settled, storing-decided, is-done}

-- ---- two of the list are two active elements

module _ (m : Machine) (s : Store) where
  listed-two : TwoShare (elements m s) → TwoActiveShare m s
  unfolding elements
  listed-two (y, x, b, (a, p, q)) =
      let t = stands-two (active_at m s) (element_at m s) (count_of m s) 0 y x b in (
        t.low,
        t.high,
        t.up,
        omega (arith, t.below),
        t.low-on,
        t.high-on,
        (
          a,
          subst (λ (z : Element). (z.address ≤ a) × (a < z.address + length z.bytes)) t.low-is p,
          subst (λ (z : Element). (z.address ≤ a) × (a < z.address + length z.bytes)) t.high_is q,
        ),
      )

  two-listed : TwoActiveShare m s → TwoShare (elements m s)
  unfolding elements
  two-listed (d, e, up, below, p, q, c) =
      let v : 0 + d ≡ d = omega arith in
      let w : 0 + d + suc (e - suc d) ≡ e = omega arith in
      let b : StandsBefore (element_at m s (0 + d)) (element_at m s (0 + d + suc (e - suc d))) (elements m s) =
      two-stands (active_at m s) (element_at m s) (count_of m s) 0 d (e - suc d) (omega arith)
      (subst (λ (i : ℕ). active_at m s i ≡ true) (sym v) p) (subst (λ (i : ℕ). active_at m s i ≡ true) (sym w) q) in (
        element_at m s d,
        element_at m s e,
        subst (λ (i : ℕ). StandsBefore (element_at m s i) (element_at m s e) (elements m s)) v
            (subst (λ (i : ℕ). StandsBefore (element_at m s (0 + d)) (element_at m s i) (elements m s)) w b),
        c,
      )

-- what stands before 12 leaves of a store
settled-12 : (f : Flags) (m : Machine) (W L word room : ℕ) → NoneGiven (before 12 (table f m W L (decode_of word) room))
    → Settled m W L word
settled-12 f m W L word room h =
    settled f m W L word room (none-parted 7 (before 12 (table f m W L (decode_of word) room)) h).0

pub overlap-given : OverlapGiven
overlap-given f m W mem word buffer v mem' buffer' c =
    let L = length mem in
    let rs = table_for f m W mem word buffer in
    let g = (table-given-when f m W L (decode_of word) (length buffer)).overlap in
    let q = (storing-decided f m W mem word buffer v mem' buffer' c).0 12 (λ e. omega (arith, e)) in (
      (λ e.
          let d = q.0 e in
          let b = decides-before 12 rs d in
          let t = settled-12 f m W L word (length buffer) b in
          let x = g.0 (decides-given 12 rs d) in
          (b, x.0, (t.store, t.decoded, listed-two m t.store (subst TwoShare (ap (elements_for m) t.decoded) x.1)))),
      (λ h.
          let s = h.2.0 in
          let t = subst TwoShare (sym (ap (elements_for m) h.2.1)) (two-listed m s h.2.2) in
          q.1 (before-decides 12 rs h.0 ((words.overlap-given f (elements_for m (decode_of word))).1 (h.1, t)))),
    )

-- ---- what 12 names

-- e is the number of the first element that shares a byte with a lower one, and a its address
record Names (e a : ℕ) (xs : List Element) : Type 0 where
  element : Element
  first : first_overlap xs ≡ some element
  number : e ≡ element.number
  address : a ≡ element.address

names : (f : Flags) (m : Machine) (W : ℕ) (mem : List ℕ) (word : ℕ) (buffer : List ℕ) (e a : ℕ) (mem' buffer' : List ℕ)
    → Stored f m W mem word buffer (Err (Overlap e a)) mem' buffer' → Names e a (elements_for m (decode_of word))
unfolding verdict_of decided
names f m W mem word buffer e a mem' buffer' c =
    let rs = table_for f m W mem word buffer in
    let es = elements_for m (decode_of word) in
    let d = ((storing-decided f m W mem word buffer (Err (Overlap e a)) mem' buffer' c).0 12 (λ q. omega (arith, q))).0 refl in
    go f.strict (first_overlap es) refl (ltb (length buffer) (length (patch_of es)))
    (c.answer ∙ before-decided 12 rs _ (decides-before 12 rs d))
  where
    go : (b : Bool) (o : Option Element) → first_overlap (elements_for m (decode_of word)) ≡ o → (t : Bool)
        → Err (Overlap e a)
        ≡ cond (b && found o) (Err (overlap_of o))
        (cond t (Err NoRoom) (done_of (elements_for m (decode_of word)) (size_for (decode_of word))))
        → Names e a (elements_for m (decode_of word))
    go true (some x) q t p = record { element = x; first = q; number = cc; address = cc }
    go true none q true p = absurdly cc
    go true none q false p = absurdly cc
    go false o q true p = absurdly cc
    go false o q false p = absurdly cc

pub overlap-names-the-lowest : OverlapNamesTheLowest
unfolding elements element_at lower_of
overlap-names-the-lowest f m W mem word buffer e a mem' buffer' s c k =
    let on = active_at m s in
    let el = element_at m s in
    let t = names f m W mem word buffer e a mem' buffer' c in
    let q : overlap_from [] (elements m s) ≡ some t.element =
    sym (ap (λ (d : P.Option Store). first_overlap (elements_for m d)) k) ∙ t.first in
    let l = first-overlap on el (count_of m s) 0 t.element q in
    let i : l.among.at ≡ e = sym (t.number ∙ ap (λ (x : Element). x.number) l.among.is) in
    let x : t.element ≡ el e = l.among.is ∙ ap el i in
    let r = true-with (el e) (lower_of on el e) (subst (λ (y : ℕ). shares_with (el y) (lower_of on el y) ≡ true) i l.shares) in
    let d = listed-lower on el e r.0 r.1 in (
      subst (λ (y : ℕ). y < count_of m s) i (omega (arith, l.among.below)),
      subst (λ (y : ℕ). on y ≡ true) i l.among.is-on,
      t.address ∙ ap (λ (y : Element). y.address) x,
      (d.0, d.1, d.2, subst (λ (y : Element). Shared y (el e)) d.3 r.2),
      (λ b d h p j q' u.
          not-both (shares_with (el b) (lower_of on el b)) (with-true (el b) (el d) (lower_of on el b) (lower-listed on el b d j q') u)
          (l.before b (omega arith) (subst (λ (y : ℕ). b < y) (sym i) h) p)),
    )

-- ---- a store that is done with the flag on

-- 12 isn't due, so that no element shares a byte with a lower one
none-overlaps : (f : Flags) (m : Machine) (W L word : ℕ) → NoneDue f m W L word → overlap f (elements_for m (decode_of word)) ≡ false
none-overlaps f m W L word due = (none-parted 12 (before 8 (table f m W L (decode_of word) 0)) due).1.0

none_found : (b : Bool) (o : Option Element) → b && found o ≡ false → b ≡ true → o ≡ none
none_found true none e t = refl
none_found true (some x) e t = absurdly cc
none_found false o e t = absurdly cc

each_once : (f : Flags) (m : Machine) (W L word : ℕ) (s : Store) → NoneDue f m W L word → f.strict ≡ true
    → decode_of word ≡ Some s → TwoActiveShare m s → ⊥
each_once f m W L word s due t k h =
    let es = elements_for m (decode_of word) in
    not-both (overlap f es)
    ((words.overlap-given f es).1 (t, subst TwoShare (sym (ap (elements_for m) k)) (two-listed m s h))) (none-overlaps f m W L word due)

-- each element has msize/8 bytes
full : (on : ℕ → Bool) (el : ℕ → Element) (size n k : ℕ) → ((i : ℕ) → i < k + n → length (el i).bytes ≡ size)
    → Full size (actives on el n k)
unfolding actives
full on el size zero k f = tt
full on el size (suc n) k f = go (on k) (full on el size n (suc k) (λ i h. f i (omega arith)))
  where
    go : (b : Bool) → Full size (actives on el n (suc k)) → Full size (cond b (el k ∷ actives on el n (suc k)) (actives on el n (suc k)))
    go true r = (f k (omega arith), r)
    go false r = r

once : (f : Flags) (m : Machine) (W L word : ℕ) → NoneDue f m W L word → f.strict ≡ true
    → length (effect_for m word) ≡ length (elements_for m (decode_of word)) * size_for (decode_of word)
unfolding elements
once f m W L word due t =
    let es = elements_for m (decode_of word) in
    let u = settled f m W L word 0 (none-parted 7 (before 8 (table f m W L (decode_of word) 0)) due).0 in
    let x = u.store in
    let n : first_overlap es ≡ none = none_found f.strict (first_overlap es) (none-overlaps f m W L word due) t in
    let q : es ≡ elements m x = ap (elements_for m) u.decoded in
    let positive = (small_at (row_for x) (accepted x u.accepted).0).size.0 in
    let s : Full (size_of (class_for x)) (elements m x) =
    full (active_at m x) (element_at m x) (size_of (class_for x)) (count_of m x) 0
    (λ i h. (element-of m x i u.buffers u.accepted (omega arith)).0) in
    ap (λ (l : List Element). length (net_effect l)) q
    ∙ length-once (size_of (class_for x)) (elements m x) s
    (no-overlap-apart (size_of (class_for x)) positive (elements m x) s (sym (ap (λ (l : List Element). first_overlap l) q) ∙ n))
    ∙ sym (ap (λ (d : P.Option Store). length (elements_for m d) * size_for d) u.decoded)

payload : (f : Flags) (m : Machine) (W : ℕ) (mem : List ℕ) (word : ℕ) (buffer : List ℕ) (n b k t : ℕ) (mem' buffer' : List ℕ)
    → Stored f m W mem word buffer (done n b k t) mem' buffer' → f.strict ≡ true → b ≡ length (effect_for m word)
payload f m W mem word buffer n b k t mem' buffer' c on =
    let d = is-done f m W mem word buffer (done n b k t) mem' buffer' c refl in
    let q : done n b k t ≡ done_of (elements_for m (decode_of word)) (size_for (decode_of word)) = d.answer in
    let e : b ≡ length (elements_for m (decode_of word)) * size_for (decode_of word) = (done-same q).1 in
    e ∙ sym (once f m W (length mem) word d.none_due on)

-- ---- strided stores

strided_never : (f : Flags) (m : Machine) (W : ℕ) (mem : List ℕ) (word : ℕ) (buffer : List ℕ) (v : Verdict) (mem' buffer' : List ℕ)
    (g : StridedFields) → Stored f m W mem word buffer v mem' buffer' → decode_of word ≡ Some (Strided g) → number v ≡ 12 → ⊥
strided_never f m W mem word buffer v mem' buffer' g c k e =
    let rs = table_for f m W mem word buffer in
    let d = ((storing-decided f m W mem word buffer v mem' buffer' c).0 12 (λ q. omega (arith, q))).0 e in
    let o = (settled-12 f m W (length mem) word (length buffer) (decides-before 12 rs d)).buffers in
    let i = strided-in g (known-accepted word (Strided g) k) in
    let a = strided-sound m o.low o.high o.sixteen g i in
    let n : first_overlap (elements m (Strided g)) ≡ none =
    ap (λ (l : List Element). first_overlap l) (strided-elements m g i o.sixteen o.low) ∙ strided-no-overlap _ m.vb a m.z in
    let w = (words.overlap-given f (elements_for m (decode_of word))).1
    ((table-given-when f m W (length mem) (decode_of word) (length buffer)).overlap.0 (decides-given 12 rs d)) in
    let x = both f.strict (found (first_overlap (elements_for m (decode_of word)))) w in
    not-both (found (first_overlap (elements_for m (decode_of word)))) x.1
    (ap found (ap (λ (y : P.Option Store). first_overlap (elements_for m y)) k ∙ n))

-- ---- the flag off

not-given : (f : Flags) (m : Machine) (W L word room : ℕ) → f.strict ≡ false → Given 12 (table f m W L (decode_of word) room) → ⊥
not-given f m W L word room t g =
    not-both f.strict ((table-given-when f m W L (decode_of word) room).overlap.0 g).0 t

off : (f : Flags) (m : Machine) (W : ℕ) (mem : List ℕ) (word : ℕ) (buffer : List ℕ) → f.strict ≡ false
    → verdict_of f m W (length mem) word (length buffer)
    ≡ decided (without 12 (table_for f m W mem word buffer)) (done_of (elements_for m (decode_of word)) (size_for (decode_of word)))
unfolding verdict_of
off f m W mem word buffer t =
    without-undue 12 (table_for f m W mem word buffer) _ (not-given f m W (length mem) word (length buffer) t)

-- the other lines don't look at it
flag_same : (f : Flags) (x : Feature) → flag_on f x ≡ flag_on (lenient f) x
flag_same f SVE = refl
flag_same f SME2 = refl
flag_same f SVE2p1 = refl

illegal-same : (f : Flags) (x : Feature) → illegal f x ≡ illegal (lenient f) x
illegal-same f SVE = refl
illegal-same f SME2 = refl
illegal-same f SVE2p1 = refl

lines_same : (f : Flags) (m : Machine) (W L : ℕ) (d : P.Option Store) (room : ℕ)
    → without 12 (table f m W L d room) ≡ without 12 (table (lenient f) m W L d room)
lines_same f m W L None room = refl
lines_same f m W L (Some s) room =
    λ i.
    row 1 (not (length_ok f.early f.streaming m.vb)) Length
    ∷ row 2 (not (registers_ok m)) Registers
    ∷ row 3 (not (window_ok W L)) Window
    ∷ row 4 (not (flag_same f (feature_of s) i)) Undefined
    ∷ row 5 (illegal-same f (feature_of s) i) Illegal
    ∷ from 6 (without 12 (table f m W L (Some s) room))

-- a verdict that isn't 12 is the one with the flag off
otherwise : (f : Flags) (m : Machine) (W : ℕ) (mem : List ℕ) (word : ℕ) (buffer : List ℕ)
    → (number (verdict_of f m W (length mem) word (length buffer)) ≡ 12 → ⊥)
    → verdict_of f m W (length mem) word (length buffer) ≡ verdict_of (lenient f) m W (length mem) word (length buffer)
unfolding verdict_of
otherwise f m W mem word buffer h =
    without-undecided 12 (table_for f m W mem word buffer) _ (table-numbered f m W (length mem) (decode_of word) (length buffer)) h
    ∙ ap (λ (rs : List Row). decided rs (done_of (elements_for m (decode_of word)) (size_for (decode_of word))))
    (lines_same f m W (length mem) (decode_of word) (length buffer))
    ∙ sym (off (lenient f) m W mem word buffer refl)

pub strict-stores : StrictStores
strict-stores =
    record {
      each_once = λ f m W L word s due t k d e up below p q c. each_once f m W L word s due t k (d, e, up, below, p, q, c);
      payload = payload;
      strided_never = strided_never;
      off = λ f m W mem word buffer v mem' buffer' c t. (c.answer ∙ off f m W mem word buffer t, c.memory, c.patch);
      off_lines = λ f m W mem word buffer. refl;
      otherwise = λ f m W mem word buffer v mem' buffer' c h.
          record {
            answer = c.answer ∙ otherwise f m W mem word buffer (λ e. h (ap number c.answer ∙ e));
            memory = c.memory;
            patch = c.patch;
          };
    }
