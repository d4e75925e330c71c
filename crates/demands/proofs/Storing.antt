-- What demands 1 and 2 say of the merged call. Assumes nothing.
use Rattle.std.specs.Prelude.{Some, None, Ok, Err}
use Rattle.std.specs.Prelude as P
use mathlib.Core.Path.{◌≡◌, refl, sym, ap, ◌∙◌, subst}
use mathlib.Core.Bool.{Bool, true, false, not, cond}
use mathlib.Core.List.{List, ◌∷◌}
use mathlib.Core.Logic.{◌↔◌, ◌⊎◌, inl, inr}
use mathlib.Core.Option
use mathlib.Core.Option.{Option, none, some}
use Prim.Native.Nat.{ℕ, zero, suc, ◌+◌, ◌-◌, ◌^◌, ◌≤◌, ◌<◌}
use native.Mathlib.Omega.{arith}
use lib.Dec.{ltb}
use lib.ListN.{length, get_or}
use Rattle.encoding.specs.Decoding.{decode_of}
use Rattle.encoding.specs.Encoding.{class_for, refused}
use Rattle.encoding.specs.declared.Store.{Store}
use Rattle.encoding.specs.declared.Store.TheVariants.{Scatter, Strided, Quadword}
use Rattle.encoding.proofs.Statements.{known-accepted}
use Rattle.writes.specs.Elements.{Element, InWindow, net_effect, first_overlap}
use Rattle.writes.specs.Sets.{overlay}
use Rattle.window.specs.Window.{window_ok, in_window, byte_outside}
use Rattle.endian.proofs.Order.{two, absurdly, not-both}
use Rattle.writes.proofs.Overlay.{length-overlay, get_or-overlay}
use Rattle.writes.proofs.Statements.{laid-as-written, written_last}
use Rattle.window.proofs.Windows.{in-window, not-in-window, Least, byte-least}
use Rattle.elements.specs.Machine.{Machine}
use Rattle.elements.specs.Stores.{size_of, count_of}
use Rattle.elements.specs.Elements.{active_at, element_at, actives, elements}
use Rattle.verdicts.specs.Verdicts.{elements_for, size_for, patch_of, length_ok, registers_ok, undefined, first_outside, found, fault_of}
use Rattle.verdicts.specs.Verdicts.{overlap, overlap_of, Verdict, done}
use Rattle.verdicts.specs.Verdicts.{table, decided, done_of, verdict_of, refusal_number, number}
use Rattle.verdicts.specs.Statements.{NoneGiven, Decides, before, Listed}
use Rattle.verdicts.specs.declared.Flags.{Flags}
use Rattle.verdicts.specs.declared.Refusal.{Refusal}
use Rattle.verdicts.specs.declared.Refusal.TheVariants.{Length, Registers, Window, Undefined, Illegal, Stack, Fault, Overlap, NoRoom}
use Rattle.verdicts.proofs.Rows.{done-same, none_done, decides-given, decides-before, before-decides, before-decided, none-parted}
use Rattle.verdicts.proofs.Words.{outside-found, none_found}
use Rattle.verdicts.proofs.Statements.{first-given-decides, table-numbered, table-given-when}
use Rattle.outcomes.specs.Storing.{memory_after, buffer_after, Stored}
use Rattle.demands.specs.Demand1.{OneOutcome, OfStoring}
use Rattle.demands.specs.Demand2.{ListsTheActive, Rising, InAscendingOrder, ByteByByte, CountsOfDone}
use Rattle.demands.specs.Demand2.{table_for, StoringDecided, FaultGiven, lies_in, FaultNamesTheLowest}
use Rattle.demands.specs.Demand3.{NoneDue}
use Rattle.demands.proofs.Listed.{listed-among, listed_at, first-outside}
use Rattle.checks.specs.Checking.{Sound}
use Rattle.demands.proofs.Sources.{sound, some_bytes}

-- ---- demand 1

pub store_one : (f : Flags) (m : Machine) (W : ℕ) (mem : List ℕ) (word : ℕ) (buffer : List ℕ) → OneOutcome (Stored f m W mem word buffer)
store_one f m W mem word buffer =
    let es = elements_for m (decode_of word) in
    let v = verdict_of f m W (length mem) word (length buffer) in
    record {
      answer = v;
      memory = memory_after v W mem es;
      buffer = buffer_after v (patch_of es) buffer;
      meets = record { answer = refl; memory = refl; patch = refl };
      only = λ a l k c. (
        c.answer,
        c.memory ∙ ap (λ (y : Verdict). memory_after y W mem es) c.answer,
        c.patch ∙ ap (λ (y : Verdict). buffer_after y (patch_of es) buffer) c.answer,
      );
    }

refusal-numbered : (r : Refusal) → OfStoring (refusal_number r)
refusal-numbered Length = inl (omega arith)
refusal-numbered Registers = inl (omega arith)
refusal-numbered Window = inl (omega arith)
refusal-numbered Undefined = inl (omega arith)
refusal-numbered Illegal = inl (omega arith)
refusal-numbered Stack = inl (omega arith)
refusal-numbered (Fault e a) = inl (omega arith)
refusal-numbered (Overlap e a) = inr refl
refusal-numbered NoRoom = inl (omega arith)

pub numbered : (v : Verdict) → OfStoring (number v)
numbered (Ok d) = inl (omega arith)
numbered (Err r) = refusal-numbered r

pub store_keeps : (f : Flags) (m : Machine) (W : ℕ) (mem : List ℕ) (word : ℕ) (buffer : List ℕ) (v : Verdict) (mem' buffer' : List ℕ)
    → Stored f m W mem word buffer v mem' buffer' → (number v ≡ 0 → ⊥) → (mem' ≡ mem) × (buffer' ≡ buffer)
store_keeps f m W mem word buffer (Ok d) mem' buffer' c h = absurd (h refl)
store_keeps f m W mem word buffer (Err r) mem' buffer' c h = (c.memory, c.patch)

-- ---- the list of active elements

pub lists-the-active : ListsTheActive
unfolding elements
lists-the-active m s x = (
  (λ l. let a = listed-among (active_at m s) (element_at m s) (count_of m s) 0 x l in (a.at, omega (arith, a.below), a.is-on, a.is)),
  (λ a.
      subst (λ (y : Element). Listed y (elements m s)) (sym a.3)
      (listed_at (active_at m s) (element_at m s) (count_of m s) a.0 a.1 a.2)),
)

rising : (m : Machine) (s : Store) (n e k : ℕ) → k ≤ e → Rising k (actives (active_at m s) (element_at m s) n e)
unfolding actives element_at
rising m s zero e k h = tt
rising m s (suc n) e k h = go (active_at m s e) (rising m s n (suc e) (suc e) (omega arith)) (rising m s n (suc e) k (omega arith))
  where
    rest : List Element
    rest = actives (active_at m s) (element_at m s) n (suc e)

    go : (b : Bool) → Rising (suc e) rest → Rising k rest → Rising k (cond b (element_at m s e ∷ rest) rest)
    go true p q = (h, p)
    go false p q = q

pub in-ascending-order : InAscendingOrder
unfolding elements
in-ascending-order m s = rising m s (count_of m s) 0 0 (omega arith)

-- ---- the order of the verdicts

pub storing-decided : StoringDecided
unfolding verdict_of
storing-decided f m W mem word buffer v mem' buffer' c =
    let rs = table_for f m W mem word buffer in
    subst (λ (y : Verdict). ((n : ℕ) → (n ≡ 0 → ⊥) → (number y ≡ n) ↔ Decides n rs) × ((number y ≡ 0) ↔ NoneGiven rs)) (sym c.answer)
    (first-given-decides rs _ (table-numbered f m W (length mem) (decode_of word) (length buffer)) refl)

-- ---- what the lines before 7 leave of a store

not-off : (b : Bool) → not b ≡ false → b ≡ true
not-off true e = refl
not-off false e = absurdly cc

known : (f : Flags) (d : P.Option Store) → undefined f d ≡ false → (s : Store) × (d ≡ Some s)
known f None e = absurdly cc
known f (Some s) e = (s, refl)

pub record Settled (m : Machine) (W L word : ℕ) : Type 0 where
  pub buffers : Sound m.vb m.z m.p
  pub window : window_ok W L ≡ true
  pub store : Store
  pub decoded : decode_of word ≡ Some store
  pub accepted : refused store ≡ false

pub settled : (f : Flags) (m : Machine) (W L word room : ℕ) → NoneGiven (before 7 (table f m W L (decode_of word) room))
    → Settled m W L word
settled f m W L word room (vb, (buffers, (window, (defined, u)))) =
    let k = known f (decode_of word) defined in
    record {
      buffers = sound f m (not-off (length_ok f.early f.streaming m.vb) vb) (not-off (registers_ok m) buffers);
      window = not-off (window_ok W L) window;
      store = k.0;
      decoded = k.1;
      accepted = known-accepted word k.0 k.1;
    }

-- each of its elements has some bytes
listed-some : (m : Machine) (W L word : ℕ) (x : Element) → Settled m W L word → Listed x (elements_for m (decode_of word))
    → 0 < length x.bytes
listed-some m W L word x t l =
    let a = (lists-the-active m t.store x).0 (subst (Listed x) (ap (elements_for m) t.decoded) l) in
    subst (λ (y : Element). 0 < length y.bytes) (sym a.3) (some_bytes m t.store a.0 t.buffers t.accepted a.1)

-- ---- 7

-- an element that doesn't lie in the window has a byte outside, and the other way round
byte-outside : (W L a n : ℕ) → 0 < n → in_window W L a n ≡ false → (k : ℕ) × (k < n) × ((a + k < W) ⊎ (W + L ≤ a + k))
byte-outside W L a n h e =
    two a W (λ l. (0, h, inl (omega arith)))
    (λ l.
    two (W + L) (a + n) (λ g. (n - 1, omega arith, inr (omega arith)))
    (λ g. not-both (in_window W L a n) (in-window W L a n l g) e))

outside-byte : (W L a n k : ℕ) → k < n → (a + k < W) ⊎ (W + L ≤ a + k) → in_window W L a n ≡ false
outside-byte W L a n k h (inl l) = not-in-window W L a n (λ i. omega (arith, i.0))
outside-byte W L a n k h (inr l) = not-in-window W L a n (λ i. omega (arith, i.1))

pub fault-given : FaultGiven
fault-given f m W mem word buffer v mem' buffer' c =
    let L = length mem in
    let es = elements_for m (decode_of word) in
    let rs = table_for f m W mem word buffer in
    let q = (storing-decided f m W mem word buffer v mem' buffer' c).0 7 (λ e. omega (arith, e)) in (
      (λ e.
          let d = q.0 e in
          let b = decides-before 7 rs d in
          let x = (table-given-when f m W L (decode_of word) (length buffer)).fault.0 (decides-given 7 rs d) in
          let some_byte = listed-some m W L word x.0 (settled f m W L word (length buffer) b) x.1 in
          (b, (x.0, x.1, byte-outside W L x.0.address (length x.0.bytes) some_byte x.2))),
      (λ h.
          let x = h.1 in
          let k = x.2 in
          q.1
          (before-decides 7 rs h.0
          (outside-found W L es x.0 x.1 (outside-byte W L x.0.address (length x.0.bytes) k.0 k.1 k.2)))),
    )

-- e is the number of the first element outside the window, and a the address of its first byte there
record Faults (W L e a : ℕ) (xs : List Element) : Type 0 where
  element : Element
  first : first_outside W L xs ≡ some element
  number : e ≡ element.number
  address : a ≡ byte_outside W L element.address (length element.bytes)

fault-is : (f : Flags) (m : Machine) (W : ℕ) (mem : List ℕ) (word : ℕ) (buffer : List ℕ) (e a : ℕ) (mem' buffer' : List ℕ)
    → Stored f m W mem word buffer (Err (Fault e a)) mem' buffer' → Faults W (length mem) e a (elements_for m (decode_of word))
unfolding verdict_of decided
fault-is f m W mem word buffer e a mem' buffer' c =
    let rs = table_for f m W mem word buffer in
    let es = elements_for m (decode_of word) in
    let d = ((storing-decided f m W mem word buffer (Err (Fault e a)) mem' buffer' c).0 7 (λ q. omega (arith, q))).0 refl in
    go (first_outside W (length mem) es) refl (overlap f es) (first_overlap es) (ltb (length buffer) (length (patch_of es)))
    (c.answer ∙ before-decided 7 rs _ (decides-before 7 rs d))
  where
    go : (o : Option Element) → first_outside W (length mem) (elements_for m (decode_of word)) ≡ o
        → (u : Bool) (p : Option Element) (t : Bool)
        → Err (Fault e a)
        ≡ cond (found o) (Err (fault_of W (length mem) o))
        (cond u (Err (overlap_of p))
        (cond t (Err NoRoom) (done_of (elements_for m (decode_of word)) (size_for (decode_of word)))))
        → Faults W (length mem) e a (elements_for m (decode_of word))
    go none q true none t r = absurdly cc
    go none q true (some x) t r = absurdly cc
    go none q false p true r = absurdly cc
    go none q false p false r = absurdly cc
    go (some x) q u p t r = record { element = x; first = q; number = cc; address = cc }

-- what is settled where 7 is answered
fault-settled : (f : Flags) (m : Machine) (W : ℕ) (mem : List ℕ) (word : ℕ) (buffer : List ℕ) (e a : ℕ) (mem' buffer' : List ℕ)
    → Stored f m W mem word buffer (Err (Fault e a)) mem' buffer' → Settled m W (length mem) word
fault-settled f m W mem word buffer e a mem' buffer' c =
    let rs = table_for f m W mem word buffer in
    let d = ((storing-decided f m W mem word buffer (Err (Fault e a)) mem' buffer' c).0 7 (λ q. omega (arith, q))).0 refl in
    settled f m W (length mem) word (length buffer) (decides-before 7 rs d)

-- an element's address is one of 64 bits
address-small : (m : Machine) (s : Store) (e : ℕ) → (element_at m s e).address < 2 ^ 64
unfolding element_at
address-small m (Scatter f) e = omega arith
address-small m (Strided f) e = omega arith
address-small m (Quadword f) e = omega arith

pub fault-names-the-lowest : FaultNamesTheLowest
unfolding elements element_at
fault-names-the-lowest f m W mem word buffer e a mem' buffer' s c k =
    let t = fault-is f m W mem word buffer e a mem' buffer' c in
    let q : first_outside W (length mem) (elements m s) ≡ some t.element =
    sym (ap (λ (d : P.Option Store). first_outside W (length mem) (elements_for m d)) k) ∙ t.first in
    let l = first-outside (active_at m s) (element_at m s) W (length mem) (count_of m s) 0 t.element q in
    let i : l.among.at ≡ e = sym (t.number ∙ ap (λ (x : Element). x.number) l.among.is) in
    let x : t.element ≡ element_at m s e = l.among.is ∙ ap (element_at m s) i in
    let b : a ≡ byte_outside W (length mem) (element_at m s e).address (length (element_at m s e).bytes) =
    t.address ∙ ap (λ (y : Element). byte_outside W (length mem) y.address (length y.bytes)) x in
    let h : e < count_of m s = subst (λ (y : ℕ). y < count_of m s) i (omega (arith, l.among.below)) in
    let o = subst (λ (y : ℕ). lies_in W (length mem) m s y ≡ false) i l.out in
    let w = fault-settled f m W mem word buffer e a mem' buffer' c in
    let r = byte-least W (length mem) (element_at m s e).address (length (element_at m s e).bytes) w.window (address-small m s e)
    (some_bytes m s e w.buffers (known-accepted word s k) h) o in
    let v = subst (λ (y : ℕ). Least W (length mem) (element_at m s e).address (length (element_at m s e).bytes) y) (sym b) r in (
      h,
      subst (λ (y : ℕ). active_at m s y ≡ true) i l.among.is-on,
      (v.at, v.below, v.is, v.out, v.before),
      o,
      (λ d h o. l.before d (omega arith) (subst (λ (y : ℕ). d < y) (sym i) h) o),
    )

-- ---- what done says

-- where nothing before 8 is due the elements lie in the window
pub all-inside : (f : Flags) (m : Machine) (W L word : ℕ) → NoneDue f m W L word → InWindow W L (elements_for m (decode_of word))
all-inside f m W L word due =
    none_found W L (elements_for m (decode_of word)) (none-parted 7 (before 8 (table f m W L (decode_of word) 0)) due).1.0

pub record IsDone (f : Flags) (m : Machine) (W L word : ℕ) (v : Verdict) : Type 0 where
  pub none_due : NoneDue f m W L word
  pub answer : v ≡ done_of (elements_for m (decode_of word)) (size_for (decode_of word))

pub is-done : (f : Flags) (m : Machine) (W : ℕ) (mem : List ℕ) (word : ℕ) (buffer : List ℕ) (v : Verdict) (mem' buffer' : List ℕ)
    → Stored f m W mem word buffer v mem' buffer' → number v ≡ 0 → IsDone f m W (length mem) word v
unfolding verdict_of
is-done f m W mem word buffer v mem' buffer' c e =
    let rs = table_for f m W mem word buffer in
    let h = (storing-decided f m W mem word buffer v mem' buffer' c).1.0 e in
    record { none_due = (none-parted 8 rs h).0; answer = c.answer ∙ none_done rs _ h }

pub byte_by_byte : ByteByByte
byte_by_byte f m W mem word buffer n b k t mem' buffer' c =
    let es = elements_for m (decode_of word) in
    let d = is-done f m W mem word buffer (done n b k t) mem' buffer' c refl in
    let q : mem' ≡ overlay W mem (net_effect es) =
    c.memory ∙ sym (laid-as-written W mem es (all-inside f m W (length mem) word d.none_due)) in (
      ap length q ∙ length-overlay W mem (net_effect es),
      (λ i h.
          ap (λ (l : List ℕ). get_or l i 0) q
          ∙ get_or-overlay W mem (net_effect es) i h
          ∙ ap (λ (o : Option ℕ). Option.get_or o (get_or mem i 0)) (written_last es (W + i))),
    )

pub counts-of-done : CountsOfDone
counts-of-done f m W mem word buffer n b k t mem' buffer' s c e =
    let d = is-done f m W mem word buffer (done n b k t) mem' buffer' c refl in
    let q : done n b k t ≡ done_of (elements m s) (size_of (class_for s)) =
    d.answer ∙ ap (λ (x : P.Option Store). done_of (elements_for m x) (size_for x)) e in
    done-same q
