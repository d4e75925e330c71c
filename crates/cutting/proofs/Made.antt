-- Runs cut out of memory that the elements were written to are those of their net effect. Assumes nothing.
use mathlib.Core.Path.{◌≡◌, refl, sym, ap, ◌∙◌, subst}
use Prim.Native.Nat.{ℕ, ◌+◌, ◌-◌, ◌^◌, ◌≤◌}
use mathlib.Core.List.{List, [], ◌∷◌, ◌++◌}
use mathlib.Core.Option
use mathlib.Core.Option.{Option, none, some, or_else}
use native.Mathlib.Omega.{arith}
use lib.ListN.{length, take, drop, get_or}
use lib.Seq.{get_or-take, get_or-drop}
use Rattle.endian.specs.LittleEndian.{Bytes}
use Rattle.writes.specs.Sets.{ByteWrite, IsSet, Run, runs, lookup, writes_at, writes_of, Apart, overlay}
use Rattle.writes.specs.Encoding.{trailer, encode_runs, encode}
use Rattle.writes.specs.Elements.{Element, InSpace, InWindow, net_effect, written}
use Rattle.endian.specs.Overwriting.{overwritten}
use Rattle.endian.proofs.Order.{two, absurdly}
use Rattle.endian.proofs.LittleEndian.{bytes_take, bytes_drop, bytes-append}
use Rattle.writes.proofs.Runs.{runs-writes_of, ascending-writes_of, ascending-more, length-trailer}
use Rattle.writes.proofs.Lookup.{lookup-append, lookup-writes_at-below, lookup-writes_at-past, lookup-writes_at-at, ext-lookup}
use Rattle.writes.proofs.Net.{ascending-splice_all, net-in-window}
use Rattle.writes.proofs.Overlay.{get_or-overlay, length-overlay, overlay-nil, overlay-splice_all}
use Rattle.stretches.specs.Intervals.{Interval, interval, Separate}
use Rattle.stretches.specs.Intervals.{total}
use Rattle.stretches.proofs.Covering.{covered, is_some}
use Rattle.cutting.proofs.Putting.{over-start}
use Rattle.cutting.proofs.Shapes.{Shape, some-shape, apart-shape}
use Rattle.cutting.specs.Cutting.{part, cut, Fits}
use Rattle.cutting.proofs.Copying.{length-of-part}
use Rattle.cutting.proofs.Composing.{length-cut-runs}

-- ---- runs cut out of memory

module _ (W : ℕ) (mem : List ℕ) where
  cut-shape : (f : ℕ) (I : List Interval) → Bytes mem → Separate (length mem) f I → Shape W I (cut W mem I)
  unfolding cut part
  cut-shape f [] b a = tt
  cut-shape f (interval s n ∷ I) b a =
      (refl, length-of-part mem s n a.2, bytes_take n (drop s mem) (bytes_drop s mem b), cut-shape (s + n + 1) I b a.3)

  -- no byte, or memory's
  abbrev Own : ℕ → Option ℕ → Type 0
  Own x none = Unit {0}
  Own x (some b) = b ≡ get_or mem (x - W) 0

  own-or : (x : ℕ) (o o' : Option ℕ) → Own x o → Own x o' → Own x (or_else o o')
  unfolding or_else
  own-or x none o' h h' = h'
  own-or x (some b) o' h h' = h

  own-run : (x s n : ℕ) → s + n ≤ length mem → Own x (lookup x (writes_at (W + s) (part mem s n)))
  unfolding part
  own-run x s n h =
      let p : List ℕ = part mem s n in
      let l = length-of-part mem s n h in
      two x (W + s)
      (λ k. subst (Own x) (sym (lookup-writes_at-below x (W + s) p k)) tt)
      (λ k.
      two x (W + s + n)
      (λ j.
      let i : ℕ = x - (W + s) in
      let w : W + s + i ≡ x = omega arith in
      let v : s + i ≡ x - W = omega arith in
      subst (Own x) (sym (ap (λ (z : ℕ). lookup z (writes_at (W + s) p)) (sym w) ∙ lookup-writes_at-at i (W + s) p (omega arith)))
      (get_or-take n (drop s mem) i 0 (omega arith) ∙ get_or-drop s mem i 0 ∙ ap (λ (z : ℕ). get_or mem z 0) v))
      (λ j. subst (Own x) (sym (lookup-writes_at-past x (W + s) p (omega arith))) tt))

  own-cut : (x f : ℕ) (I : List Interval) → Separate (length mem) f I → Own x (lookup x (writes_of (cut W mem I)))
  unfolding cut writes_of lookup
  own-cut x f [] a = tt
  own-cut x f (interval s n ∷ I) a =
      let q : List ByteWrite = writes_at (W + s) (part mem s n) in
      subst (Own x) (sym (lookup-append x q (writes_of (cut W mem I))))
      (own-or x (lookup x q) (lookup x (writes_of (cut W mem I))) (own-run x s n a.2) (own-cut x (s + n + 1) I a.3))

  -- two answers that are memory's, or none, alike
  own_same : (x : ℕ) (o o' : Option ℕ) → Own x o → Own x o' → is_some o ≡ is_some o' → o ≡ o'
  own_same x none none h h' e = refl
  own_same x none (some b) h h' e = absurdly cc
  own_same x (some b) none h h' e = absurdly cc
  own_same x (some b) (some b') h h' e = ap some (h ∙ sym h')

-- ---- the law: any set in the window that memory holds, and intervals that cover just its addresses

module _ (W : ℕ) (mem : List ℕ) (I : List Interval) (S : List ByteWrite) (t : W + length mem ≤ 2 ^ 64) (b : Bytes mem)
    (a : Separate (length mem) 0 I) (set : IsSet S) (same : (x : ℕ) → covered W x I ≡ is_some (lookup x S))
    (holds : (x : ℕ) → Own W mem x (lookup x S)) where
  pub cut-runs : cut W mem I ≡ runs S
  cut-runs =
      let rs : List Run = cut W mem I in
      let s : Shape W I rs = cut-shape W mem 0 I b a in
      let G : Apart (W + 0) rs = apart-shape W (length mem) 0 I rs t a s in
      sym (runs-writes_of (W + 0) rs G)
      ∙ ap runs
      (ext-lookup 0 (writes_of rs) S (ascending-more (W + 0) 0 (writes_of rs) (omega arith) (ascending-writes_of (W + 0) rs G)) set
      (λ x. own_same W mem x (lookup x (writes_of rs)) (lookup x S) (own-cut W mem x 0 I a) (holds x) (some-shape W x I rs s ∙ same x)))

  pub cut-encoded : encode_runs (cut W mem I) ≡ encode S
  unfolding encode
  cut-encoded = ap encode_runs cut-runs

-- ---- elements in the window

fits-in-window : (W L : ℕ) (es : List Element) → Fits W L es → InWindow W L es
fits-in-window W L [] h = tt
fits-in-window W L (e ∷ es) h = (h.0, h.1, fits-in-window W L es h.3)

fits-in-space : (W L : ℕ) (es : List Element) → W + L ≤ 2 ^ 64 → Fits W L es → InSpace es
fits-in-space W L [] t h = tt
fits-in-space W L (e ∷ es) t h =
    let h1 : e.address + length e.bytes ≤ W + L = h.1 in
    (omega arith, h.2, fits-in-space W L es t h.3)

bytes-written : (W L : ℕ) (mem : List ℕ) (es : List Element) → Bytes mem → Fits W L es → Bytes (written W mem es)
unfolding written overwritten
bytes-written W L mem [] b h = b
bytes-written W L mem (e ∷ es) b h =
    let at : ℕ = e.address - W in
    let p : List ℕ = e.bytes in
    bytes-written W L (overwritten mem at p) es
    (bytes-append (take at mem) (p ++ drop (at + length p) mem) (bytes_take at mem b)
    (bytes-append p (drop (at + length p) mem) h.2 (bytes_drop (at + length p) mem b)))
    h.3

-- ---- the law for elements: intervals that cover just the addresses that they write, and memory after they were written in turn

module _ (W : ℕ) (mem : List ℕ) (es : List Element) (I : List Interval) (t : W + length mem ≤ 2 ^ 64) (b : Bytes mem)
    (f : Fits W (length mem) es) (a : Separate (length mem) 0 I) (same : (x : ℕ) → covered W x I ≡ is_some (lookup x (net_effect es))) where
  laid : overlay W mem (net_effect es) ≡ written W mem es
  laid = overlay-splice_all W mem [] es (fits-in-window W (length mem) es f) ∙ ap (λ (m : List ℕ). written W m es) (overlay-nil W mem)

  long : length mem ≡ length (written W mem es)
  long = sym (length-overlay W mem (net_effect es)) ∙ ap length laid

  holds : (x : ℕ) → Own W (written W mem es) x (lookup x (net_effect es))
  holds x = go (lookup x (net_effect es)) refl
    where
      go : (o : Option ℕ) → lookup x (net_effect es) ≡ o → Own W (written W mem es) x o
      go none e = tt
      go (some c) e =
          let w = net-in-window W (length mem) es (fits-in-window W (length mem) es f) x c e in
          let i : ℕ = x - W in
          let v : W + i ≡ x = omega (arith, w) in
          sym
          (ap (λ (m : List ℕ). get_or m i 0) (sym laid) ∙ get_or-overlay W mem (net_effect es) i (omega (arith, w))
          ∙ ap (λ (o : Option ℕ). Option.get_or o (get_or mem i 0)) (ap (λ (z : ℕ). lookup z (net_effect es)) v ∙ e))

  pub made-runs : encode_runs (cut W (written W mem es) I) ≡ encode (net_effect es)
  made-runs =
      cut-encoded W (written W mem es) I (net_effect es) (subst (λ (n : ℕ). W + n ≤ 2 ^ 64) long t)
      (bytes-written W (length mem) mem es b f) (subst (λ (n : ℕ). Separate n 0 I) long a)
      (ascending-splice_all [] es (fits-in-space W (length mem) es t f) tt) same holds

  -- known before memory is written
  pub made-length : length (encode (net_effect es)) ≡ total I + 4
  unfolding encode_runs
  made-length =
      let m : List ℕ = written W mem es in
      let z : ℕ = length (cut W m I) in
      ap length (sym made-runs) ∙ length-cut-runs W m 0 I (trailer z) (subst (λ (n : ℕ). Separate n 0 I) long a)
      ∙ ap (λ (n : ℕ). total I + n) (length-trailer z)

  -- the whole buffer
  pub made-buffer : (mem' out out' : List ℕ) → mem' ≡ written W mem es → out' ≡ overwritten out 0 (encode_runs (cut W mem' I))
      → out' ≡ encode (net_effect es) ++ drop (length (encode (net_effect es))) out
  made-buffer mem' out out' em e =
      e ∙ ap (overwritten out 0) (ap (λ (m : List ℕ). encode_runs (cut W m I)) em ∙ made-runs) ∙ over-start out (encode (net_effect es))
