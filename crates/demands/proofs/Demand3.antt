-- Demand 3. Assumes nothing.
use mathlib.Core.Path.{◌≡◌, refl, sym, ap, ◌∙◌, subst}
use Prim.Native.Nat.{ℕ, ◌+◌, ◌*◌, ◌≤◌, ◌<◌}
use mathlib.Core.Bool.{Bool, true, false}
use mathlib.Core.List.{List, [], ◌∷◌, ◌++◌}
use mathlib.Core.Logic.{◌↔◌}
use native.Mathlib.Omega.{arith}
use borrow.Author.Tests.{ltb-true, ltb-false, lt-ltb, le-ltb}
use lib.Dec.{ltb}
use lib.ListN.{length, take, drop, replicate, length-replicate}
use lib.Seq.{take_at, drop_at}
use Rattle.std.specs.Prelude.{Ok}
use Rattle.encoding.specs.Decoding.{decode_of}
use Rattle.writes.specs.Elements.{InWindow, written, steps_of}
use Rattle.writes.specs.Encoding.{encode, PatchOf}
use Rattle.writes.specs.Sets.{runs, overlay}
use Rattle.window.specs.Window.{window_ok}
use Rattle.writes.proofs.Fillings.{WritesIn, bytes-replicate, same_set}
use Rattle.writes.proofs.Runs.{bytes-encode}
use Rattle.writes.proofs.Statements.{equal_lookups, runs-as-described, run_at_each_start, runs-keep-the-rules, encoding_length}
use Rattle.writes.proofs.Statements.{largest_patch, written_last, laid-as-written, net-effect-in-window}
use Rattle.elements.specs.Machine.{Machine}
use Rattle.verdicts.specs.Verdicts.{elements_for, size_for, patch_of, row, table, decided, done_of, verdict_of, Verdict, done}
use Rattle.verdicts.specs.Statements.{before}
use Rattle.verdicts.specs.declared.Flags.{Flags}
use Rattle.verdicts.specs.declared.Refusal.TheVariants.{NoRoom}
use Rattle.verdicts.proofs.Rows.{done-same, none_done, decides-given, decides-before, before-decides, none-parted, none-joined}
use Rattle.verdicts.proofs.Statements.{table-given-when}
use Rattle.outcomes.specs.Storing.{memory_after, Stored}
use Rattle.patch.specs.Answers.{applied_number}
use Rattle.patch.specs.Applying.{AppliedTo}
use Rattle.patch.proofs.Statements.{read_as_patch, whatever_window, judges_alike, one_encoding, none_shared, one-outcome, applied-inside}
use Rattle.demands.specs.Demand2.{table_for}
use Rattle.demands.specs.Demand3.{DoneOver, Filling, effect_for, patch_for, HasRoom, HandsOut, Leaves, DoneWithRoom, WhateverFilling}
use Rattle.demands.specs.Demand3.{HasAPatch, KeepsBehind, SamePatches, AppliesAsItStores, Demand3}
use Rattle.demands.proofs.Applying.{lays-the-set}
use Rattle.demands.proofs.Effects.{Effect, effect}
use Rattle.demands.proofs.Storing.{store_one, storing-decided, is-done}

-- ---- when a call is done

pub done-with-room : DoneWithRoom
done-with-room f m W mem word buffer v mem' buffer' c =
    let rs = table_for f m W mem word buffer in
    let n = length buffer in
    let k = length (patch_for m word) in
    let q = storing-decided f m W mem word buffer v mem' buffer' c in
    let g = table-given-when f m W (length mem) (decode_of word) n in
    let q₈ = q.0 8 (λ e. omega (arith, e)) in (
      (
        (λ e. let p = none-parted 8 rs (q.1.0 e) in (p.0, ltb-false n k p.1.0)),
        (λ h. q.1.1 (none-joined 8 rs h.0 (le-ltb n k h.1, tt))),
      ),
      (
        (λ e. let d = q₈.0 e in (decides-before 8 rs d, g.no_room.0 (decides-given 8 rs d))),
        (λ h. q₈.1 (before-decides 8 rs h.0 (lt-ltb n k h.1))),
      ),
    )

-- with room in both or in neither, the tests say the same
same_test : (n n₁ k : ℕ) → (k ≤ n) ↔ (k ≤ n₁) → ltb n k ≡ ltb n₁ k
same_test n n₁ k h = go (ltb n k) refl (ltb n₁ k) refl
  where
    go : (t : Bool) → ltb n k ≡ t → (t₁ : Bool) → ltb n₁ k ≡ t₁ → t ≡ t₁
    go true e true e₁ = refl
    go true e false e₁ = absurd (omega (arith, ltb-true n k e, h.1 (ltb-false n₁ k e₁)))
    go false e true e₁ = absurd (omega (arith, ltb-true n₁ k e₁, h.0 (ltb-false n k e)))
    go false e false e₁ = refl

whatever_filling : WhateverFilling
unfolding verdict_of
whatever_filling f m W mem mem₁ word buffer buffer₁ v v₁ mem' mem₁' buffer' buffer₁' c c₁ l h =
    let d = decode_of word in
    let k = length (patch_for m word) in
    let rest : Bool → Verdict =
    λ t. decided (before 8 (table f m W (length mem) d 0) ++ (row 8 t NoRoom ∷ [])) (done_of (elements_for m d) (size_for d)) in
    c.answer
    ∙ ap rest (same_test (length buffer) (length buffer₁) k h)
    ∙ ap (λ (L : ℕ). verdict_of f m W L word (length buffer₁)) l
    ∙ sym c₁.answer

-- ---- what is handed out

stored-length : (f : Flags) (m : Machine) (W : ℕ) (mem : List ℕ) (word : ℕ) (buffer : List ℕ) (n b k t : ℕ) (mem' buffer' : List ℕ)
    → Stored f m W mem word buffer (done n b k t) mem' buffer' → k ≡ length (patch_for m word)
stored-length f m W mem word buffer n b k t mem' buffer' c =
    let q = (is-done f m W mem word buffer (done n b k t) mem' buffer' c refl).answer in
    (done-same q).2

keeps_behind : KeepsBehind
keeps_behind f m W mem word buffer n b k t mem' buffer' c =
    let q = stored-length f m W mem word buffer n b k t mem' buffer' c in
    ap (drop k) c.patch
    ∙ drop_at (patch_for m word) (drop (length (patch_for m word)) buffer) k (sym q)
    ∙ ap (λ (j : ℕ). drop j buffer) (sym q)

-- the patch
pub hands : (f : Flags) (m : Machine) (W : ℕ) (mem : List ℕ) (word : ℕ) (buffer s : List ℕ) → HandsOut f m W mem word buffer s
    → s ≡ patch_for m word
hands f m W mem word buffer s h =
    let q = stored-length f m W mem word buffer h.elements h.bytes h.size h.steps h.memory h.after h.stored in
    h.string
    ∙ ap (take h.size) h.stored.patch
    ∙ take_at (patch_for m word) (drop (length (patch_for m word)) buffer) h.size (sym q)

-- ---- a done store's calls

pub filled : (L b : ℕ) → b < 256 → Filling L (replicate L b)
filled L b h = record { long = length-replicate L b; bytes = bytes-replicate L b h }

module _ (f : Flags) (m : Machine) (W L word : ℕ) (d : DoneOver f m W L word) where
  comes-with : Effect m W L word
  comes-with = effect f m W L word d

  writes-in : WritesIn W L (effect_for m word)
  writes-in x b q = net-effect-in-window W L (elements_for m (decode_of word)) comes-with.inside x b q

  -- its patch is that of its net effect
  patch-of : PatchOf (effect_for m word) (patch_for m word)
  unfolding patch_of
  patch-of = record { within = comes-with.within; bytes = refl }

  module _ (mem : List ℕ) (g : Filling L mem) where
    -- with room the answer is done
    answers : (buffer : List ℕ) → HasRoom m word buffer
        → verdict_of f m W (length mem) word (length buffer) ≡ done_of (elements_for m (decode_of word)) (size_for (decode_of word))
    unfolding verdict_of
    answers buffer room =
        ap (λ (n : ℕ). verdict_of f m W n word (length buffer)) g.long
        ∙ none_done (table f m W L (decode_of word) (length buffer)) _
        (none-joined 8 (table f m W L (decode_of word) (length buffer)) d.none_due
        (le-ltb (length buffer) (length (patch_for m word)) room, tt))

    -- a call leaves the net effect laid over the filling
    leaves : (mem' : List ℕ) → Leaves f m W mem word mem' → mem' ≡ overlay W mem (effect_for m word)
    leaves mem' l =
        let es = elements_for m (decode_of word) in
        l.stored.memory
        ∙ ap (λ (y : Verdict). memory_after y W mem es) (l.stored.answer ∙ answers l.buffer l.room)
        ∙ sym (laid-as-written W mem es (subst (λ (n : ℕ). InWindow W n es) (sym g.long) comes-with.inside))

    handed : (buffer : List ℕ) → HasRoom m word buffer → HandsOut f m W mem word buffer (patch_for m word)
    handed buffer room =
        let es = elements_for m (decode_of word) in
        let p = patch_for m word in
        record {
          elements = length es;
          bytes = length es * size_for (decode_of word);
          size = length p;
          steps = steps_of es;
          memory = written W mem es;
          after = p ++ drop (length p) buffer;
          stored = record { answer = sym (answers buffer room); memory = refl; patch = refl };
          string = sym (take_at p (drop (length p) buffer) (length p) refl);
        }

    -- there is such a call
    left : Leaves f m W mem word (overlay W mem (effect_for m word))
    left =
        let p = patch_for m word in
        let o = store_one f m W mem word p in
        let l : Leaves f m W mem word o.memory =
        record { buffer = p; room = omega arith; verdict = o.answer; after = o.buffer; stored = o.meets } in
        subst (Leaves f m W mem word) (leaves o.memory l) l

-- ---- the sentences

has_a_patch : HasAPatch
unfolding patch_of
has_a_patch f m W L word d =
    let e = comes-with f m W L word d in (
      patch_for m word,
      bytes-encode (effect_for m word) e.within.set,
      patch-of f m W L word d,
      e.short,
      (λ mem buffer g room. handed f m W L word d mem g buffer room),
      (λ mem buffer t g h. hands f m W mem word buffer t h),
    )

same-patches : SamePatches
unfolding patch_of
same-patches W L f f₁ m m₁ word word₁ d d₁ mem mem₁ buffer buffer₁ s s₁ g g₁ h h₁ =
    let q = hands f m W mem word buffer s h in
    let q₁ = hands f₁ m₁ W mem₁ word₁ buffer₁ s₁ h₁ in
    let S = effect_for m word in
    let S₁ = effect_for m₁ word₁ in (
      (λ e x i x' x₁' l l₁.
          let n : S ≡ S₁ =
          none_shared S S₁ (patch_for m word) (patch-of f m W L word d)
          (subst (PatchOf S₁) (sym q₁ ∙ sym e ∙ q) (patch-of f₁ m₁ W L word₁ d₁)) in
          leaves f m W L word d x i x' l ∙ ap (overlay W x) n ∙ sym (leaves f₁ m₁ W L word₁ d₁ x i x₁' l₁)),
      (λ same.
          let laid : (b : ℕ) → b < 256 → overlay W (replicate L b) S ≡ overlay W (replicate L b) S₁ =
          λ b l.
          let x = replicate L b in
          let i = filled L b l in
          same x i (overlay W x S) (overlay W x S₁) (left f m W L word d x i) (left f₁ m₁ W L word₁ d₁ x i) in
          q
          ∙ ap encode
          (same_set W L S S₁ (comes-with f m W L word d).within.set (comes-with f₁ m₁ W L word₁ d₁).within.set
          (writes-in f m W L word d) (writes-in f₁ m₁ W L word₁ d₁) (laid 0 (omega arith)) (laid 1 (omega arith)))
          ∙ sym q₁),
    )

applies-as-it-stores : AppliesAsItStores
unfolding patch_of
applies-as-it-stores f m W L word d mem buffer s g h x x' i l r x'' a =
    let S = effect_for m word in
    let e = comes-with f m W L word d in
    let p : AppliedTo W x (encode S) (Ok (record { runs = length (runs S); bytes = length S })) (overlay W x S) =
    applied-inside W x S (subst (λ (n : ℕ). window_ok W n ≡ true) (sym i.long) e.window) e.within
    (λ y b k. subst (λ (n : ℕ). (W ≤ y) × (y < W + n)) (sym i.long) (writes-in f m W L word d y b k)) in
    let b : AppliedTo W x (encode S) r x'' = subst (λ (t : List ℕ). AppliedTo W x t r x'') (hands f m W mem word buffer s h) a in
    let o = one-outcome W x (encode S) (bytes-encode S e.within.set) in
    let u = o.3 r x'' b in
    let v = o.3 (Ok (record { runs = length (runs S); bytes = length S })) (overlay W x S) p in
    (ap applied_number (u.0 ∙ sym v.0), u.1 ∙ sym v.1 ∙ sym (leaves f m W L word d x i x' l))

pub demand3 : Demand3
demand3 =
    record {
      stores = done-with-room;
      whatever_filling = whatever_filling;
      has_a_patch = has_a_patch;
      keeps_behind = keeps_behind;
      written_last = written_last;
      runs_described = runs-as-described;
      run_at_each_start = run_at_each_start;
      runs_sorted = runs-keep-the-rules;
      same = same-patches;
      applies = applies-as-it-stores;
      lays = lays-the-set;
      read_as_patch = read_as_patch;
      whatever_window = whatever_window;
      judges_alike = judges_alike;
      equal_lookups = equal_lookups;
      encoding_length = encoding_length;
      largest_patch = largest_patch;
      one_encoding = one_encoding;
      none_shared = none_shared;
    }
