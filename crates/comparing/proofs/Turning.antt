-- Which bytes come next, and a turn of the walk over both sides: the part's entries come first, then those of what is left. Assumes
-- nothing.
use mathlib.Core.Path.{◌≡◌, refl, sym, ap, ap₂, ◌∙◌, subst}
use Prim.Native.Nat.{ℕ, ◌+◌, ◌-◌, ◌*◌, ◌^◌, ◌≤◌, ◌<◌}
use mathlib.Core.List.{List, [], ◌∷◌, ◌++◌}
use native.Mathlib.Omega.{arith}
use native.Mathlib.Nat.{zero-add}
use lib.ListN.{length, take, drop, length-append}
use Rattle.endian.specs.LittleEndian.{Bytes}
use Rattle.endian.proofs.LittleEndian.{bytes_take, bytes_drop}
use Rattle.endian.proofs.Parts.{length_part}
use Rattle.endian.proofs.Order.{two}
use Rattle.writes.specs.Sets.{ByteWrite, writes_at, writes_of}
use Rattle.writes.specs.Sizes.{max_bytes}
use Rattle.writes.specs.Encoding.{PatchOf}
use Rattle.writes.proofs.Runs.{bytes-encode}
use Rattle.reading.specs.Stops.{runs_in}
use Rattle.reading.proofs.Loops.{rest}
use Rattle.patch.specs.Placing.{set_of}
use Rattle.patch.proofs.Patches.{patch-set}
use Rattle.comparing.specs.Merging.{differences, zipped, put, left_of, Fit, Started, Skipped, Cut, firsts, others, both}
use Rattle.comparing.specs.Merging.{Patches, Parts, Room}
use Rattle.comparing.specs.declared.fronts.Front.{Front}
use Rattle.comparing.specs.declared.fronts.Stretch.{Stretch}
use Rattle.comparing.proofs.Merged.{From, first_part, second-part, both-part, merged, merged-length}
use Rattle.comparing.proofs.Zipping.{put-append, length-put}
use Rattle.comparing.proofs.Standing.{length-writes_at}

-- ---- which bytes come next

module _ (f g : Front) where
  pub cut-first : g.left ≡ 0 → Cut f g (record { address = f.address; len = f.left; one = f.left; two = 0 })
  cut-first h = firsts refl refl refl (omega arith) (λ e. omega arith) (λ k. absurd (omega arith))

  pub cut-second : (g.left ≡ 0 → ⊥) → f.left ≡ 0 → Cut f g (record { address = g.address; len = g.left; one = 0; two = g.left })
  cut-second n h =
      let z : 1 ≤ g.left = two g.left 1 (λ l. absurd (n (omega arith))) (λ l. l) in
      others refl refl refl (omega arith) z (λ k. absurd (omega arith))

  pub cut_below : (k : ℕ) → (f.left ≡ 0 → ⊥) → f.address < g.address → k ≡ f.left - (f.left - (g.address - f.address))
      → Cut f g (record { address = f.address; len = k; one = k; two = 0 })
  cut_below k n l e =
      let z : 1 ≤ f.left = two f.left 1 (λ l. absurd (n (omega arith))) (λ l. l) in
      firsts refl refl refl (omega arith) (λ y. absurd (omega arith)) (λ y. omega arith)

  pub cut-above : (k : ℕ) → (g.left ≡ 0 → ⊥) → g.address < f.address → k ≡ g.left - (g.left - (f.address - g.address))
      → Cut f g (record { address = g.address; len = k; one = 0; two = k })
  cut-above k n l e =
      let z : 1 ≤ g.left = two g.left 1 (λ l. absurd (n (omega arith))) (λ l. l) in
      others refl refl refl (omega arith) (omega arith) (λ y. omega arith)

  pub cut-both : (k : ℕ) → (f.left ≡ 0 → ⊥) → (g.left ≡ 0 → ⊥) → g.address ≤ f.address → f.address ≤ g.address
      → k ≡ f.left - (f.left - g.left) → Cut f g (record { address = f.address; len = k; one = k; two = k })
  cut-both k n m l l' e =
      let y : 1 ≤ f.left = two f.left 1 (λ l. absurd (n (omega arith))) (λ l. l) in
      let z : 1 ≤ g.left = two g.left 1 (λ l. absurd (m (omega arith))) (λ l. l) in
      both refl (omega arith) refl refl (omega arith) (omega arith) (omega arith)

-- ---- what is left of a side

-- nothing, or from its address on
starts : (s : List ℕ) (f : Front) (x : ℕ) → Fit s f → (1 ≤ f.left → x ≤ f.address) → From x (left_of s f)
unfolding left_of writes_at writes_of
starts s f x h g = go (take f.left (drop f.at s)) (length_part s f.at f.left h.stands)
  where
    go : (p : List ℕ) → length p ≡ f.left → From x (writes_at f.address p ++ writes_of (runs_in (rest s f.cursor)))
    go [] e =
        subst (λ (z : List ByteWrite). From x z) (sym (ap writes_of (h.last (sym e)))) tt
    go (b ∷ p) e = g (omega (arith, e))

empty : (s : List ℕ) (f : Front) → Fit s f → f.left ≡ 0 → left_of s f ≡ []
unfolding left_of writes_at writes_of
empty s f h e =
    ap (λ (n : ℕ). writes_at f.address (take n (drop f.at s)) ++ writes_of (runs_in (rest s f.cursor))) e
    ∙ ap writes_of (h.last e)

skipped-length : (s : List ℕ) (f : Front) (k : ℕ) (r : Front) → Fit s f → k ≤ f.left → Skipped s f k r
    → length (left_of s f) ≡ k + length (left_of s r)
skipped-length s f k r h l e =
    let p = take k (drop f.at s) in
    omega (
      arith,
      ap length e.same,
      length-append (writes_at f.address p) (left_of s r),
      length-writes_at f.address p,
      length_part s f.at k (omega (arith, h.stands)),
    )

-- ---- a turn

module _ (s t : List ℕ) (f g : Front) (r : Stretch) (c : Cut f g r) (hf : Fit s f) (hg : Fit t g) where
  abbrev pub part_one : List ℕ
  part_one = take r.one (drop f.at s)

  abbrev pub part_two : List ℕ
  part_two = take r.two (drop g.at t)

  pub most-one : r.one ≤ f.left
  most-one = go c
    where
      go : Cut f g r → r.one ≤ f.left
      go (firsts a b d l e k) = omega arith
      go (others a b d l e k) = omega arith
      go (both a b d e l m k) = omega arith

  pub most-two : r.two ≤ g.left
  most-two = go c
    where
      go : Cut f g r → r.two ≤ g.left
      go (firsts a b d l e k) = omega arith
      go (others a b d l e k) = omega arith
      go (both a b d e l m k) = omega arith

  at_most : (r.one ≤ r.len) × (r.two ≤ r.len)
  at_most = go c
    where
      go : Cut f g r → (r.one ≤ r.len) × (r.two ≤ r.len)
      go (firsts a b d l e k) = (omega arith, omega arith)
      go (others a b d l e k) = (omega arith, omega arith)
      go (both a b d e l m k) = (omega arith, omega arith)

  pub some_one : (r.len ≡ 0 → ⊥) → 1 ≤ r.one + r.two
  some_one n = go c
    where
      z : 1 ≤ r.len
      z = two r.len 1 (λ l. absurd (n (omega arith))) (λ l. l)

      go : Cut f g r → 1 ≤ r.one + r.two
      go (firsts a b d l e k) = omega (arith, z)
      go (others a b d l e k) = omega (arith, z)
      go (both a b d e l m k) = omega (arith, z)

  pub top_of : r.address + r.len ≤ 2 ^ 64
  top_of = go c
    where
      go : Cut f g r → r.address + r.len ≤ 2 ^ 64
      go (firsts a b d l e k) = omega (arith, hf.top)
      go (others a b d l e k) = omega (arith, hg.top)
      go (both a b d e l m k) = omega (arith, hf.top)

  length-one : length part_one ≡ r.one
  length-one = length_part s f.at r.one (omega (arith, hf.stands, most-one))

  length_two : length part_two ≡ r.two
  length_two = length_part t g.at r.two (omega (arith, hg.stands, most-two))

  pub parts-of : Bytes s → Bytes t → Parts part_one part_two r.len
  parts-of bs bt = record {
    first = bytes_take r.one (drop f.at s) (bytes_drop f.at s bs);
    second = bytes_take r.two (drop g.at t) (bytes_drop g.at t bt);
    first_most = omega (arith, length-one, at_most);
    second_most = omega (arith, length_two, at_most);
  }

  nothing : r.len ≡ 0 → (f.left ≡ 0) × (g.left ≡ 0)
  nothing n = go c
    where
      go : Cut f g r → (f.left ≡ 0) × (g.left ≡ 0)
      go (firsts a b d l e k) = (omega (arith, e n), omega (arith, e n))
      go (others a b d l e k) = absurd (omega arith)
      go (both a b d e l m k) = absurd (omega arith)

  pub none_differ : r.len ≡ 0 → differences (left_of s f) (left_of t g) ≡ []
  unfolding differences
  none_differ n =
      ap₂ differences (empty s f hf (nothing n).0) (empty t g hg (nothing n).1)

  module _ (f' g' : Front) (sf : Skipped s f r.one f') (sg : Skipped t g r.two g') where
    pub turned : differences (left_of s f) (left_of t g)
        ≡ zipped r.address part_one part_two ++ differences (left_of s f') (left_of t g')
    unfolding writes_at
    turned = go c
      where
        none_of : (n : ℕ) (l : List ℕ) → n ≡ 0 → take n l ≡ []
        none_of n l e = ap (λ (k : ℕ). take k l) e

        go : Cut f g r
            → differences (left_of s f) (left_of t g)
            ≡ zipped r.address part_one part_two ++ differences (left_of s f') (left_of t g')
        go (firsts a b d l e k) =
            let q : part_two ≡ [] = none_of r.two (drop g.at t) d in
            let et : left_of t g ≡ left_of t g' = sg.same ∙ ap (λ (z : List ℕ). writes_at g.address z ++ left_of t g') q in
            let w : From (f.address + length part_one) (left_of t g) =
            starts t g (f.address + length part_one) hg (λ y. omega (arith, k y, length-one)) in
            ap (λ (z : List ByteWrite). differences z (left_of t g)) sf.same
            ∙ first_part f.address part_one (left_of s f') (left_of t g) w
            ∙ ap (λ (z : List ByteWrite). zipped f.address part_one [] ++ differences (left_of s f') z) et
            ∙ ap₂ (λ (z : ℕ) (y : List ℕ). zipped z part_one y ++ differences (left_of s f') (left_of t g')) (sym a) (sym q)
        go (others a b d l e k) =
            let q : part_one ≡ [] = none_of r.one (drop f.at s) b in
            let es : left_of s f ≡ left_of s f' = sf.same ∙ ap (λ (z : List ℕ). writes_at f.address z ++ left_of s f') q in
            let w : From (g.address + length part_two) (left_of s f) =
            starts s f (g.address + length part_two) hf (λ y. omega (arith, k y, length_two)) in
            ap (differences (left_of s f)) sg.same
            ∙ second-part g.address part_two (left_of s f) (left_of t g') w
            ∙ ap (λ (z : List ByteWrite). zipped g.address [] part_two ++ differences z (left_of t g')) es
            ∙ ap₂ (λ (z : ℕ) (y : List ℕ). zipped z y part_two ++ differences (left_of s f') (left_of t g')) (sym a) (sym q)
        go (both a b d e l m k) =
            ap₂ differences sf.same
            (sg.same ∙ ap (λ (z : ℕ). writes_at z part_two ++ left_of t g') (sym b))
            ∙ both-part f.address part_one part_two (left_of s f') (left_of t g') (omega (arith, length-one, length_two))
            ∙ ap (λ (z : ℕ). zipped z part_one part_two ++ differences (left_of s f') (left_of t g')) (sym a)

    pub fewer : (r.len ≡ 0 → ⊥) → length (left_of s f') + length (left_of t g') < length (left_of s f) + length (left_of t g)
    fewer n =
        omega (arith, some_one n, skipped-length s f r.one f' hf most-one sf, skipped-length t g r.two g' hg most-two sg)

-- ---- all entries counted

pub record Counted (s t : List ℕ) (f g : Front) (n : ℕ) : Type 0 where
  pub fit-one : Fit s f
  pub fit-two : Fit t g
  pub bytes_one : Bytes s
  pub bytes-two : Bytes t
  pub small : length (differences (set_of s) (set_of t)) ≤ max_bytes + max_bytes
  pub same : n + length (differences (left_of s f) (left_of t g)) ≡ length (differences (set_of s) (set_of t))

pub patch-bytes : (S : List ByteWrite) (s : List ℕ) → PatchOf S s → Bytes s
patch-bytes S s h = subst Bytes (sym h.bytes) (bytes-encode S h.within.set)

pub small_of : (s t : List ℕ) → Patches s t → length (differences (set_of s) (set_of t)) ≤ max_bytes + max_bytes
small_of s t h =
    let S = h.one in
    let T = h.two in
    omega (
      arith,
      merged-length (merged (set_of s) (set_of t)),
      ap length (patch-set S s h.first),
      ap length (patch-set T t h.second),
      h.first.within.small,
      h.second.within.small,
    )

pub counted-first : (s t : List ℕ) (f g : Front) → Patches s t → Started s f → Started t g → Counted s t f g 0
counted-first s t f g h a b = record {
  fit-one = a.fit;
  fit-two = b.fit;
  bytes_one = patch-bytes h.one s h.first;
  bytes-two = patch-bytes h.two t h.second;
  small = small_of s t h;
  same = zero-add (length (differences (left_of s f) (left_of t g)))
      ∙ ap₂ (λ (x y : List ByteWrite). length (differences x y)) a.same b.same;
}

module _ (s t : List ℕ) (f g : Front) (n : ℕ) (r : Stretch) (c : Cut f g r) (k : Counted s t f g n) where
  pub counted-last : r.len ≡ 0 → n ≡ length (differences (set_of s) (set_of t))
  counted-last e = omega (arith, k.same, ap length (none_differ s t f g r c k.fit-one k.fit-two e))

  -- the parts that the readers hand out, and both sides behind them
  module _ (p q : List ℕ) (ep : p ≡ take r.one (drop f.at s)) (eq : q ≡ take r.two (drop g.at t)) where
    pub counted-parts : Parts p q r.len
    counted-parts =
        subst (λ (z : List ℕ). Parts z q r.len) (sym ep)
        (subst (λ (z : List ℕ). Parts (take r.one (drop f.at s)) z r.len) (sym eq)
        (parts-of s t f g r c k.fit-one k.fit-two k.bytes_one k.bytes-two))

    module _ (f' g' : Front) (sf : Skipped s f r.one f') (sg : Skipped t g r.two g') where
      pub split : differences (left_of s f) (left_of t g) ≡ zipped r.address p q ++ differences (left_of s f') (left_of t g')
      split =
          turned s t f g r c k.fit-one k.fit-two f' g' sf sg
          ∙ ap₂ (λ (x y : List ℕ). zipped r.address x y ++ differences (left_of s f') (left_of t g')) (sym ep) (sym eq)

      pub counted_next : (d : ℕ) → d ≡ length (zipped r.address p q) → Counted s t f' g' (n + d)
      counted_next d e = record {
        fit-one = sf.fit;
        fit-two = sg.fit;
        bytes_one = k.bytes_one;
        bytes-two = k.bytes-two;
        small = k.small;
        same = omega (
          arith,
          k.same,
          ap length split,
          length-append (zipped r.address p q) (differences (left_of s f') (left_of t g')),
        );
      }

-- ---- all entries listed

pub record Listed (l₀ s t l : List ℕ) (f g : Front) (at : ℕ) : Type 0 where
  pub n : ℕ
  pub index : at ≡ 3 * n
  pub counted : Counted s t f g n
  pub long : length l ≡ length l₀
  pub room : 3 * length (differences (set_of s) (set_of t)) ≤ length l₀
  pub same : put at l (differences (left_of s f) (left_of t g)) ≡ put 0 l₀ (differences (set_of s) (set_of t))

pub listed-first : (l s t : List ℕ) (f g : Front) → Patches s t → 3 * length (differences (set_of s) (set_of t)) ≤ length l → Started s f
    → Started t g → Listed l s t l f g 0
listed-first l s t f g h m a b = record {
  n = 0;
  index = refl;
  counted = counted-first s t f g h a b;
  long = refl;
  room = m;
  same = ap₂ (λ (x y : List ByteWrite). put 0 l (differences x y)) a.same b.same;
}

module _ (l₀ s t l : List ℕ) (f g : Front) (at : ℕ) (r : Stretch) (c : Cut f g r) (k : Listed l₀ s t l f g at) where
  pub listed-last : r.len ≡ 0
      → (at ≡ 3 * length (differences (set_of s) (set_of t))) × (l ≡ put 0 l₀ (differences (set_of s) (set_of t)))
  unfolding put
  listed-last e =
      let h = k.counted in (
        omega (arith, k.index, counted-last s t f g k.n r c h e),
        ap (put at l) (sym (none_differ s t f g r c h.fit-one h.fit-two e)) ∙ k.same,
      )

  module _ (p q : List ℕ) (ep : p ≡ take r.one (drop f.at s)) (eq : q ≡ take r.two (drop g.at t))
      (f' g' : Front) (sf : Skipped s f r.one f') (sg : Skipped t g r.two g') where
    pub listed-room : Room l at r.address p q r.len
    listed-room =
        let h = k.counted in
        let d = length (zipped r.address p q) in
        let next = counted_next s t f g k.n r c h p q ep eq f' g' sf sg d refl in
        record {
          parts = counted-parts s t f g k.n r c h p q ep eq;
          top = top_of s t f g r c h.fit-one h.fit-two;
          room = omega (arith, k.index, k.room, k.long, next.same);
        }

    pub listed_next : (l' : List ℕ) (at' : ℕ) → l' ≡ put at l (zipped r.address p q) → at' ≡ at + 3 * length (zipped r.address p q)
        → Listed l₀ s t l' f' g' at'
    listed_next l' at' el ea =
        let h = k.counted in
        let z = zipped r.address p q in
        let D = differences (left_of s f') (left_of t g') in
        record {
          n = k.n + length z;
          index = omega (arith, k.index, ea);
          counted = counted_next s t f g k.n r c h p q ep eq f' g' sf sg (length z) refl;
          long = ap length el ∙ length-put at l z ∙ k.long;
          room = k.room;
          same =
              ap₂ (λ (x : ℕ) (y : List ℕ). put x y D) ea el
              ∙ sym (put-append at l z D)
              ∙ ap (put at l) (sym (split s t f g k.n r c h p q ep eq f' g' sf sg))
              ∙ k.same;
        }
