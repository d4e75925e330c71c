-- The stretches of elements: in ascending order they cover what the elements write, and no other address. Assumes nothing.
use mathlib.Core.Path.{◌≡◌, refl, sym, ap, ap₂, ◌∙◌, subst}
use Prim.Native.Nat.{ℕ, suc, ◌+◌, ◌-◌, ◌*◌, ◌≤◌, ◌<◌}
use mathlib.Core.Bool.{Bool, true, false, cond}
use mathlib.Core.List.{List, [], ◌∷◌}
use native.Mathlib.Omega.{arith}
use mathlib.Core.Option.{some}
use lib.Dec.{eqb}
use lib.ListN.{length}
use borrow.Author.Tests.{eq-eqb, ne_eqb, eqb-true, eqb-false}
use Rattle.writes.specs.Sets.{ByteWrite, lookup}
use Rattle.writes.specs.Elements.{Element, splice, splice_all, net_effect, steps_from, steps_of}
use Rattle.writes.proofs.Net.{lookup-splice}
use Rattle.ordering.specs.Keys.{number_of, sorted, Each}
use Rattle.stretches.proofs.Covering.{among, or, or_swap, or_assoc, covered, is_some, some-writes_at, some_or}
use Rattle.stretches.specs.Stretches.{start_of, bytes_of, end_of, Seen, key_of, keys_of, joined_from, joined, merged, sum, Rising}
use Rattle.stretches.proofs.Merging as merging
use Rattle.stretches.proofs.Joined.{sum-joined, inside-joined, some-joined, some-sorted, sum-sorted, rising-sorted}

-- ---- the digits of a key

module _ (p size e : ℕ) (o : 1 ≤ size) (h : size ≤ 256) (l : e < 256) where
  pub key-start : start_of (key_of p size e) ≡ p
  key-start = omega arith

  pub key-bytes : bytes_of (key_of p size e) ≡ size
  key-bytes = omega arith

  pub key-number : number_of (key_of p size e) ≡ e
  key-number = omega arith

or-false : (t : Bool) → or t false ≡ t
or-false true = refl
or-false false = refl

module _ (W L size : ℕ) (o : 1 ≤ size) (w : size ≤ 256) where
  pub keys-sized : (f : ℕ) (es : List Element) → Seen W L size f es → Each (λ k. bytes_of k ≡ size) (keys_of W size es)
  unfolding keys_of
  keys-sized f [] s = tt
  keys-sized f (x ∷ xs) s = (key-bytes (x.address - W) size x.number o w s.1, keys-sized (suc x.number) xs s.5)

  keys-inside : (f : ℕ) (es : List Element) → Seen W L size f es → Each (λ k. end_of k ≤ L) (keys_of W size es)
  unfolding keys_of
  keys-inside f [] s = tt
  keys-inside f (x ∷ xs) s =
      let s2 : W ≤ x.address = s.2 in
      let s3 : x.address + size ≤ W + L = s.3 in
      let a = key-start (x.address - W) size x.number o w s.1 in
      let b = key-bytes (x.address - W) size x.number o w s.1 in
      (omega arith, keys-inside (suc x.number) xs s.5)

  pub length-keys : (es : List Element) → length (keys_of W size es) ≡ length es
  unfolding keys_of
  length-keys [] = refl
  length-keys (x ∷ xs) = ap suc (length-keys xs)

  -- a key starts where the one before ends exactly where its element does
  meets : (a b p e : ℕ) → p < 256 → e < 256 → W ≤ a → W ≤ b
      → eqb (start_of (key_of (a - W) size p) + size) (start_of (key_of (b - W) size e)) ≡ eqb (a + size) b
  meets a b p e hp he ha hb =
      ap₂ (λ (x y : ℕ). eqb (x + size) y) (key-start (a - W) size p o w hp) (key-start (b - W) size e o w he) ∙ shifted
    where
      shifted : eqb (a - W + size) (b - W) ≡ eqb (a + size) b
      shifted = go (eqb (a + size) b) refl
        where
          go : (t : Bool) → eqb (a + size) b ≡ t → eqb (a - W + size) (b - W) ≡ t
          go true q = eq-eqb (a - W + size) (b - W) (omega (arith, eqb-true (a + size) b q))
          go false q = ne_eqb (a - W + size) (b - W) (λ r. eqb-false (a + size) b q (omega arith))

  joined-steps : (f s : ℕ) (x : Element) (xs : List Element) → x.number < 256 → W ≤ x.address → length x.bytes ≡ size
      → Seen W L size f xs
      → length (joined_from size s (key_of (x.address - W) size x.number) (keys_of W size xs))
      ≡ suc (steps_from (some (x.address + length x.bytes)) xs)
  unfolding keys_of joined_from steps_from
  joined-steps f s x [] h l n t = refl
  joined-steps f s x (y ∷ ys) h l n t =
      let k = key_of (x.address - W) size x.number in
      let j = key_of (y.address - W) size y.number in
      let K = keys_of W size ys in
      let b = eqb (x.address + size) y.address in
      let rest = steps_from (some (y.address + length y.bytes)) ys in
      let r : (s' : ℕ) → length (joined_from size s' j K) ≡ suc rest =
      λ s'. joined-steps (suc y.number) s' y ys t.1 t.2 t.4 t.5 in
      ap (λ (c : Bool). length (cond c (joined_from size (s + size * 256) j K) (s ∷ joined_from size j j K)))
      (meets x.address y.address x.number y.number h t.1 l t.2)
      ∙ go b (joined_from size (s + size * 256) j K) (joined_from size j j K) rest (r (s + size * 256)) (r j)
      ∙ ap (λ (z : ℕ). suc (cond (eqb (x.address + z) y.address) 0 1 + rest)) (sym n)
    where
      go : (c : Bool) (A B : List ℕ) (q : ℕ) → length A ≡ suc q → length B ≡ suc q → length (cond c A (s ∷ B)) ≡ suc (cond c 0 1 + q)
      go true A B q e d = omega arith
      go false A B q e d = omega arith

  -- as many stretches as steps
  pub stretches-steps : (es : List Element) → Seen W L size 0 es → length (joined size (keys_of W size es)) ≡ steps_of es
  unfolding keys_of joined steps_from
  stretches-steps [] t = refl
  stretches-steps (x ∷ xs) t =
      let k = key_of (x.address - W) size x.number in
      omega (arith, joined-steps (suc x.number) k x xs t.1 t.2 t.4 t.5)

  keys-covered : (f x : ℕ) (S : List ByteWrite) (es : List Element) → Seen W L size f es
      → or (merging.some W x (keys_of W size es)) (is_some (lookup x S)) ≡ is_some (lookup x (splice_all S es))
  unfolding keys_of merging.some splice_all
  keys-covered f x S [] s = refl
  keys-covered f x S (e ∷ es) s =
      let a : ℕ = e.address in
      let p : List ℕ = e.bytes in
      let k : ℕ = key_of (a - W) size e.number in
      let s2 : W ≤ a = s.2 in
      let v : W + start_of k ≡ a = omega (arith, key-start (a - W) size e.number o w s.1) in
      let u : bytes_of k ≡ length p = key-bytes (a - W) size e.number o w s.1 ∙ sym s.4 in
      let rest : Bool = merging.some W x (keys_of W size es) in
      ap₂ (λ (y n : ℕ). or (or (among y n x) rest) (is_some (lookup x S))) v u
      ∙ or_assoc (among a (length p) x) rest (is_some (lookup x S))
      ∙ or_swap (among a (length p) x) rest (is_some (lookup x S))
      ∙ ap (or rest)
      (ap (λ (b : Bool). or b (is_some (lookup x S))) (sym (some-writes_at x a p))
      ∙ sym (ap is_some (lookup-splice x a p S) ∙ some_or _ (lookup x S)))
      ∙ keys-covered (suc e.number) x (splice a p S) es s.5

  -- ---- all of it

  module _ (es : List Element) (s : Seen W L size 0 es) (few : length es * size ≤ 256) where
    fit : length (keys_of W size es) * size ≤ 256
    fit = subst (λ (z : ℕ). z * size ≤ 256) (sym (length-keys es)) few

    pub stretches-rising : Rising L 0 (sorted (joined size (keys_of W size es)))
    stretches-rising =
        rising-sorted L (joined size (keys_of W size es))
        (inside-joined size L (keys_of W size es) (keys-sized 0 es s) fit (keys-inside 0 es s))

    pub stretches-sum : sum (sorted (joined size (keys_of W size es))) ≡ length es * size
    stretches-sum =
        sum-sorted (joined size (keys_of W size es)) ∙ sum-joined size (keys_of W size es) (keys-sized 0 es s) fit
        ∙ ap (λ (z : ℕ). z * size) (length-keys es)

    pub stretches-cover : (x : ℕ) → covered W x (merged (sorted (joined size (keys_of W size es)))) ≡ is_some (lookup x (net_effect es))
    unfolding lookup
    stretches-cover x =
        merging.covered-merged W L x (sorted (joined size (keys_of W size es))) stretches-rising
        ∙ some-sorted W x (joined size (keys_of W size es)) ∙ some-joined W size x (keys_of W size es) (keys-sized 0 es s) fit
        ∙ sym (or-false (merging.some W x (keys_of W size es))) ∙ keys-covered 0 x [] es s
