-- `write_keys`: keys written in turn. Assumes nothing.
use mathlib.Core.Path.{◌≡◌, refl, sym, ap, ap₂, ◌∙◌, subst}
use Prim.Native.Nat.{ℕ, suc, ◌+◌, ◌-◌, ◌*◌, ◌≤◌, ◌<◌}
use mathlib.Core.List.{List, [], ◌∷◌}
use native.Mathlib.Omega.{arith}
use lib.ListN.{length, drop, get_or}
use lib.Seq.{drop-cons}
use Rattle.std.proofs.lemmas.List.{drop_all}
use native.Mathlib.Numerals.{add-one}
use Rattle.writes.specs.Elements.{Element, written}
use Rattle.endian.specs.Overwriting.{overwritten}
use Rattle.endian.proofs.Parts.{length_over}
use Rattle.ordering.specs.Keys.{number_of, Each}
use Rattle.stretches.specs.Stretches.{start_of, Seen, key_of, keys_of}
use Rattle.stretches.proofs.Keying.{key-start, key-number}
use Rattle.cutting.specs.Cutting.{part}
use Rattle.cutting.proofs.Copying.{length-of-part}
use Rattle.writing.specs.Writing.{put_all, Placed, Held}

-- the keys from t on are left
pub record Writing (K : List ℕ) (step size : ℕ) (stored mem₀ mem : List ℕ) (t : ℕ) : Type 0 where
  pub most : t ≤ length K
  pub long : length mem ≡ length mem₀
  pub placed : Each (λ k. Placed step size (length mem₀) (length stored) k) (drop t K)
  pub same : put_all step size stored (drop t K) mem ≡ put_all step size stored K mem₀

module _ (K : List ℕ) (step size : ℕ) (stored mem₀ : List ℕ) where
  pub writing-first : Each (λ k. Placed step size (length mem₀) (length stored) k) K → Writing K step size stored mem₀ mem₀ 0
  writing-first p = record { most = omega arith; long = refl; placed = p; same = refl }

  module _ (mem : List ℕ) (t : ℕ) (w : Writing K step size stored mem₀ mem t) where
    module _ (h : t < length K) where
      left : drop t K ≡ get_or K t 0 ∷ drop (t + 1) K
      left = rw (add-one, drop-cons K t 0 h)

      here : Each (λ k. Placed step size (length mem₀) (length stored) k) (get_or K t 0 ∷ drop (t + 1) K)
      here = subst (Each (λ k. Placed step size (length mem₀) (length stored) k)) left w.placed

      -- s, e: the key's offset and number, as the code has them
      pub writing-room : (s e : ℕ) → s ≡ start_of (get_or K t 0) → e ≡ number_of (get_or K t 0)
          → (s + size ≤ length mem) × (e * step + size ≤ length stored)
      writing-room s e es ee =
          (omega (arith, here.0.0, w.long), subst (λ (z : ℕ). z * step + size ≤ length stored) (sym ee) here.0.1)

      pub writing-next : (s e : ℕ) (mem' : List ℕ) → s ≡ start_of (get_or K t 0) → e ≡ number_of (get_or K t 0)
          → mem' ≡ overwritten mem s (part stored (e * step) size) → Writing K step size stored mem₀ mem' (t + 1)
      unfolding put_all
      writing-next s e mem' es ee q =
          let r = writing-room s e es ee in
          record {
            most = omega arith;
            long = ap length q ∙ length_over mem s (part stored (e * step) size)
                (omega (arith, r.0, length-of-part stored (e * step) size r.1)) ∙ w.long;
            placed = here.1;
            same = ap (put_all step size stored (drop (t + 1) K))
                (q ∙ ap₂ (λ (y z : ℕ). overwritten mem y (part stored (z * step) size)) es ee)
                ∙ ap (λ (L : List ℕ). put_all step size stored L mem) (sym left)
                ∙ w.same;
          }

    pub writing-done : length K ≤ t → mem ≡ put_all step size stored K mem₀
    unfolding put_all
    writing-done h = ap (λ (L : List ℕ). put_all step size stored L mem) (sym (drop_all t K h)) ∙ w.same

-- ---- the keys of elements

module _ (W L step size : ℕ) (stored : List ℕ) (o : 1 ≤ size) (i : size ≤ 256) where
  pub keys-placed : (f : ℕ) (es : List Element) → Seen W L size f es → Held step size stored es
      → Each (λ k. Placed step size L (length stored) k) (keys_of W size es)
  unfolding keys_of
  keys-placed f [] s h = tt
  keys-placed f (x ∷ xs) s h =
      let s2 : W ≤ x.address = s.2 in
      let s3 : x.address + size ≤ W + L = s.3 in
      let a = key-start (x.address - W) size x.number o i s.1 in
      let b = key-number (x.address - W) size x.number o i s.1 in (
        (omega arith, subst (λ (z : ℕ). z * step + size ≤ length stored) (sym b) h.1),
        keys-placed (suc x.number) xs s.5 h.2,
      )

  pub keys-written : (f : ℕ) (mem : List ℕ) (es : List Element) → Seen W L size f es → Held step size stored es
      → put_all step size stored (keys_of W size es) mem ≡ written W mem es
  unfolding keys_of put_all written
  keys-written f mem [] s h = refl
  keys-written f mem (x ∷ xs) s h =
      let k : ℕ = key_of (x.address - W) size x.number in
      let a = key-start (x.address - W) size x.number o i s.1 in
      let b = key-number (x.address - W) size x.number o i s.1 in
      ap (put_all step size stored (keys_of W size xs))
      (ap₂ (λ (y z : ℕ). overwritten mem y (part stored (z * step) size)) a b ∙ ap (overwritten mem (x.address - W)) (sym h.0))
      ∙ keys-written (suc x.number) (overwritten mem (x.address - W) x.bytes) xs s.5 h.2
