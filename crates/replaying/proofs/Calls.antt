-- Demand 3's sentences, from the outcomes of the calls. Assumes nothing.
use Rattle.std.specs.Prelude.{Ok, Err}
use mathlib.Core.Path.{◌≡◌, refl, sym, ap, ◌∙◌, subst}
use mathlib.Core.Bool.{Bool, true, false}
use mathlib.Core.List.{List}
use mathlib.Core.Logic.{◌↔◌}
use Prim.Native.Nat.{ℕ, ◌*◌, ◌≤◌}
use native.Mathlib.Omega.{arith}
use lib.ListN.{length, take, drop, length-append}
use Rattle.encoding.specs.Decoding.{decode_of}
use Rattle.endian.specs.LittleEndian.{Bytes}
use Rattle.endian.proofs.Order.{absurdly}
use Rattle.writes.specs.Elements.{steps_of}
use Rattle.elements.specs.Machine.{Machine}
use Rattle.verdicts.specs.Verdicts.{elements_for, size_for, done_of, number, Verdict}
use Rattle.verdicts.specs.declared.Flags.{Flags}
use Rattle.verdicts.specs.declared.Refusal.{Refusal}
use Rattle.outcomes.specs.Storing.{buffer_after, Stored}
use Rattle.patch.specs.Applying.{AppliedTo}
use Rattle.demands.specs.Demand3.{NoneDue, patch_for, HasRoom, HandsOut}
use Rattle.demands.proofs.Demand3.{demand3}
use Rattle.demands.proofs.Storing.{is-done}
use Rattle.replaying.specs.Calls.{AppliedIf, ThenApplied, length_of, Replayed, Compared}

-- ---- one call

module _ (f : Flags) (m : Machine) (W : ℕ) (mem : List ℕ) (word : ℕ) (buffer : List ℕ) (v : Verdict) (mem' buffer' : List ℕ)
    (c : Stored f m W mem word buffer v mem' buffer') where
  module _ (e : number v ≡ 0) where
    done-as : v ≡ done_of (elements_for m (decode_of word)) (size_for (decode_of word))
    done-as = (is-done f m W mem word buffer v mem' buffer' c e).answer

    length-is : length_of v ≡ length (patch_for m word)
    length-is = ap length_of done-as

    -- the patch's bytes stand in the buffer
    pub in_buffer : length_of v ≤ length buffer'
    in_buffer =
        let p = patch_for m word in
        let q = ap (λ (y : Verdict). buffer_after y p buffer) done-as in
        omega (arith, length-is, ap length (c.patch ∙ q), length-append p (drop (length p) buffer))

    -- and are handed out
    hand : HandsOut f m W mem word buffer (take (length_of v) buffer')
    hand =
        let es = elements_for m (decode_of word) in
        record {
          elements = length es;
          bytes = length es * size_for (decode_of word);
          size = length (patch_for m word);
          steps = steps_of es;
          memory = mem';
          after = buffer';
          stored = subst (λ (y : Verdict). Stored f m W mem word buffer y mem' buffer') done-as c;
          string = ap (λ (n : ℕ). take n buffer') length-is;
        }

  pub not-done : (x : Refusal) → v ≡ Err x → number v ≡ 0 → ⊥
  not-done x q e = let a = done-as e in absurdly cc

  done-store : NoneDue f m W (length mem) word → HasRoom m word buffer → number v ≡ 0
  done-store due room = (demand3.stores f m W mem word buffer v mem' buffer' c).0.1 (due, room)

-- ---- the filling sentence

none-applied : (v : Verdict) (W : ℕ) (buffer target : List ℕ) → (number v ≡ 0 → ⊥) → ThenApplied v W buffer target false target
none-applied (Ok d) W buffer target h = absurd (h refl)
none-applied (Err x) W buffer target h = (refl, refl)

module _ (f : Flags) (m : Machine) (W : ℕ) (mem other target : List ℕ) (word : ℕ) (buffer scratch : List ℕ) (v v₁ : Verdict)
    (mem' other' buffer' scratch' : List ℕ) (c : Stored f m W mem word buffer v mem' buffer')
    (c₁ : Stored f m W other word scratch v₁ other' scratch') where
  pub replayed : Bytes m.z → Bytes mem → Bytes other → number v ≡ 0 → (s : List ℕ) → s ≡ take (length_of v) buffer'
      → (r : Bool) (target' : List ℕ) → AppliedIf W target s r target'
      → Replayed f m W mem other target word buffer scratch r mem' other' target' buffer' scratch'
  replayed bz bm bo k s e r target' a =
      let p = take (length_of v) buffer' in
      let q = done-as f m W mem word buffer v mem' buffer' c k in
      let b : AppliedIf W target p r target' = subst (λ (t : List ℕ). AppliedIf W target t r target') e a in
      record {
        verdict = v;
        verdict₁ = v₁;
        stored = c;
        stored₁ = c₁;
        applied =
            subst (λ (y : Verdict). ThenApplied y W buffer' target r target') (sym q)
            (subst (λ (y : Verdict). AppliedIf W target (take (length_of y) buffer') r target') q b);
        leaves = λ due room room₁ l q.
            let g = hand f m W mem word buffer v mem' buffer' c k in
            let u =
            demand3.applies f m W (length mem) word (record { none_due = due; lent = bz }) mem buffer p
            (record { long = refl; bytes = bm }) g other other' (record { long = l; bytes = bo })
            (record { buffer = scratch; room = room₁; verdict = v₁; after = scratch'; stored = c₁ })
            b.answer target' (subst (λ (t : List ℕ). AppliedTo W t p b.answer target') q b.outcome) in
            (b.done.1 u.0, u.1);
      }

  pub not-replayed : (number v ≡ 0 → ⊥) → Replayed f m W mem other target word buffer scratch false mem' other' target buffer' scratch'
  not-replayed h =
      record {
        verdict = v;
        verdict₁ = v₁;
        stored = c;
        stored₁ = c₁;
        applied = none-applied v W buffer' target h;
        leaves = λ due room room₁ l q. absurd (h (done-store f m W mem word buffer v mem' buffer' c due room));
      }

-- ---- the equality sentence

module _ (W : ℕ) (f : Flags) (m : Machine) (mem : List ℕ) (word : ℕ) (f₁ : Flags) (m₁ : Machine) (mem₁ : List ℕ) (word₁ : ℕ)
    (buffer buffer₁ : List ℕ) (v v₁ : Verdict) (mem' mem₁' buffer' buffer₁' : List ℕ)
    (c : Stored f m W mem word buffer v mem' buffer') (c₁ : Stored f₁ m₁ W mem₁ word₁ buffer₁ v₁ mem₁' buffer₁') where
  pub compared : Bytes m.z → Bytes m₁.z → Bytes mem → Bytes mem₁ → number v ≡ 0 → number v₁ ≡ 0
      → (s s₁ : List ℕ) → s ≡ take (length_of v) buffer' → s₁ ≡ take (length_of v₁) buffer₁' → (r : Bool) → (r ≡ true) ↔ (s ≡ s₁)
      → Compared W f m mem word f₁ m₁ mem₁ word₁ buffer buffer₁ r mem' mem₁' buffer' buffer₁'
  compared bz bz₁ bm bm₁ k k₁ s s₁ e e₁ r t =
      let p = take (length_of v) buffer' in
      let p₁ = take (length_of v₁) buffer₁' in
      let same : (r ≡ true) ↔ (p ≡ p₁) = (λ y. sym e ∙ t.0 y ∙ e₁, λ y. t.1 (e ∙ y ∙ sym e₁)) in
      record {
        verdict = v;
        verdict₁ = v₁;
        stored = c;
        stored₁ = c₁;
        answer = (λ y. (k, k₁, same.0 y), λ y. same.1 y.2);
        same = λ due due₁ room room₁ l.
            let u =
            demand3.same W (length mem) f f₁ m m₁ word word₁
            (record { none_due = due; lent = bz }) (record { none_due = due₁; lent = bz₁ })
            mem mem₁ buffer buffer₁ p p₁ (record { long = refl; bytes = bm }) (record { long = l; bytes = bm₁ })
            (hand f m W mem word buffer v mem' buffer' c k) (hand f₁ m₁ W mem₁ word₁ buffer₁ v₁ mem₁' buffer₁' c₁ k₁) in
            (λ y. u.0 (same.0 y), λ y. same.1 (u.1 y));
      }

  pub not-compared : (number v ≡ 0 → number v₁ ≡ 0 → ⊥)
      → Compared W f m mem word f₁ m₁ mem₁ word₁ buffer buffer₁ false mem' mem₁' buffer' buffer₁'
  not-compared never =
      record {
        verdict = v;
        verdict₁ = v₁;
        stored = c;
        stored₁ = c₁;
        answer = (λ y. absurdly cc, λ y. absurd (never y.0 y.1));
        same = λ due due₁ room room₁ l.
            absurd
            (never (done-store f m W mem word buffer v mem' buffer' c due room)
            (done-store f₁ m₁ W mem₁ word₁ buffer₁ v₁ mem₁' buffer₁' c₁ (subst (λ (n : ℕ). NoneDue f₁ m₁ W n word₁) (sym l) due₁) room₁));
      }
