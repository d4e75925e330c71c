-- A strided store's active elements, from the first up to the last, against the window. Assumes nothing.
use mathlib.Core.Path.{◌≡◌, refl, sym, ap, ◌∙◌}
use mathlib.Core.Bool.{Bool, true, false, cond}
use mathlib.Core.List.{List, [], ◌∷◌}
use mathlib.Core.Option.{none, some}
use Prim.Native.Nat.{ℕ, zero, suc, ◌+◌, ◌-◌, ◌*◌, ◌^◌, ◌≤◌, ◌<◌}
use native.Mathlib.Numerals.{add-one}
use native.Mathlib.Omega.{arith}
use lib.Dec.{ltb}
use lib.ListN.{length}
use borrow.Author.Tests.{lt-ltb, le-ltb}
use Rattle.writes.specs.Elements.{Element}
use Rattle.window.specs.Window.{in_window}
use Rattle.endian.proofs.Order.{two}
use Rattle.window.proofs.Windows.{in-window}
use Rattle.elements.specs.Accesses.{StridedSound, strided_address, strided_element, strided_elements}
use Rattle.elements.specs.declared.StridedAccess.{StridedAccess}
use Rattle.accesses.proofs.Sizes.{bytes-long}
use Rattle.accesses.proofs.Spacing.{listed, strided-listed, strided-none, reach, each-inside}
use Rattle.verdicts.specs.Verdicts.{some_active, first_outside}

module _ (el : ℕ → Element) (W L : ℕ) where
  listed_more : (high e : ℕ) → e < high → listed el (high - e) e ≡ el e ∷ listed el (high - (e + 1)) (e + 1)
  unfolding listed
  listed_more high e h =
      let w : high - e ≡ suc (high - (e + 1)) = omega arith in
      ap (λ (n : ℕ). listed el n e) w ∙ ap (λ (i : ℕ). el e ∷ listed el (high - (e + 1)) i) (sym (add-one e))

  listed-none : (high e : ℕ) → high ≤ e → listed el (high - e) e ≡ []
  unfolding listed
  listed-none high e h = let w : high - e ≡ 0 = omega arith in ap (λ (n : ℕ). listed el n e) w

  abbrev inside : ℕ → Bool
  inside e = in_window W L (el e).address (length (el e).bytes)

  all-inside : (n e : ℕ) → ((i : ℕ) → e ≤ i → i < e + n → inside i ≡ true) → first_outside W L (listed el n e) ≡ none
  unfolding first_outside listed
  all-inside zero e f = refl
  all-inside (suc n) e f =
      ap (λ (b : Bool). cond b (first_outside W L (listed el n (suc e))) (some (el e))) (f e (omega arith) (omega arith))
      ∙ all-inside n (suc e) (λ i a b. f i (omega arith) (omega arith))

module _ (s : StridedAccess) (vb : ℕ) (o : StridedSound s vb) (z : List ℕ) where
  abbrev el : ℕ → Element
  el = strided_element s vb z

  pub some_is : ltb s.low s.high ≡ some_active (strided_elements s vb z)
  some_is =
      two s.low s.high
      (λ l. lt-ltb s.low s.high l ∙ sym (ap some_active (strided-listed s vb o z ∙ listed_more el 0 0 s.high s.low l)))
      (λ l. le-ltb s.low s.high l ∙ sym (ap some_active (strided-none s vb o z l)))

  module _ (W L : ℕ) where
    -- the active elements below e lie in the window
    abbrev pub Ranged : ℕ → Type 0
    Ranged e = first_outside W L (listed el (s.high - e) e) ≡ first_outside W L (strided_elements s vb z)

    pub ranged-first : Ranged s.low
    ranged-first = ap (first_outside W L) (sym (strided-listed s vb o z))

    module _ (e : ℕ) (h : e < s.high) (k : Ranged e) (b : Bool) (i : inside el W L e ≡ b) where
      next : cond b (first_outside W L (listed el (s.high - (e + 1)) (e + 1))) (some (el e)) ≡ first_outside W L (strided_elements s vb z)
      unfolding first_outside
      next =
          sym (ap (λ (b : Bool). cond b (first_outside W L (listed el (s.high - (e + 1)) (e + 1))) (some (el e))) i)
          ∙ sym (ap (first_outside W L) (listed_more el W L s.high e h)) ∙ k

      pub ranged-in : b ≡ true → Ranged (e + 1)
      ranged-in t = sym (ap (λ (b : Bool). cond b (first_outside W L (listed el (s.high - (e + 1)) (e + 1))) (some (el e))) t) ∙ next

      pub ranged-out : b ≡ false → some (el e) ≡ first_outside W L (strided_elements s vb z)
      ranged-out t = sym (ap (λ (b : Bool). cond b (first_outside W L (listed el (s.high - (e + 1)) (e + 1))) (some (el e))) t) ∙ next

    pub ranged-done : (e : ℕ) → s.high ≤ e → Ranged e → none ≡ first_outside W L (strided_elements s vb z)
    unfolding first_outside
    ranged-done e h k = sym (ap (first_outside W L) (listed-none el W L s.high e h)) ∙ k

    -- they lie in the window, from the first one's first byte to the last one's last
    pub all-reached : length z ≡ 32 * vb → s.low < s.high → W + L ≤ 2 ^ 64 → W ≤ strided_address s s.low
        → strided_address s s.low + reach s ≤ W + L → none ≡ first_outside W L (strided_elements s vb z)
    unfolding strided_element
    all-reached q h top a b =
        sym (ap (first_outside W L) (strided-listed s vb o z)
        ∙ all-inside el W L (s.high - s.low) s.low
        (λ i c d.
        let u : i < s.high = omega arith in
        let f = each-inside s vb o z h (omega arith) W L i a b c u in
        ap (in_window W L (strided_address s i)) (bytes-long s vb o z q i u) ∙ in-window W L (strided_address s i) s.size f.0 f.1))
