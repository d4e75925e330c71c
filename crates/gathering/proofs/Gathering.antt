-- `gather`, element by element: the keys so far, and what is left, are the keys of all. Over any activity and any element.
-- Assumes nothing.
use Rattle.std.proofs.Common.{◌≡◌, ℕ, ◌+◌, ◌-◌, ◌%◌, ◌^◌, ◌<◌, ◌≤◌, Bool, true, false, not, ◌&&◌, List, [], ◌∷◌, ◌++◌, length, take, set, sym, refl, ap, ◌∙◌, ap₂, append_assoc, append-nil, arith, length-set}
use Rattle.std.proofs.lemmas.List.{take-set, take_more_set}
use mathlib.Core.Option.{none, some}
use Rattle.std.specs.Int.{from_bool}
use native.Mathlib.Nat.{sub-zero}
use Rattle.writes.specs.Elements.{Element}
use Rattle.window.specs.Window.{window_ok, in_window}
use Rattle.window.proofs.Windows.{window-inv, in-window-inv}
use Rattle.elements.specs.Elements.{actives}
use Rattle.accesses.proofs.Listing.{active-more, inactive-more, active-none}
use Rattle.verdicts.specs.Verdicts.{first_outside}
use Rattle.checks.proofs.Walking.{Walked, walked-first, walked-past, walked-found, walked-done}
use Rattle.stretches.specs.Stretches.{key_of, keys_of}

-- k keys after e of n elements, in an array of the length that it came with
pub record Counted (n N : ℕ) (A : List ℕ) (k e : ℕ) : Type 0 where
  pub most : e ≤ n
  pub few : k ≤ e
  pub long : length A ≡ N

pub counted_next : (n N : ℕ) (A : List ℕ) (k e x d : ℕ) (b : Bool) → e < n → Counted n N A k e → d ≡ from_bool b
    → Counted n N (set A k x) (k + d) (e + 1)
counted_next n N A k e x d b h c q =
    record { most = omega arith; few = omega (arith, c.few, one b d q); long = length-set A k x ∙ c.long }
  where
    one : (b : Bool) (d : ℕ) → d ≡ from_bool b → d ≤ 1
    one true d q = omega arith
    one false d q = omega arith

module _ (on : ℕ → Bool) (el : ℕ → Element) (n W L size : ℕ) where
  pub record Gathering (A : List ℕ) (k e : ℕ) : Type 0 where
    pub walked : Walked on el n (first_outside W L) e
    pub so_far : take k A ++ keys_of W size (actives on el (n - e) e) ≡ keys_of W size (actives on el n 0)

  pub gathering-first : (A : List ℕ) → Gathering A 0 0
  gathering-first A =
      record { walked = walked-first on el n (first_outside W L); so_far = ap (λ (j : ℕ). keys_of W size (actives on el j 0)) (sub-zero n) }

  module _ (A : List ℕ) (k e : ℕ) (h : e < n) (g : Gathering A k e) where
    abbrev inside : Bool
    inside = in_window W L (el e).address (length (el e).bytes)

    keys-next : (b : Bool) → on e ≡ b → (x : ℕ) → k < length A → (b ≡ true → x ≡ key_of ((el e).address - W) size (el e).number)
        → take (k + from_bool b) (set A k x) ++ keys_of W size (actives on el (n - (e + 1)) (e + 1)) ≡ keys_of W size (actives on el n 0)
    unfolding keys_of
    keys-next true t x l q =
        let R : List ℕ = keys_of W size (actives on el (n - (e + 1)) (e + 1)) in
        ap (λ (K : List ℕ). K ++ R) (take_more_set A k x l) ∙ append_assoc (take k A) (x ∷ []) R
        ∙ ap (λ (y : ℕ). take k A ++ (y ∷ R)) (q refl)
        ∙ ap (λ (es : List Element). take k A ++ keys_of W size es) (sym (active-more on el n e h t))
        ∙ g.so_far
    keys-next false t x l q =
        let w : k + 0 ≡ k = omega arith in
        ap₂ (λ (K : List ℕ) (es : List Element). K ++ keys_of W size es)
        (ap (λ (z : ℕ). take z (set A k x)) w ∙ take-set A k x)
        (sym (inactive-more on el n e h t))
        ∙ g.so_far

    -- what the code has: the element's bit, its test, its key and the step of the count
    pub gathering-next : (b : Bool) → b ≡ on e → (p : Bool) → p ≡ not inside → (b && p) ≡ false → (x d : ℕ) → k < length A
        → (inside ≡ true → x ≡ key_of ((el e).address - W) size (el e).number) → d ≡ from_bool b → Gathering (set A k x) (k + d) (e + 1)
    gathering-next b eb p ep f x d l q ed =
        record {
          walked = walked-past on el n W L e h g.walked (sym (ap₂ (λ (y z : Bool). y && z) eb ep) ∙ f);
          so_far = ap (λ (z : ℕ). take (k + z) (set A k x) ++ keys_of W size (actives on el (n - (e + 1)) (e + 1))) ed
              ∙ keys-next b (sym eb) x l (λ t. q (lies b p inside ep f t));
        }
      where
        lies : (b p i : Bool) → p ≡ not i → (b && p) ≡ false → b ≡ true → i ≡ true
        lies b p true e f t = refl
        lies true p false e f t = sym (sym e ∙ f)
        lies false p false e f t = t

    pub gathering-out : (b : Bool) → b ≡ on e → (p : Bool) → p ≡ not inside → (b && p) ≡ true → (number a : ℕ) → number ≡ (el e).number
        → a ≡ (el e).address → (x : Element) × (first_outside W L (actives on el n 0) ≡ some x) × (number ≡ x.number) × (a ≡ x.address)
    gathering-out b eb p ep f number a en ea =
        (el e, sym (walked-found on el n W L e h g.walked (sym (ap₂ (λ (y z : Bool). y && z) eb ep) ∙ f)), en, ea)

  pub gathering-done : (A : List ℕ) (k e : ℕ) → n ≤ e → Gathering A k e
      → (first_outside W L (actives on el n 0) ≡ none) × (take k A ≡ keys_of W size (actives on el n 0))
  unfolding keys_of
  gathering-done A k e h g = (
    sym (walked-done on el n W L e h g.walked),
    sym (ap (λ (es : List Element). take k A ++ keys_of W size es) (active-none on el n e h) ∙ append-nil (take k A)) ∙ g.so_far,
  )

-- an address from its offset
pub back : (a W : ℕ) → a < 2 ^ 64 → W < 2 ^ 64 → ((a + (2 ^ 64 - W)) % 2 ^ 64 + W) % 2 ^ 64 ≡ a
back a W h k = omega arith

-- an offset in the window is small
pub key-is : (W L size a b p e x : ℕ) → window_ok W L ≡ true → 1 ≤ b → in_window W L a b ≡ true → (p + W) % 2 ^ 64 ≡ a → p < 2 ^ 64
    → x ≡ key_of (p % 65536) size e → x ≡ key_of (a - W) size e
key-is W L size a b p e x ok o i q l k =
    let u = window-inv W L ok in
    let w = in-window-inv W L a b i in
    let v : p % 65536 ≡ a - W = omega (arith, u, w) in
    k ∙ ap (λ (z : ℕ). key_of z size e) v
