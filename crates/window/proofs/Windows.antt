-- The window's own test, and that of some bytes against it. Assumes nothing.
use Rattle.std.proofs.Common.{◌≡◌, ℕ, zero, suc, ◌+◌, ◌-◌, ◌%◌, ◌^◌, ◌<◌, ◌≤◌, Bool, true, false, cond, not, ◌&&◌, leb, sym, refl, ap, ◌∙◌, subst, arith, le-leb, leb-false, leb-true}
use Rattle.window.specs.Window.{window_ok, in_window, offset_in, outside_from, byte_outside}
use Rattle.endian.proofs.Order.{two, three, not-both, both}

-- two comparisons that both hold, and that don't
within : (a b c d : ℕ) → a ≤ b → c ≤ d → (leb a b && leb c d) ≡ true
within a b c d h k = simp (le-leb a b h, le-leb c d k)

within-inv : (a b c d : ℕ) → (leb a b && leb c d) ≡ true → (a ≤ b) × (c ≤ d)
within-inv a b c d e =
    let t = both (leb a b) (leb c d) e in
    (leb-true a b t.0, leb-true c d t.1)

not_within : (a b c d : ℕ) → ((a ≤ b) × (c ≤ d) → ⊥) → (leb a b && leb c d) ≡ false
not_within a b c d h = go (leb a b && leb c d) refl
  where
    go : (t : Bool) → (leb a b && leb c d) ≡ t → t ≡ false
    go true e = absurd (h (within-inv a b c d e))
    go false e = refl

pub window-true : (W L : ℕ) → L ≤ 65536 → W + L ≤ 2 ^ 64 → window_ok W L ≡ true
unfolding window_ok
window-true W L a b = within L 65536 (W + L) (2 ^ 64) a b

pub window-inv : (W L : ℕ) → window_ok W L ≡ true → (L ≤ 65536) × (W + L ≤ 2 ^ 64)
unfolding window_ok
window-inv W L e = within-inv L 65536 (W + L) (2 ^ 64) e

pub window-false : (W L : ℕ) → ((L ≤ 65536) × (W + L ≤ 2 ^ 64) → ⊥) → window_ok W L ≡ false
unfolding window_ok
window-false W L h = not_within L 65536 (W + L) (2 ^ 64) h

pub in-window : (W L s n : ℕ) → W ≤ s → s + n ≤ W + L → in_window W L s n ≡ true
unfolding in_window
in-window W L s n a b = within W s (s + n) (W + L) a b

pub in-window-inv : (W L s n : ℕ) → in_window W L s n ≡ true → (W ≤ s) × (s + n ≤ W + L)
unfolding in_window
in-window-inv W L s n e = within-inv W s (s + n) (W + L) e

pub not-in-window : (W L s n : ℕ) → ((W ≤ s) × (s + n ≤ W + L) → ⊥) → in_window W L s n ≡ false
unfolding in_window
not-in-window W L s n h = not_within W s (s + n) (W + L) h

-- an offset that leaves room for n bytes is below the limit; one that wraps is not
module _ (W L n s limit : ℕ) (ok : window_ok W L ≡ true) (some : 1 ≤ n) (is : limit ≡ L + 1 - n) (small : s < 2 ^ 64) where
  pub past-limit : leb limit (offset_in W s) ≡ not (in_window W L s n)
  past-limit = go (leb limit (offset_in W s)) refl
    where
      top : W + L ≤ 2 ^ 64
      top = (window-inv W L ok).1

      go : (t : Bool) → leb limit (offset_in W s) ≡ t → t ≡ not (in_window W L s n)
      go true e =
          let h : limit ≤ offset_in W s = leb-true limit (offset_in W s) e in
          sym (ap not (not-in-window W L s n (λ k. omega (arith, top))))
      go false e =
          let h : offset_in W s < limit = leb-false limit (offset_in W s) e in
          sym (ap not (in-window W L s n (omega (arith, top)) (omega (arith, top))))

-- ---- the first byte outside

-- address r is the least, of those of n bytes at a, that isn't in the window
pub record Least (W L a n r : ℕ) : Type 0 where
  pub at : ℕ
  pub below : at < n
  pub is : r ≡ (a + at) % 2 ^ 64
  pub out : in_window W L r 1 ≡ false
  pub before : (j : ℕ) → j < at → in_window W L ((a + j) % 2 ^ 64) 1 ≡ true

module _ (W L a : ℕ) where
  -- where some byte from the k-th on is outside, and none before
  least-from : (k n : ℕ) → ((j : ℕ) → j < k → in_window W L ((a + j) % 2 ^ 64) 1 ≡ true)
      → (i : ℕ) → k ≤ i → i < k + n → in_window W L ((a + i) % 2 ^ 64) 1 ≡ false → Least W L a (k + n) (outside_from W L a k n)
  unfolding outside_from
  least-from k zero f i l h o = absurd (omega arith)
  least-from k (suc n) f i l h o = go (in_window W L ((a + k) % 2 ^ 64) 1) refl (λ g j. least-from (suc k) n g i j (omega arith) o)
    where
      go : (b : Bool) → in_window W L ((a + k) % 2 ^ 64) 1 ≡ b
          → (((j : ℕ) → j < suc k → in_window W L ((a + j) % 2 ^ 64) 1 ≡ true) → suc k ≤ i
          → Least W L a (suc k + n) (outside_from W L a (suc k) n))
          → Least W L a (k + suc n) (cond b (outside_from W L a (suc k) n) ((a + k) % 2 ^ 64))
      go false e r = record { at = k; below = omega arith; is = refl; out = e; before = f }
      go true e r =
          let w : suc k + n ≡ k + suc n = omega arith in
          subst (λ (m : ℕ). Least W L a m (outside_from W L a (suc k) n)) w
          (r
          (λ j q. two j k (λ p. f j p) (λ p. let x : j ≡ k = omega arith in ap (λ (z : ℕ). in_window W L ((a + z) % 2 ^ 64) 1) x ∙ e))
          (three i k (λ p. omega arith) (λ p. not-both _ (ap (λ (z : ℕ). in_window W L ((a + z) % 2 ^ 64) 1) p ∙ e) o) (λ p. p)))

  module _ (n : ℕ) (ok : window_ok W L ≡ true) (small : a < 2 ^ 64) (some : 1 ≤ n) (out : in_window W L a n ≡ false) where
    window : (L ≤ 65536) × (W + L ≤ 2 ^ 64)
    window = window-inv W L ok

    first-byte : (a + 0) % 2 ^ 64 ≡ a
    first-byte = omega arith

    -- the byte behind the window isn't in it, modulo 2^64 either
    behind : in_window W L ((W + L) % 2 ^ 64) 1 ≡ false
    behind = not-in-window W L ((W + L) % 2 ^ 64) 1 (λ h. omega (arith, window, h.0, h.1))

    -- how far the byte behind the window is, where the first byte is in it
    abbrev gap : ℕ
    gap = W + L - a

    reached : in_window W L a 1 ≡ true → (a + gap) % 2 ^ 64 ≡ (W + L) % 2 ^ 64
    reached e = let h = in-window-inv W L a 1 e in omega (arith, h.1)

    from_first : (i : ℕ) → i < n → in_window W L ((a + i) % 2 ^ 64) 1 ≡ false → Least W L a n (byte_outside W L a n)
    from_first i h o =
        let w : 0 + n ≡ n = omega arith in
        subst (λ (m : ℕ). Least W L a m (byte_outside W L a n)) w
        (least-from 0 n (λ j q. absurd (omega arith)) i (omega arith) (omega arith) o)

    pub byte-least : Least W L a n (byte_outside W L a n)
    byte-least = go (in_window W L a 1) refl
      where
        go : (b : Bool) → in_window W L a 1 ≡ b → Least W L a n (byte_outside W L a n)
        go false e =
            from_first 0 (omega arith) (ap (λ (z : ℕ). in_window W L z 1) first-byte ∙ e)
        go true e =
            let h = in-window-inv W L a 1 e in
            from_first gap
            (two gap n (λ p. omega arith) (λ p. not-both (in_window W L a n) (in-window W L a n h.0 (omega (arith, h.1))) out))
            (ap (λ (z : ℕ). in_window W L z 1) (reached e) ∙ behind)

    byte-some : cond (in_window W L a 1) ((W + L) % 2 ^ 64) a ≡ byte_outside W L a n
    byte-some = go (in_window W L a 1) refl
      where
        least : Least W L a n (byte_outside W L a n)
        least = byte-least

        go : (b : Bool) → in_window W L a 1 ≡ b → cond b ((W + L) % 2 ^ 64) a ≡ byte_outside W L a n
        go false e =
            three 0 least.at
            (λ p. not-both _ (least.before 0 p) (ap (λ (z : ℕ). in_window W L z 1) first-byte ∙ e))
            (λ p. sym (least.is ∙ ap (λ (z : ℕ). (a + z) % 2 ^ 64) (sym p) ∙ first-byte))
            (λ p. absurd (omega arith))
        go true e =
            let h = in-window-inv W L a 1 e in
            three least.at gap
            (λ p.
            let w : (a + least.at) % 2 ^ 64 ≡ a + least.at = omega (arith, window.1) in
            not-both _ (in-window W L (byte_outside W L a n) 1 (omega (arith, least.is, h.0)) (omega (arith, least.is))) least.out)
            (λ p. sym (least.is ∙ ap (λ (z : ℕ). (a + z) % 2 ^ 64) p ∙ reached e))
            (λ p. not-both _ (least.before gap p) (ap (λ (z : ℕ). in_window W L z 1) (reached e) ∙ behind))

-- the first byte is outside, or else the one behind the window is the first that is
pub byte-is : (W L a n : ℕ) → window_ok W L ≡ true → a < 2 ^ 64 → in_window W L a n ≡ false
    → cond (in_window W L a 1) ((W + L) % 2 ^ 64) a ≡ byte_outside W L a n
unfolding outside_from
byte-is W L a zero ok small out =
    ap (λ (b : Bool). cond b ((W + L) % 2 ^ 64) a)
    (not-in-window W L a 1 (λ h. not-both (in_window W L a 0) (in-window W L a 0 h.0 (omega (arith, h.1))) out))
    ∙ omega arith
byte-is W L a (suc n) ok small out = byte-some W L a (suc n) ok small (omega arith) out
