-- Copying bytes, several at a time. Assumes nothing.
use mathlib.Core.Path.{◌≡◌, refl, sym, ap, ◌∙◌}
use Prim.Native.Nat.{ℕ, ◌+◌, ◌≤◌}
use mathlib.Core.List.{List, [], ◌∷◌, ◌++◌, append_assoc}
use native.Mathlib.Omega.{arith}
use lib.ListN.{length, take, drop, get_or, set, length-drop}
use lib.Seq.{take-add, take_all, take-take, take-paste, drop-drop, paste, length-paste}
use Rattle.endian.specs.LittleEndian.{Bytes, le_val, le_bytes}
use Rattle.endian.specs.Overwriting.{overwritten}
use Rattle.endian.proofs.LittleEndian.{le_bytes-part}
use Rattle.endian.proofs.Parts.{length_part}
use Rattle.endian.proofs.Putting.{over-next}

-- bytes read as a number and put
pub put-copied : (d s m : List ℕ) (i k x : ℕ) → Bytes s → i + k ≤ length s → x ≡ le_val (take k (drop i s))
    → m ≡ overwritten d i (le_bytes k x)
    → m ≡ overwritten d i (take k (drop i s))
put-copied d s m i k x hb h e q =
    q ∙ ap (λ (z : ℕ). overwritten d i (le_bytes k z)) e ∙ ap (overwritten d i) (le_bytes-part s i k hb h)

-- k more, and k more behind them
pub copied_on : (d s m m' : List ℕ) (i k : ℕ) → i + k + k ≤ length s → i + k + k ≤ length d → m ≡ overwritten d i (take k (drop i s))
    → m' ≡ overwritten m (i + k) (take k (drop (i + k) s)) → m' ≡ overwritten d i (take (k + k) (drop i s))
copied_on d s m m' i k h g q r =
    let a = length_part s i k (omega arith) in
    let b = length_part s (i + k) k h in
    over-next d m m' i (i + k) (take k (drop i s)) (take k (drop (i + k) s)) q (omega arith) (omega arith) r
    ∙ ap (overwritten d i) (ap (λ (l : List ℕ). take k (drop i s) ++ take k l) (sym (drop-drop k i s)) ∙ sym (take-add k k (drop i s)))

over-paste : (m s : List ℕ) (i k : ℕ) → i + k ≤ length s → overwritten m i (take k (drop i s)) ≡ paste m i (drop i s) k
unfolding overwritten
over-paste m s i k h =
    ap (λ (z : ℕ). take i m ++ (take k (drop i s) ++ drop (i + z) m)) (length_part s i k h)
    ∙ sym (append_assoc (take i m) (take k (drop i s)) (drop (i + k) m))

-- the first i bytes are copied
pub record Copied (s : List ℕ) (i : ℕ) (m : List ℕ) : Type 0 where
  pub most : i ≤ length s
  pub long : length m ≡ length s
  pub same : take i m ≡ take i s

pub copied-first : (s d : List ℕ) → length s ≡ length d → Copied s 0 d
copied-first s d e = record { most = omega arith; long = sym e; same = refl }

-- k more
pub copied_more : (s : List ℕ) (i k : ℕ) (m m' : List ℕ) → i + k ≤ length s → Copied s i m → m' ≡ overwritten m i (take k (drop i s))
    → Copied s (i + k) m'
copied_more s i k m m' h c q₀ =
    let q : m' ≡ paste m i (drop i s) k = q₀ ∙ over-paste m s i k h in
    let a : k ≤ length (drop i s) = omega (arith, length-drop i s) in
    record {
      most = h;
      long = ap length q ∙ length-paste m i (drop i s) k (omega (arith, c.long)) a ∙ c.long;
      same = ap (take (i + k)) q
          ∙ take-paste m i (drop i s) k (omega (arith, c.long)) a
          ∙ ap (λ (x : List ℕ). x ++ take k (drop i s)) c.same
          ∙ sym (take-add i k s);
    }

-- fewer are copied too
copied-fewer : (s : List ℕ) (i j : ℕ) (m : List ℕ) → j ≤ i → Copied s i m → Copied s j m
copied-fewer s i j m h c =
    record {
      most = omega (arith, c.most);
      long = c.long;
      same = sym (take-take j i m h) ∙ ap (take j) c.same ∙ take-take j i s h;
    }

pub copied_all : (s : List ℕ) (i : ℕ) (m : List ℕ) → length s ≤ i → Copied s i m → m ≡ s
copied_all s i m h c = sym (take_all i m (omega (arith, c.long))) ∙ c.same ∙ take_all i s h

-- the last k, where at most k are left
pub copied-last : (s : List ℕ) (i j k : ℕ) (m m' : List ℕ) → j ≤ i → j + k ≡ length s → Copied s i m
    → m' ≡ overwritten m j (take k (drop j s)) → m' ≡ s
copied-last s i j k m m' h e c q =
    copied_all s (j + k) m' (omega arith) (copied_more s j k m m' (omega arith) (copied-fewer s i j m h c) q)

-- all by one move
pub copied-once : (s d m : List ℕ) (k : ℕ) → length s ≡ length d → length d ≡ k → m ≡ overwritten d 0 (take k s) → m ≡ s
copied-once s d m k e n q = copied_all s (0 + k) m (omega arith) (copied_more s 0 k d m (omega arith) (copied-first s d e) q)

-- by two, the first k and the last
pub copied-ends : (s d m m' : List ℕ) (j k : ℕ) → length s ≡ length d → j ≤ k → j + k ≡ length d → m ≡ overwritten d 0 (take k s)
    → m' ≡ overwritten m j (take k (drop j s)) → m' ≡ s
copied-ends s d m m' j k e h n q r =
    copied-last s (0 + k) j k m m' (omega arith) (omega arith) (copied_more s 0 k d m (omega arith) (copied-first s d e) q) r

-- by one store, and by none
pub copied-one : (s d : List ℕ) → length s ≡ length d → length d ≡ 1 → set d 0 (get_or s 0 0) ≡ s
copied-one (a ∷ []) (b ∷ []) e n = refl
copied-one [] d e n = absurd (omega arith)
copied-one (a ∷ x ∷ s) d e n = absurd (omega arith)
copied-one (a ∷ []) [] e n = absurd (omega arith)
copied-one (a ∷ []) (b ∷ y ∷ d) e n = absurd (omega arith)

pub copied_none : (s d : List ℕ) → length s ≡ length d → length d ≡ 0 → d ≡ s
copied_none s d e n = copied_all s 0 d (omega arith) (copied-first s d e)
