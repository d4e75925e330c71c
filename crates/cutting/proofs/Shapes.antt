-- Runs that have the intervals' starts and lengths. Assumes nothing.
use mathlib.Core.Path.{◌≡◌, refl, ap, ap₂, ◌∙◌, subst}
use Prim.Native.Nat.{ℕ, ◌+◌, ◌^◌, ◌≤◌}
use mathlib.Core.List.{List, [], ◌∷◌, ◌++◌}
use native.Mathlib.Omega.{arith}
use lib.ListN.{length}
use Rattle.endian.specs.LittleEndian.{Bytes, le_bytes}
use Rattle.writes.specs.Sets.{Run, run, lookup, writes_at, writes_of, Apart}
use Rattle.writes.specs.Encoding.{run_then}
use Rattle.writes.proofs.Lookup.{lookup-append}
use Rattle.stretches.specs.Intervals.{Interval, interval, Separate}
use Rattle.cutting.specs.Cutting.{head_bytes}
use Rattle.stretches.proofs.Covering.{among, or, covered, is_some, some-writes_at, some_or}

abbrev pub Shape : ℕ → List Interval → List Run → Type 0
Shape W [] [] = Unit {0}
Shape W [] (run a q ∷ rs) = ⊥
Shape W (interval s n ∷ I) [] = ⊥
Shape W (interval s n ∷ I) (run a q ∷ rs) = (a ≡ W + s) × (length q ≡ n) × Bytes q × Shape W I rs

-- such runs have a byte at the addresses that the intervals cover
pub some-shape : (W x : ℕ) (I : List Interval) (rs : List Run) → Shape W I rs → is_some (lookup x (writes_of rs)) ≡ covered W x I
unfolding writes_of lookup covered
some-shape W x [] [] h = refl
some-shape W x [] (run a q ∷ rs) h = absurd h
some-shape W x (interval s n ∷ I) [] h = absurd h
some-shape W x (interval s n ∷ I) (run a q ∷ rs) h =
    ap is_some (lookup-append x (writes_at a q) (writes_of rs)) ∙ some_or (lookup x (writes_at a q)) (lookup x (writes_of rs))
    ∙ ap₂ or (some-writes_at x a q ∙ ap₂ (λ (y n : ℕ). among y n x) h.0 h.1) (some-shape W x I rs h.3)

-- and are apart, as the intervals are
pub apart-shape : (W L f : ℕ) (I : List Interval) (rs : List Run) → W + L ≤ 2 ^ 64 → Separate L f I → Shape W I rs → Apart (W + f) rs
apart-shape W L f [] [] t a h = tt
apart-shape W L f [] (run c q ∷ rs) t a h = absurd h
apart-shape W L f (interval s n ∷ I) [] t a h = absurd h
apart-shape W L f (interval s n ∷ I) (run c q ∷ rs) t a h =
    let a0 : f ≤ s = a.0 in
    let a1 : 1 ≤ n = a.1 in
    let a2 : s + n ≤ L = a.2 in
    let h0 : c ≡ W + s = h.0 in
    let h1 : length q ≡ n = h.1 in
    let w : W + (s + n + 1) ≡ c + length q + 1 = omega arith in
    (omega arith, omega arith, omega arith, h.2, subst (λ (z : ℕ). Apart z rs) w (apart-shape W L (s + n + 1) I rs t a.3 h.3))

-- ---- a head

pub run-headed : (a : ℕ) (q T : List ℕ) → run_then a q T ≡ head_bytes a (length q) ++ (q ++ T)
unfolding run_then head_bytes le_bytes
run-headed a q T = refl

pub length-head_bytes : (a n : ℕ) → length (head_bytes a n) ≡ 12
unfolding head_bytes le_bytes
length-head_bytes a n = refl
