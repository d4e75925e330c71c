-- Equally spaced runs put one after another: what holds where i of them are put. Assumes nothing.
use mathlib.Core.Path.{◌≡◌, refl}
use Prim.Native.Nat.{ℕ, ◌+◌, ◌-◌, ◌≤◌, ◌<◌}
use mathlib.Core.List.{List}
use native.Mathlib.Omega.{arith}
use lib.ListN.{length}
use Rattle.endian.specs.Overwriting.{overwritten}
use Rattle.cutting.specs.Cutting.{run_bytes, spaced, runs_of, Composing, Apart, Put}
use Rattle.cutting.specs.declared.Spaced.{Spaced}
use Rattle.cutting.proofs.Composing.{composing-first, composing-room, composing-next, composing-none}
use Rattle.cutting.proofs.Spacing.{spaced-next, spaced-none, spaced-all, spaced-in}

-- i runs are put, each in a step: the next starts at offset a and goes to index `to`
pub record Turn (s : Spaced) (W : ℕ) (mem out₀ out : List ℕ) (a to steps i : ℕ) : Type 0 where
  pub counted : steps ≡ i
  pub left : Composing W mem (runs_of s) out₀ (spaced a s.gap s.size (s.count - i)) out to steps

module _ (s : Spaced) (W : ℕ) (mem out₀ : List ℕ) (A : Apart s W mem out₀) where
  -- the first run lies in memory
  pub apart-in : 1 ≤ s.count → s.first + s.size ≤ length mem
  apart-in o = spaced-in s.gap s.size (length mem) 0 s.first s.count o A.separate

  pub turn-first : Turn s W mem out₀ out₀ s.first 0 0 0
  turn-first =
      record {
        counted = refl;
        left = composing-first W mem (runs_of s) out₀ A.room (spaced s.first s.gap s.size (s.count - 0))
            (spaced-all s.gap s.size s.first s.count) A.separate;
      }

  module _ (out : List ℕ) (a to steps i : ℕ) (T : Turn s W mem out₀ out a to steps i) where
    -- the next run fits memory and buffer
    pub turn-room : i < s.count → (a + s.size ≤ length mem) × (to + 12 + s.size + 4 ≤ length out)
    turn-room h =
        composing-room W mem (runs_of s) out₀ A.room (spaced a s.gap s.size (s.count - i)) out to steps T.left a s.size
        (spaced (a + s.gap) s.gap s.size (s.count - (i + 1))) (spaced-next s.gap s.size a (a + s.gap) s.count i h refl)

    pub turn-next : (out' : List ℕ) (a' to' : ℕ) → i < s.count → out' ≡ overwritten out to (run_bytes W mem a s.size) → a' ≡ a + s.gap
        → to' ≡ to + 12 + s.size → Turn s W mem out₀ out' a' to' (steps + 1) (i + 1)
    turn-next out' a' to' h q ea et =
        record {
          counted = omega (arith, T.counted);
          left = composing-next W mem (runs_of s) out₀ A.room (spaced a s.gap s.size (s.count - i)) out to steps T.left a s.size
              (spaced a' s.gap s.size (s.count - (i + 1))) out' to' (spaced-next s.gap s.size a a' s.count i h ea) q et;
        }

    pub turn-done : s.count ≡ i → Put s W mem out₀ out (record { length = to; steps = steps })
    turn-done e = (
      composing-none W mem (runs_of s) out₀ A.room (spaced a s.gap s.size (s.count - i)) out to steps T.left
          (spaced-none s.gap s.size a s.count i (omega arith)),
      omega (arith, T.counted),
    )
