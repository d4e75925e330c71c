-- Runs cut out of the window's memory. For the contracts of the code's own functions. Assumes nothing.
use Rattle.std.specs.Prelude.{ℕ, zero, suc, ◌+◌, ◌^◌, ◌≤◌, ◌≡◌, List, [], ◌∷◌, ◌++◌, length, take, drop}
use Rattle.endian.specs.LittleEndian.{Bytes, le_bytes}
use Rattle.endian.specs.Overwriting.{overwritten}
use Rattle.writes.specs.Sets.{Run, run}
use Rattle.writes.specs.Encoding.{runs_then, trailer, encode_runs}
use Rattle.writes.specs.Elements.{Element}
use Rattle.stretches.specs.Intervals.{Interval, interval, Separate, total}
use Rattle.cutting.specs.declared.Composed.{Composed}
use Rattle.cutting.specs.declared.Spaced.{Spaced}

-- a run's mark, start and length
unfoldable pub head_bytes : ℕ → ℕ → List ℕ
unfolding le_bytes
head_bytes s n = 0x50 ∷ 0x52 ∷ le_bytes 8 s ++ le_bytes 2 n

-- n bytes of memory from offset s on
unfoldable pub part : List ℕ → ℕ → ℕ → List ℕ
part mem s n = take n (drop s mem)

-- the bytes of a run: its head, and memory
unfoldable pub run_bytes : ℕ → List ℕ → ℕ → ℕ → List ℕ
unfolding part head_bytes
run_bytes W mem s n = head_bytes (W + s) n ++ part mem s n

-- the runs of intervals in the window at W, with the memory's bytes
unfoldable pub cut : ℕ → List ℕ → List Interval → List Run
unfolding part
cut W mem [] = []
cut W mem (interval s n ∷ I) = run (W + s) (part mem s n) ∷ cut W mem I

-- n intervals of `size` bytes, the first at p, `gap` bytes from one to the next
unfoldable pub spaced : ℕ → ℕ → ℕ → ℕ → List Interval
spaced p gap size zero = []
spaced p gap size (suc n) = interval p size ∷ spaced (p + gap) gap size n

-- the runs of J are to come, from index `at` on, k runs standing before: with them and the trailer the buffer is what all runs,
-- those of J₀, make of it
pub record Composing (W : ℕ) (mem : List ℕ) (J₀ : List Interval) (out₀ : List ℕ) (J : List Interval) (out : List ℕ)
    (at k : ℕ) : Type 0 where
  pub separate : Separate (length mem) 0 J
  pub long : length out ≡ length out₀
  pub sum : at + total J ≡ total J₀
  pub same : overwritten out at (runs_then (cut W mem J) (trailer (k + length J))) ≡ overwritten out₀ 0 (encode_runs (cut W mem J₀))

-- equally spaced runs as intervals
abbrev pub runs_of : Spaced → List Interval
runs_of s = spaced s.first s.gap s.size s.count

-- they lie apart in the window at W, and the buffer has room for their patch
pub record Apart (s : Spaced) (W : ℕ) (mem out : List ℕ) : Type 0 where
  pub some : 1 ≤ s.size
  pub near : s.gap ≤ 65536
  pub small : length mem ≤ 65536
  pub top : W + length mem ≤ 2 ^ 64
  pub room : total (runs_of s) + 4 ≤ length out
  pub separate : Separate (length mem) 0 (runs_of s)

-- all are put, each in a step, and the trailer is to come
abbrev pub Put : Spaced → ℕ → List ℕ → List ℕ → List ℕ → Composed → Type 0
Put s W mem out₀ out c = Composing W mem (runs_of s) out₀ [] out c.length c.steps × (c.steps ≡ s.count)

-- elements of bytes in the window of L bytes at W
abbrev pub Fits : ℕ → ℕ → List Element → Type 0
Fits W L [] = Unit {0}
Fits W L (x ∷ xs) = (W ≤ x.address) × (x.address + length x.bytes ≤ W + L) × Bytes x.bytes × Fits W L xs
