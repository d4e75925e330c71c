-- Elements put over memory at equal distances. For the contracts of the code's own functions. Assumes nothing.
use Rattle.std.specs.Prelude.{ℕ, zero, suc, ◌+◌, ◌-◌, ◌*◌, ◌≤◌, List, ◌≡◌, length, take, drop}
use Rattle.endian.specs.Overwriting.{overwritten}
use Rattle.elements.specs.Accesses.{strided_element}
use Rattle.elements.specs.declared.StridedAccess.{StridedAccess}

-- the bytes p of n elements from number k on, the first at offset `at`, each `gap` bytes behind the one before
unfoldable pub spread_over : (ℕ → List ℕ) → ℕ → ℕ → ℕ → List ℕ → ℕ → List ℕ
spread_over p gap zero k mem at = mem
spread_over p gap (suc n) k mem at = spread_over p gap n (suc k) (overwritten mem at (p k)) (at + gap)

-- `size` bytes at each multiple of the gap in a list
abbrev pub spread_from : List ℕ → ℕ → ℕ → ℕ → ℕ → List ℕ → ℕ → List ℕ
spread_from src gap size = spread_over (λ k. take size (drop (k * gap) src)) gap

-- n elements lie in memory from offset `at` on, and in their source
pub record Room (src mem : List ℕ) (at n gap size : ℕ) : Type 0 where
  pub few : n ≤ 1024
  pub small : gap ≤ 256
  pub fit : size ≤ gap
  pub window : length mem ≤ 65536
  pub inside : at + n * gap ≤ length mem + (gap - size)
  pub source : n * gap ≤ length src + (gap - size)

-- they are copied and counted
pub record Copies (src mem : List ℕ) (at n gap size elements bytes : ℕ) (mem' : List ℕ) : Type 0 where
  pub counted : elements ≡ n
  pub weighed : bytes ≡ n * size
  pub same : mem' ≡ spread_from src gap size n 0 mem at

-- the elements of a strided store
abbrev pub spread : StridedAccess → ℕ → List ℕ → ℕ → ℕ → List ℕ → ℕ → List ℕ
spread s vb z = spread_over (λ k. (strided_element s vb z k).bytes) s.gap
