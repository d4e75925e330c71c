-- Elements that lie side by side are one stretch. A stretch is a number: its start, an offset in the window, times 65536, its bytes
-- less one times 256, and the number of its first element. Assumes nothing.
use Rattle.std.specs.Prelude.{ℕ, suc, ◌+◌, ◌-◌, ◌*◌, ◌/◌, ◌%◌, ◌≤◌, ◌<◌, max, Bool, true, cond, ◌&&◌, List, [], ◌∷◌, ◌++◌, ◌≡◌, eqb, ltb, length}
use Rattle.writes.specs.Elements.{Element}
use Rattle.ordering.specs.Keys.{Each}
use Rattle.stretches.specs.Intervals.{Interval, interval}

abbrev pub start_of : ℕ → ℕ
start_of k = k / 65536

abbrev pub bytes_of : ℕ → ℕ
bytes_of k = k / 256 % 256 + 1

abbrev pub end_of : ℕ → ℕ
end_of k = start_of k + bytes_of k

-- the interval from a up to b, grown by the stretches that meet or touch it, and those of the stretches behind it
unfoldable pub merged_from : ℕ → ℕ → List ℕ → List Interval
merged_from a b [] = interval a (b - a) ∷ []
merged_from a b (k ∷ K) =
    cond (ltb b (start_of k)) (interval a (b - a) ∷ merged_from (start_of k) (end_of k) K) (merged_from a (max b (end_of k)) K)

unfoldable pub merged : List ℕ → List Interval
unfolding merged_from
merged [] = []
merged (k ∷ K) = merged_from (start_of k) (end_of k) K

-- by ascending start from p on, in a window of L bytes
abbrev pub Rising : ℕ → ℕ → List ℕ → Type 0
Rising L p [] = Unit {0}
Rising L p (k ∷ K) = (p ≤ start_of k) × (end_of k ≤ L) × Rising L (start_of k) K

pub record Ordered (S : List ℕ) (L : ℕ) : Type 0 where
  pub small : L ≤ 65536
  pub rising : Rising L 0 S

-- the stretches without those that are left, the `rest`, make one run, from `start` up to `end`
pub record Grew (S : List ℕ) (start end : ℕ) (rest : List ℕ) : Type 0 where
  pub taken : List ℕ
  pub left : S ≡ taken ++ rest
  pub fewer : length rest < length S
  pub some : start < end
  pub small : end < 65793
  pub same : merged S ≡ interval start (end - start) ∷ merged rest

-- ---- keys: stretches of one element each, in element order

-- elements of `size` bytes in the window of L bytes at W, their numbers ascending from f on
abbrev pub Seen : ℕ → ℕ → ℕ → ℕ → List Element → Type 0
Seen W L size f [] = Unit {0}
Seen W L size f (x ∷ xs) =
    (f ≤ x.number) × (x.number < 256) × (W ≤ x.address) × (x.address + size ≤ W + L) × (length x.bytes ≡ size)
    × Seen W L size (suc x.number) xs

abbrev pub key_of : ℕ → ℕ → ℕ → ℕ
key_of offset size e = offset * 65536 + ((size - 1) * 256 + e)

unfoldable pub keys_of : ℕ → ℕ → List Element → List ℕ
keys_of W size [] = []
keys_of W size (x ∷ xs) = key_of (x.address - W) size x.number ∷ keys_of W size xs

-- stretch s, whose last key is `last`, grown by the keys that start where the one before ended, and the stretches behind it
unfoldable pub joined_from : ℕ → ℕ → ℕ → List ℕ → List ℕ
joined_from size s last [] = s ∷ []
joined_from size s last (k ∷ K) =
    cond (eqb (start_of last + size) (start_of k)) (joined_from size (s + size * 256) k K) (s ∷ joined_from size k k K)

unfoldable pub joined : ℕ → List ℕ → List ℕ
unfolding joined_from
joined size [] = []
joined size (k ∷ K) = joined_from size k k K

-- whether each stretch is lower than the key that begins the next: stretches only grow, and so ascend then
unfoldable pub ascends_from : ℕ → ℕ → ℕ → List ℕ → Bool
ascends_from size s last [] = true
ascends_from size s last (k ∷ K) =
    cond (eqb (start_of last + size) (start_of k)) (ascends_from size (s + size * 256) k K) (ltb s k && ascends_from size k k K)

unfoldable pub ascends : ℕ → List ℕ → Bool
unfolding ascends_from
ascends size [] = true
ascends size (k ∷ K) = ascends_from size k k K

-- keys of `size` bytes each, at most 256 together
pub record Sized (K : List ℕ) (size : ℕ) : Type 0 where
  pub some : 1 ≤ size
  pub few : length K * size ≤ 256
  pub each : Each (λ k. bytes_of k ≡ size) K

-- the bytes of all
unfoldable pub sum : List ℕ → ℕ
sum [] = 0
sum (k ∷ K) = bytes_of k + sum K
