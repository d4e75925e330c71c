-- A predicate register as a counter: document 01, 'Active elements', as document 02 (iii) amends it. Assumes nothing.
use Rattle.std.specs.Prelude.{ℕ, ◌+◌, ◌*◌, ◌/◌, ◌%◌, ◌^◌, Bool, cond, not, ◌&&◌, leb, take, ◌==◌, nat_le, nat_lt}
use Rattle.encoding.specs.Encoding.{lowest}
use Rattle.endian.specs.LittleEndian.{le_val}
use Rattle.elements.specs.Machine.{Machine, predicate}

-- "Classes 8 to 11 use P register 8 + Pc as a counter.", and so do 25 to 36 (document 02 (vii)). A counter is its register's low 16 bits.
abbrev pub counter_of : Machine → ℕ → ℕ
counter_of m pc = le_val (take 2 (predicate m (8 + pc)))

-- "Its low four bits choose the counter's element size: xxx1 is 8, xx10 is 16, x100 is 32, 1000 is 64": the index of the lowest set
-- bit, by which the size is 8 times a power of two
unfoldable pub lowest_set : ℕ → ℕ
lowest_set v = cond (v % 2 == 1) 0 (cond (v % 4 == 2) 1 (cond (v % 8 == 4) 2 3))

-- size/8
abbrev pub unit_of : ℕ → ℕ
unit_of v = 2 ^ lowest_set v

-- "bit log2(4·VB) as the count's highest, which is bit 6 at VB 16 and bit 10 at VB 256" (document 02 (iii)): the least i with 4·VB ≤ 2^i.
-- Where 4·VB is no power of two it is rounded up, as by Arm's CeilPow2; no strided store gets past verdict 1 or 5 there.
unfoldable pub highest : ℕ → ℕ
highest vb = lowest (λ i. leb (4 * vb) (2 ^ i)) (vb + 2)

-- "The count is the number above the lowest set bit" (document 01), up to bit log2(4·VB): "the bits above it up to 14 are ignored"
-- (document 02 (iii))
unfoldable pub count_in : ℕ → ℕ → ℕ
count_in vb v = v % 2 ^ (highest vb + 1) / 2 ^ (lowest_set v + 1)

-- "Counter element k sets bit k·size/8 of a mask over four registers when k < count, or when k ≥ count if bit 15 is set; the mask's
-- other bits are 0"; "0000 means nothing is active whatever bit 15 says"
unfoldable pub mask_bit : ℕ → ℕ → ℕ → Bool
mask_bit vb v i =
    not (v % 16 == 0)
    && (i % unit_of v == 0 && cond (nat_lt v (2 ^ 15)) (nat_lt (i / unit_of v) (count_in vb v)) (nat_le (count_in vb v) (i / unit_of v)))
