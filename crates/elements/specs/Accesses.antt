-- A store's numbers, decided once before its elements are walked. For the contracts of the code's own functions. Assumes nothing.
use Rattle.std.specs.Prelude.{◌≡◌, ℕ, ◌+◌, ◌-◌, ◌*◌, ◌/◌, ◌%◌, ◌^◌, ◌<◌, ◌≤◌, Bool, true, cond, ◌&&◌, ◌||◌, ◌⊎◌, List, take, drop, ◌==◌, nat_le, nat_lt, Option, Some, None}
use Rattle.encoding.specs.Classes.{Class}
use Rattle.encoding.specs.Layouts.{exponent}
use Rattle.encoding.specs.declared.Extension.{Extension}
use Rattle.encoding.specs.declared.Extension.TheVariants.{Uxtw, Sxtw}
use Rattle.encoding.specs.declared.ScatterFields.{ScatterFields}
use Rattle.encoding.specs.declared.StridedFields.{StridedFields}
use Rattle.encoding.specs.declared.QuadwordFields.{QuadwordFields}
use Rattle.endian.specs.LittleEndian.{le_val}
use Rattle.writes.specs.Elements.{Element}
use Rattle.elements.specs.Machine.{Machine, base_of, index_of, register, bit_at}
use Rattle.elements.specs.Counter.{counter_of, lowest_set, unit_of, count_in}
use Rattle.elements.specs.Stores.{step_of, size_of, per_register, signed32, stride_of, start_of}
use Rattle.elements.specs.Elements.{actives}
use Rattle.elements.specs.declared.VectorAccess.{VectorAccess}
use Rattle.elements.specs.declared.Range.{Range}
use Rattle.elements.specs.declared.StridedAccess.{StridedAccess}

-- ---- scatter and quadword stores: an offset in each element of a vector register

-- the offset whose element starts at byte `at` of its register
abbrev pub offset_from : Option Extension → List ℕ → ℕ → ℕ
offset_from None reg at = le_val (take 8 (drop at reg))
offset_from (Some Uxtw) reg at = le_val (take 4 (drop at reg))
offset_from (Some Sxtw) reg at = signed32 (le_val (take 4 (drop at reg)))

abbrev pub offset_bytes : Option Extension → ℕ
offset_bytes None = 8
offset_bytes (Some Uxtw) = 4
offset_bytes (Some Sxtw) = 4

-- the address by that offset
abbrev pub address_from : ℕ → Option Extension → ℕ → List ℕ → ℕ → ℕ
address_from base x scale offsets at = (base + offset_from x offsets at * 2 ^ scale) % 2 ^ 64

unfoldable pub vector_address : VectorAccess → List ℕ → ℕ → ℕ
vector_address v offsets e = address_from v.base v.extension v.scale offsets (e * v.step)

unfoldable pub vector_active : VectorAccess → List ℕ → ℕ → Bool
vector_active v governing e = bit_at governing (e * v.step)

unfoldable pub vector_element : VectorAccess → List ℕ → List ℕ → ℕ → Element
vector_element v offsets stored e =
    record { number = e; address = vector_address v offsets e; bytes = take v.size (drop (e * v.step) stored) }

abbrev pub scatter_access : Machine → Class → ScatterFields → VectorAccess
scatter_access m c f =
    record {
      base = base_of m f.rn;
      extension = f.extension;
      scale = c.scale;
      step = step_of c;
      size = size_of c;
      count = per_register m c;
      offsets = f.zm;
      governing = f.pg;
      stored = f.zt;
    }

abbrev pub quadword_access : Machine → Class → QuadwordFields → VectorAccess
quadword_access m c f =
    record {
      base = index_of m f.rm;
      extension = None;
      scale = 0;
      step = step_of c;
      size = size_of c;
      count = per_register m c;
      offsets = f.zn;
      governing = f.pg;
      stored = f.zt;
    }

-- ---- elements under a counter: the mask bits that can be set, and so the elements that can be active, lie at equal distances

-- the power of 2 that an element's bytes are, and the one that the distance is: the higher of that and the counter's unit's. `x + (y - x)`
-- is the higher of two numbers, `x - (x - y)` the lower.
abbrev pub exponent_of : Class → ℕ
exponent_of c = exponent (size_of c)

abbrev pub spacing : ℕ → ℕ → ℕ
spacing x v = x + (lowest_set v - x)

-- with a distance of 2^g bytes: how many from the first on have their mask bit below the count
unfoldable pub border_of : ℕ → ℕ → ℕ → ℕ
border_of vb v g = (count_in vb v * unit_of v + (2 ^ g - 1)) / 2 ^ g

-- by the border, the first of n that is active, and the one behind the last; both are 0 where none is
unfoldable pub low_of : ℕ → ℕ → ℕ → ℕ
low_of v border n = cond (v % 16 == 0) 0 (cond (nat_lt v (2 ^ 15)) 0 (border - (border - n)))

unfoldable pub high_of : ℕ → ℕ → ℕ → ℕ
high_of v border n = cond (v % 16 == 0) 0 (cond (nat_lt v (2 ^ 15)) (border - (border - n)) n)

-- the active ones of n registers under a counter, with a distance of 2^g bytes
unfoldable pub range_of : ℕ → ℕ → ℕ → ℕ → Range
range_of vb v g n =
    record {
      low = low_of v (border_of vb v g) (n * (vb / 2 ^ g));
      high = high_of v (border_of vb v g) (n * (vb / 2 ^ g));
      gap = 2 ^ g;
      per = vb / 2 ^ g;
    }

-- of a store
abbrev pub range_for : Machine → Class → StridedFields → Range
range_for m c f = range_of m.vb (counter_of m f.pc) (spacing (exponent_of c) (counter_of m f.pc)) c.nreg

-- ---- strided stores: the elements that lie `gap` bytes apart, counted by k

unfoldable pub strided_address : StridedAccess → ℕ → ℕ
strided_address s k = (s.start + k * s.gap) % 2 ^ 64

unfoldable pub strided_element : StridedAccess → ℕ → List ℕ → ℕ → Element
strided_element s vb z k =
    record {
      number = k * s.gap / s.size;
      address = strided_address s k;
      bytes = take s.size (drop (k % s.per * s.gap) (register vb z (s.first + k / s.per * s.stride)));
    }

-- which of them are active
unfoldable pub between : StridedAccess → ℕ → Bool
between s k = nat_le s.low k && nat_lt k s.high

-- whether the element is, whose first byte is the i-th of all registers' bytes
unfoldable pub strided_active : StridedAccess → ℕ → Bool
strided_active s i = i % s.gap == 0 && between s (i / s.gap)

-- by its first address and its range
abbrev pub strided_of : Class → StridedFields → ℕ → Range → StridedAccess
strided_of c f start r =
    record {
      start = start;
      low = r.low;
      high = r.high;
      gap = r.gap;
      size = size_of c;
      per = r.per;
      nreg = c.nreg;
      first = f.first;
      stride = stride_of c;
    }

abbrev pub strided_access : Machine → Class → StridedFields → StridedAccess
strided_access m c f = strided_of c f (start_of m c f.rn f.rm f.multiple % 2 ^ 64) (range_for m c f)

-- ---- the active elements of an access

unfoldable pub vector_elements : VectorAccess → List ℕ → List ℕ → List ℕ → List Element
vector_elements v offsets governing stored = actives (vector_active v governing) (vector_element v offsets stored) v.count 0

unfoldable pub strided_elements : StridedAccess → ℕ → List ℕ → List Element
strided_elements s vb z = actives (between s) (strided_element s vb z) (s.nreg * s.per) 0

-- an offset's element has 8 bytes, or else 16 where the offset is the whole element, and 4 where it is extended
abbrev pub other_step : Option Extension → ℕ
other_step None = 16
other_step (Some Uxtw) = 4
other_step (Some Sxtw) = 4

-- how many bytes an element can have in memory
abbrev pub is_width : ℕ → Bool
is_width n = n == 8 || (n == 1 || (n == 16 || (n == 4 || n == 2)))

-- what holds of an access on a machine with registers of vb bytes

pub record VectorSound (v : VectorAccess) (vb : ℕ) : Type 0 where
  pub scale : v.scale < 64
  pub offset : offset_bytes v.extension ≤ v.step
  pub some : 0 < v.size
  pub size : v.size ≤ v.step
  pub steps : (v.step ≡ 8) ⊎ (v.step ≡ other_step v.extension)
  pub wide : v.step ≤ 16
  pub width : is_width v.size ≡ true
  pub doubleword : v.size ≡ 8 → v.step ≡ 8
  pub whole : v.count * v.step ≤ vb
  pub low : 16 ≤ vb
  pub high : vb ≤ 256
  pub eighth : vb % 8 ≡ 0
  pub offsets : v.offsets < 32
  pub governing : v.governing < 16
  pub stored : v.stored < 32

pub record StridedSound (s : StridedAccess) (vb : ℕ) : Type 0 where
  pub order : s.low ≤ s.high
  pub most : s.high ≤ s.nreg * s.per
  pub some : 0 < s.size
  pub size : s.size ≤ s.gap
  pub whole : s.per * s.gap ≡ vb
  pub per : 0 < s.per
  pub nreg : s.nreg ≤ 4
  pub high : vb ≤ 256
  pub last : s.first + (s.nreg - 1) * s.stride < 32
