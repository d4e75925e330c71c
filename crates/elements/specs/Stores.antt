-- What a decoded store's elements are on a machine: document 01, 'Steps of one store'. Element e's data, address and activity.
-- Assumes nothing.
use Rattle.std.specs.Prelude.{ℕ, ◌+◌, ◌-◌, ◌*◌, ◌/◌, ◌%◌, ◌^◌, Bool, cond, List, take, drop, ℤ, pos, ◌*ℤ◌, ◌==◌, nat_lt, Option, Some, None}
use Rattle.std.specs.Int.{w64}
use Rattle.std.proofs.Common.{of_z}
use Rattle.encoding.specs.Classes.{Rm, Class, has}
use Rattle.encoding.specs.Encoding.{class_for}
use Rattle.encoding.specs.declared.Extension.{Extension}
use Rattle.encoding.specs.declared.Extension.TheVariants.{Uxtw, Sxtw}
use Rattle.encoding.specs.declared.Store.{Store}
use Rattle.encoding.specs.declared.Store.TheVariants.{Scatter, Strided, Quadword}
use Rattle.endian.specs.LittleEndian.{le_val}
use Rattle.elements.specs.Machine.{Machine, base_of, index_of, vector, predicate, bit_at}
use Rattle.elements.specs.Counter.{counter_of, mask_bit}

-- an element's bytes in its register, and how many of them go to memory: esize/8, msize/8
abbrev pub step_of : Class → ℕ
step_of c = c.esize / 8

abbrev pub size_of : Class → ℕ
size_of c = c.msize / 8

-- "Elements are VB·8/esize in number", in each register
abbrev pub per_register : Machine → Class → ℕ
per_register m c = m.vb * 8 / c.esize

-- a strided store's elements are numbered "through all its registers"
abbrev pub count_of : Machine → Store → ℕ
count_of m s = (class_for s).nreg * per_register m (class_for s)

-- ---- activity

-- "element e is active when bit e·esize/8 is 1"; "Element r·(VB/8) + e is active when its bit at 8 times that number is set.", and of
-- narrower strided elements (document 02 (vii)): "an element's mask bit is its number times those bytes", the element's
abbrev pub active_in : Machine → Class → Store → ℕ → Bool
active_in m c (Scatter f) e = bit_at (predicate m f.pg) (e * step_of c)
active_in m c (Strided f) e = mask_bit m.vb (counter_of m f.pc) (e * step_of c)
active_in m c (Quadword f) e = bit_at (predicate m f.pg) (e * step_of c)

-- ---- addresses

-- the low 32 bits of an offset element, "extended as named", or the whole 64-bit element
abbrev pub signed32 : ℕ → ℕ
signed32 v = cond (nat_lt v (2 ^ 31)) v (v + (2 ^ 64 - 2 ^ 32))

abbrev pub offset_of : Option Extension → ℕ → ℕ
offset_of None v = v
offset_of (Some Uxtw) v = v % 2 ^ 32
offset_of (Some Sxtw) v = signed32 (v % 2 ^ 32)

-- element e of a register, as a number
abbrev pub element_in : List ℕ → ℕ → ℕ → ℕ
element_in reg n e = le_val (take n (drop (e * n) reg))

-- "Register r of a strided store is first + 8r for two and first + 4r for four."
abbrev pub stride_of : Class → ℕ
stride_of c = cond (c.nreg == 2) 8 4

-- "Strided: base plus X[m]·8, or base plus imm4·nreg·VB with imm4 signed": the multiple is imm4·nreg, and
-- `of_z w64` is a small signed number modulo 2^64. "The scalar index and the step from element to element are the element's bytes"; "the
-- immediate displacement is unchanged" (document 02 (vii)).
abbrev pub start_of : Machine → Class → ℕ → ℕ → ℤ → ℕ
start_of m c rn rm multiple = base_of m rn + cond (has c Rm) (index_of m rm * 2 ^ c.scale) (of_z w64 (multiple *ℤ pos m.vb))

-- "all modulo 2^64. Classes 1 to 7: base plus offset times 2^scale", and 13 to 24 (document 02 (i)); "Class 12: 64-bit element 2e of Zn
-- plus X[m]"; strided "then 8 more for each element, active or not", or the element's bytes ((vii))
abbrev pub address_in : Machine → Class → Store → ℕ → ℕ
address_in m c (Scatter f) e =
    (base_of m f.rn + offset_of f.extension (element_in (vector m f.zm) (step_of c) e) * 2 ^ c.scale) % 2 ^ 64
address_in m c (Strided f) e = (start_of m c f.rn f.rm f.multiple + e * step_of c) % 2 ^ 64
address_in m c (Quadword f) e = (element_in (vector m f.zn) 8 (2 * e) + index_of m f.rm) % 2 ^ 64

-- ---- data: the register that holds element e, and where in it the element starts

abbrev pub register_in : Machine → Class → Store → ℕ → ℕ
register_in m c (Scatter f) e = f.zt
register_in m c (Strided f) e = f.first + e / per_register m c * stride_of c
register_in m c (Quadword f) e = f.zt

abbrev pub index_in : Machine → Class → Store → ℕ → ℕ
index_in m c (Scatter f) e = e * step_of c
index_in m c (Strided f) e = e % per_register m c * step_of c
index_in m c (Quadword f) e = e * step_of c
