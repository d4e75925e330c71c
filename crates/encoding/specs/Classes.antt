-- Document 01, 'The instructions covered': the fields and their places, the table of classes, and when a word belongs to one.
-- Assumes nothing.
use Rattle.std.specs.Prelude.{ℕ, zero, suc, ◌+◌, ◌-◌, ◌/◌, ◌%◌, ◌^◌, Bool, true, false, cond, ◌&&◌, ◌||◌, List, [], ◌∷◌, eqb, leb, get_or}
use Rattle.encoding.specs.declared.Feature.{Feature}
use Rattle.encoding.specs.declared.Feature.TheVariants.{SVE, SME2, SVE2p1}

-- ---- fields and places

pub data Field : Type 0 where
  Zm Rm imm4 xs Pg Pc Rn Zn Zt T Zt3 Zt2 : Field

-- "Places: Zm and Rm bits 20..16; imm4 19..16; xs 14; Pg and Pc (the counter's register less 8) 12..10; Rn and Zn 9..5; Zt 4..0;
-- T 4; Zt3 2..0; Zt2 1..0."
abbrev pub high : Field → ℕ
high Zm = 20
high Rm = 20
high imm4 = 19
high xs = 14
high Pg = 12
high Pc = 12
high Rn = 9
high Zn = 9
high Zt = 4
high T = 4
high Zt3 = 2
high Zt2 = 1

abbrev pub low : Field → ℕ
low Zm = 16
low Rm = 16
low imm4 = 16
low xs = 14
low Pg = 10
low Pc = 10
low Rn = 5
low Zn = 5
low Zt = 0
low T = 4
low Zt3 = 0
low Zt2 = 0

-- how many bits the field's places are
abbrev pub size : Field → ℕ
size f = high f + 1 - low f

-- a number for each field, by which two are compared
abbrev pub index : Field → ℕ
index Zm = 0
index Rm = 1
index imm4 = 2
index xs = 3
index Pg = 4
index Pc = 5
index Rn = 6
index Zn = 7
index Zt = 8
index T = 9
index Zt3 = 10
index Zt2 = 11

-- ---- the table

-- a class's feature is the flag that it needs (document 01, verdict 4): "SVE for 1..7, SME2 for 8..11, SVE2p1 for 12"; of 13 to 24
-- (document 02 (i)): "All need the SVE flag"; of 25 to 36 ((vii)): "All need SME2". Its number among the flags, in document 01's order, by
-- which two are compared:
abbrev pub flag : Feature → ℕ
flag SVE = 0
flag SME2 = 1
flag SVE2p1 = 2

pub record Class : Type 0 where
  pub number : ℕ
  pub base : ℕ
  pub fields : List Field
  pub esize : ℕ
  pub msize : ℕ
  pub scale : ℕ
  pub nreg : ℕ
  pub feature : Feature

abbrev pub class : ℕ → ℕ → List Field → ℕ → ℕ → ℕ → ℕ → Feature → Class
class n b fs e m s r x = record { number = n; base = b; fields = fs; esize = e; msize = m; scale = s; nreg = r; feature = x }

-- Document 01's table, line by line: number, base word, fields, esize, msize, scale, number of registers, feature. The scale is
-- "3 in classes 1 and 3, otherwise 0" for classes 1 to 7; strided stores scale X[m] by 8, which is 3 too. Behind it document 02's (i):
-- "Add ST1H as classes 13 to 18 and ST1W as 19 to 24, scalar plus vector, each in this order: unpacked scaled and unscaled, 64-bit
-- scaled and unscaled, and the .S forms scaled and unscaled. They are the pattern of classes 1 to 7 with bits 24..23 as 01 or 10 and
-- bits 22..21 as 00 (.D unscaled), 01 (.D scaled), 10 (.S unscaled), 11 (.S scaled); the scale is 1 or 2." And (vii)'s: "Add the
-- strided ST1B, ST1H and ST1W as classes 25 to 28, 29 to 32 and 33 to 36, each with the forms of 8 to 11 in that order, with bits 14..13
-- as 00, 01, 10"; "The scalar index and the step from element to element are the element's bytes".
unfoldable pub classes : List Class
classes =
    class 1 0xE5A08000 (Zm ∷ xs ∷ Pg ∷ Rn ∷ Zt ∷ []) 64 64 3 1 SVE
    ∷ class 2 0xE5808000 (Zm ∷ xs ∷ Pg ∷ Rn ∷ Zt ∷ []) 64 64 0 1 SVE
    ∷ class 3 0xE5A0A000 (Zm ∷ Pg ∷ Rn ∷ Zt ∷ []) 64 64 3 1 SVE
    ∷ class 4 0xE580A000 (Zm ∷ Pg ∷ Rn ∷ Zt ∷ []) 64 64 0 1 SVE
    ∷ class 5 0xE4008000 (Zm ∷ xs ∷ Pg ∷ Rn ∷ Zt ∷ []) 64 8 0 1 SVE
    ∷ class 6 0xE4408000 (Zm ∷ xs ∷ Pg ∷ Rn ∷ Zt ∷ []) 32 8 0 1 SVE
    ∷ class 7 0xE400A000 (Zm ∷ Pg ∷ Rn ∷ Zt ∷ []) 64 8 0 1 SVE
    ∷ class 8 0xA1206000 (Rm ∷ Pc ∷ Rn ∷ T ∷ Zt3 ∷ []) 64 64 3 2 SME2
    ∷ class 9 0xA120E000 (Rm ∷ Pc ∷ Rn ∷ T ∷ Zt2 ∷ []) 64 64 3 4 SME2
    ∷ class 10 0xA1606000 (imm4 ∷ Pc ∷ Rn ∷ T ∷ Zt3 ∷ []) 64 64 0 2 SME2
    ∷ class 11 0xA160E000 (imm4 ∷ Pc ∷ Rn ∷ T ∷ Zt2 ∷ []) 64 64 0 4 SME2
    ∷ class 12 0xE4202000 (Rm ∷ Pg ∷ Zn ∷ Zt ∷ []) 128 128 0 1 SVE2p1
    ∷ class 13 0xE4A08000 (Zm ∷ xs ∷ Pg ∷ Rn ∷ Zt ∷ []) 64 16 1 1 SVE
    ∷ class 14 0xE4808000 (Zm ∷ xs ∷ Pg ∷ Rn ∷ Zt ∷ []) 64 16 0 1 SVE
    ∷ class 15 0xE4A0A000 (Zm ∷ Pg ∷ Rn ∷ Zt ∷ []) 64 16 1 1 SVE
    ∷ class 16 0xE480A000 (Zm ∷ Pg ∷ Rn ∷ Zt ∷ []) 64 16 0 1 SVE
    ∷ class 17 0xE4E08000 (Zm ∷ xs ∷ Pg ∷ Rn ∷ Zt ∷ []) 32 16 1 1 SVE
    ∷ class 18 0xE4C08000 (Zm ∷ xs ∷ Pg ∷ Rn ∷ Zt ∷ []) 32 16 0 1 SVE
    ∷ class 19 0xE5208000 (Zm ∷ xs ∷ Pg ∷ Rn ∷ Zt ∷ []) 64 32 2 1 SVE
    ∷ class 20 0xE5008000 (Zm ∷ xs ∷ Pg ∷ Rn ∷ Zt ∷ []) 64 32 0 1 SVE
    ∷ class 21 0xE520A000 (Zm ∷ Pg ∷ Rn ∷ Zt ∷ []) 64 32 2 1 SVE
    ∷ class 22 0xE500A000 (Zm ∷ Pg ∷ Rn ∷ Zt ∷ []) 64 32 0 1 SVE
    ∷ class 23 0xE5608000 (Zm ∷ xs ∷ Pg ∷ Rn ∷ Zt ∷ []) 32 32 2 1 SVE
    ∷ class 24 0xE5408000 (Zm ∷ xs ∷ Pg ∷ Rn ∷ Zt ∷ []) 32 32 0 1 SVE
    ∷ class 25 0xA1200000 (Rm ∷ Pc ∷ Rn ∷ T ∷ Zt3 ∷ []) 8 8 0 2 SME2
    ∷ class 26 0xA1208000 (Rm ∷ Pc ∷ Rn ∷ T ∷ Zt2 ∷ []) 8 8 0 4 SME2
    ∷ class 27 0xA1600000 (imm4 ∷ Pc ∷ Rn ∷ T ∷ Zt3 ∷ []) 8 8 0 2 SME2
    ∷ class 28 0xA1608000 (imm4 ∷ Pc ∷ Rn ∷ T ∷ Zt2 ∷ []) 8 8 0 4 SME2
    ∷ class 29 0xA1202000 (Rm ∷ Pc ∷ Rn ∷ T ∷ Zt3 ∷ []) 16 16 1 2 SME2
    ∷ class 30 0xA120A000 (Rm ∷ Pc ∷ Rn ∷ T ∷ Zt2 ∷ []) 16 16 1 4 SME2
    ∷ class 31 0xA1602000 (imm4 ∷ Pc ∷ Rn ∷ T ∷ Zt3 ∷ []) 16 16 0 2 SME2
    ∷ class 32 0xA160A000 (imm4 ∷ Pc ∷ Rn ∷ T ∷ Zt2 ∷ []) 16 16 0 4 SME2
    ∷ class 33 0xA1204000 (Rm ∷ Pc ∷ Rn ∷ T ∷ Zt3 ∷ []) 32 32 2 2 SME2
    ∷ class 34 0xA120C000 (Rm ∷ Pc ∷ Rn ∷ T ∷ Zt2 ∷ []) 32 32 2 4 SME2
    ∷ class 35 0xA1604000 (imm4 ∷ Pc ∷ Rn ∷ T ∷ Zt3 ∷ []) 32 32 0 2 SME2
    ∷ class 36 0xA160C000 (imm4 ∷ Pc ∷ Rn ∷ T ∷ Zt2 ∷ []) 32 32 0 4 SME2
    ∷ []

-- what stands past the end of the list: no class, with no fields
abbrev pub no_class : Class
no_class = class 0 0 [] 0 0 0 0 SVE

-- the class in this row of the list, counted from 0
unfoldable pub class_at : ℕ → Class
class_at k = get_or classes k no_class

-- the row of the first class that passes the test; the list's length where none does
unfoldable pub position : (Class → Bool) → List Class → ℕ
position p [] = 0
position p (c ∷ cs) = cond (p c) 0 (suc (position p cs))

-- ---- membership

-- the test passes at some element
unfoldable pub any : {A : Type 0} → (A → Bool) → List A → Bool
any p [] = false
any p (x ∷ l) = p x || any p l

-- the test passes at every number below n
unfoldable pub every_below : ℕ → (ℕ → Bool) → Bool
every_below zero p = true
every_below (suc n) p = p n && every_below n p

abbrev pub bit : ℕ → ℕ → ℕ
bit w i = w / 2 ^ i % 2

-- bit i lies in one of the fields
unfoldable pub inside : List Field → ℕ → Bool
inside fs i = any (λ f. leb (low f) i && leb i (high f)) fs

-- "A word belongs to a class when every bit outside the listed fields equals that bit of the base word."
unfoldable pub belongs : Class → ℕ → Bool
belongs c w = every_below 32 (λ i. inside c.fields i || eqb (bit w i) (bit c.base i))

-- a class's mask: 1 at each of the 32 bits that lie outside its fields
unfoldable pub mask_below : ℕ → List Field → ℕ
mask_below zero fs = 0
mask_below (suc n) fs = cond (inside fs n) 0 (2 ^ n) + mask_below n fs

unfoldable pub mask_of : Class → ℕ
mask_of c = mask_below 32 c.fields

-- ---- fields of a class

unfoldable pub has : Class → Field → Bool
has c f = any (λ g. eqb (index f) (index g)) c.fields

-- how many bits a field has in a class: none where the class lacks it
abbrev pub width : Class → Field → ℕ
width c f = cond (has c f) (size f) 0

-- the field's value in a word: 0 where the class lacks it
abbrev pub read : Class → Field → ℕ → ℕ
read c f w = w / 2 ^ low f % 2 ^ width c f
