-- What the code keeps of a class. For the contracts of its own functions. Assumes nothing.
use Rattle.std.specs.Prelude.{◌≡◌, ℕ, ◌/◌, ◌^◌, ◌<◌, cond, leb, ltb, length, Option, Some, None}
use Rattle.encoding.specs.Classes.{Rm, imm4, xs, Class, classes, class_at, width}
use Rattle.encoding.specs.Decoding.{zt_of}
use Rattle.encoding.specs.Encoding.{lowest, row_numbered, class_numbered}
use Rattle.encoding.specs.declared.Layout.{Layout}
use Rattle.encoding.specs.declared.Number.{Number}
use Rattle.encoding.specs.declared.Number.TheVariants.{Nreg, RmValues, Step, Size, Exponent, Scale}
use Rattle.encoding.specs.declared.table.Row.{Row}

abbrev pub layout_of : Class → Layout
layout_of c =
    record {
      nreg = c.nreg;
      xs = width c xs;
      rm = width c Rm;
      imm4 = width c imm4;
      zt = width c (zt_of c);
    }

-- the power of 2 that a number up to 16 is
abbrev pub exponent : ℕ → ℕ
exponent n = lowest (λ v. leb n (2 ^ v)) 5

abbrev pub number_in : Class → Number → ℕ
number_in c Nreg = c.nreg
number_in c RmValues = 2 ^ width c Rm
number_in c Step = c.esize / 8
number_in c Size = c.msize / 8
number_in c Exponent = exponent (c.msize / 8)
number_in c Scale = c.scale

-- what the code keeps of a class
abbrev pub row_in : Class → Row
row_in c =
    record {
      number = c.number;
      base = c.base;
      feature = c.feature;
      layout = layout_of c;
      step = c.esize / 8;
      size = c.msize / 8;
      exponent = exponent (c.msize / 8);
      scale = c.scale;
    }

-- the row of the table with this index, None where the table has none
abbrev pub listed : ℕ → Option Row
listed k = cond (ltb k (length classes)) (Some (row_in (class_at k))) None

-- a row of the table, by its class's number
abbrev pub IsListed : Row → Type 0
IsListed r = (row_numbered r.number < length classes) × (r ≡ row_in (class_numbered r.number))
