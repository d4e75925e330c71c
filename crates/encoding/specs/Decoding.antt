-- What a word is: document 01's decoded store. Assumes nothing.
use Rattle.std.specs.Prelude.{ℕ, ◌+◌, ◌*◌, Bool, true, false, cond, eqb, ltb, ℤ, pos, ◌-ℤ◌, ◌*ℤ◌, length, Option, Some, None}
use Rattle.encoding.specs.Classes.{Field, Zm, Rm, imm4, xs, Pg, Pc, Rn, Zn, Zt, T, Zt3, Zt2, Class, classes, class_at, position}
use Rattle.encoding.specs.Classes.{belongs, has, read}
use Rattle.encoding.specs.declared.Feature.{Feature}
use Rattle.encoding.specs.declared.Feature.TheVariants.{SVE, SME2, SVE2p1}
use Rattle.encoding.specs.declared.Extension.{Extension}
use Rattle.encoding.specs.declared.Extension.TheVariants.{Uxtw, Sxtw}
use Rattle.encoding.specs.declared.Store.{Store}
use Rattle.encoding.specs.declared.Store.TheVariants.{Scatter, Strided, Quadword}

-- "for classes with an offset extension whether that is UXTW (xs 0) or SXTW (xs 1)"; None where the class has no xs
abbrev pub extension_of : Bool → ℕ → Option Extension
extension_of true v = cond (eqb v 0) (Some Uxtw) (Some Sxtw)
extension_of false v = None

-- "imm4 read as −8..7"
abbrev pub signed4 : ℕ → ℤ
signed4 v = cond (ltb v 8) (pos v) (pos v -ℤ pos 16)

-- "times 2 or 4", the number of registers, "so −16..14 or −32..28"
unfoldable pub multiple_of : ℕ → ℕ → ℤ
multiple_of nreg v = signed4 v *ℤ pos nreg

-- a strided class's Zt is Zt3 or Zt2, whichever it has
abbrev pub zt_of : Class → Field
zt_of c = cond (has c Zt3) Zt3 Zt2

-- the store of a class that a word is, by the class's feature: "A decoded store names its class, its other fields as unsigned
-- numbers (Pc as 0 to 7)", "Strided stores name their first register: T·16 + Zt. Where the form keeps room for a field that the
-- class lacks, it is 0."
abbrev pub store_as : Feature → Class → ℕ → Store
store_as SVE c w =
    Scatter (record {
      class = c.number;
      zm = read c Zm w;
      extension = extension_of (has c xs) (read c xs w);
      pg = read c Pg w;
      rn = read c Rn w;
      zt = read c Zt w;
    })
store_as SME2 c w =
    Strided (record {
      class = c.number;
      rm = read c Rm w;
      multiple = multiple_of c.nreg (read c imm4 w);
      pc = read c Pc w;
      rn = read c Rn w;
      first = read c T w * 16 + read c (zt_of c) w;
    })
store_as SVE2p1 c w =
    Quadword (record { class = c.number; rm = read c Rm w; pg = read c Pg w; zn = read c Zn w; zt = read c Zt w })

unfoldable pub store_of : Class → ℕ → Store
store_of c w = store_as c.feature c w

-- the row in the list of the class that the word belongs to; the list's length where it belongs to none
unfoldable pub index_of : ℕ → ℕ
index_of w = position (λ c. belongs c w) classes

-- "Decoding a bare word looks at no flag: it answers class and fields, or 4 when there is no class."
unfoldable pub decode_of : ℕ → Option Store
decode_of w = cond (ltb (index_of w) (length classes)) (Some (store_of (class_at (index_of w)) w)) None
