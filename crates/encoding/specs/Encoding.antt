-- The word that a decoded store is, and the causes for which there is none: document 01's row 11. Assumes nothing.
use Rattle.std.specs.Prelude.{ℕ, zero, suc, ◌+◌, ◌*◌, ◌/◌, ◌%◌, ◌^◌, Bool, true, false, not, cond, ◌&&◌, ◌||◌, List, [], ◌∷◌, eqb, leb, ltb, ℤ, pos, negsuc, length, Option, Some, None, is_none}
use Rattle.encoding.specs.Classes.{Field, Zm, Rm, imm4, xs, Pg, Pc, Rn, Zn, Zt, T, low, size, flag, Class, classes, class_at}
use Rattle.encoding.specs.Classes.{position, any, has, width}
use Rattle.encoding.specs.declared.Feature.{Feature}
use Rattle.encoding.specs.declared.Feature.TheVariants.{SVE, SME2, SVE2p1}
use Rattle.encoding.specs.Decoding.{multiple_of, zt_of}
use Rattle.encoding.specs.declared.Extension.{Extension}
use Rattle.encoding.specs.declared.Extension.TheVariants.{Uxtw, Sxtw}
use Rattle.encoding.specs.declared.Store.{Store}
use Rattle.encoding.specs.declared.Store.TheVariants.{Scatter, Strided, Quadword}

-- ---- the class

abbrev pub number_of : Store → ℕ
number_of (Scatter f) = f.class
number_of (Strided f) = f.class
number_of (Quadword f) = f.class

-- the feature whose classes have stores of this case
abbrev pub feature_of : Store → Feature
feature_of (Scatter f) = SVE
feature_of (Strided f) = SME2
feature_of (Quadword f) = SVE2p1

-- the row in the list of the class with this number, if its feature is x; the list's length where there is none
unfoldable pub row_of : ℕ → Feature → ℕ
row_of n x = position (λ c. eqb c.number n && eqb (flag c.feature) (flag x)) classes

-- a store's class: it has the store's number, and stores of its case
abbrev pub row_for : Store → ℕ
row_for s = row_of (number_of s) (feature_of s)

abbrev pub class_for : Store → Class
class_for s = class_at (row_for s)

-- the row of the class with this number, whatever its feature
unfoldable pub row_numbered : ℕ → ℕ
row_numbered n = position (λ c. eqb c.number n) classes

-- what is named of a class not in the list is refused in any case of store
abbrev pub class_numbered : ℕ → Class
class_numbered n = class_at (row_numbered n)

-- ---- the values of its fields

-- a field and its value
pub record Value : Type 0 where
  pub field : Field
  pub number : ℕ

infix 4 ◌is◌
abbrev pub ◌is◌ : Field → ℕ → Value
f is n = record { field = f; number = n }

-- the fields that a decoded store names as they are
abbrev pub numbers_in : Store → List Value
numbers_in (Scatter f) = (Zm is f.zm) ∷ (Pg is f.pg) ∷ (Rn is f.rn) ∷ (Zt is f.zt) ∷ []
numbers_in (Strided f) = (Rm is f.rm) ∷ (Pc is f.pc) ∷ (Rn is f.rn) ∷ []
numbers_in (Quadword f) = (Rm is f.rm) ∷ (Pg is f.pg) ∷ (Zn is f.zn) ∷ (Zt is f.zt) ∷ []

abbrev pub xs_of : Option Extension → ℕ
xs_of None = 0
xs_of (Some Uxtw) = 0
xs_of (Some Sxtw) = 1

abbrev pub eqℤ : ℤ → ℤ → Bool
eqℤ (pos m) (pos n) = eqb m n
eqℤ (pos m) (negsuc n) = false
eqℤ (negsuc m) (pos n) = false
eqℤ (negsuc m) (negsuc n) = eqb m n

-- the lowest number below n that passes the test; n where none does
unfoldable pub lowest : (ℕ → Bool) → ℕ → ℕ
lowest p zero = 0
lowest p (suc n) =
    let r = lowest p n in
    cond (ltb r n) r (cond (p n) n (suc n))

-- of n values of imm4, the one whose multiple z is; n where none is
unfoldable pub imm_of : ℕ → ℕ → ℤ → ℕ
imm_of nreg n z = lowest (λ v. eqℤ (multiple_of nreg v) z) n

-- all its fields
abbrev pub values_in : Class → Store → List Value
values_in c (Scatter f) = (Zm is f.zm) ∷ (xs is xs_of f.extension) ∷ (Pg is f.pg) ∷ (Rn is f.rn) ∷ (Zt is f.zt) ∷ []
values_in c (Strided f) =
    (Rm is f.rm)
    ∷ (imm4 is imm_of c.nreg (2 ^ width c imm4) f.multiple)
    ∷ (Pc is f.pc)
    ∷ (Rn is f.rn)
    ∷ (T is f.first / 16)
    ∷ (zt_of c is f.first % 16)
    ∷ []
values_in c (Quadword f) = (Rm is f.rm) ∷ (Pg is f.pg) ∷ (Zn is f.zn) ∷ (Zt is f.zt) ∷ []

-- ---- the causes of verdict 11, in the row's order

-- "a class not in the list"
abbrev pub not_listed : Store → Bool
not_listed s = leb (length classes) (row_for s)

-- "a field outside its places' range"
unfoldable pub out_of_range : Class → Store → Bool
out_of_range c s = any (λ v. has c v.field && not (ltb v.number (2 ^ size v.field))) (numbers_in s)

-- "a field other than 0 that its class lacks"
unfoldable pub lacked : Class → Store → Bool
lacked c s = any (λ v. not (has c v.field) && not (eqb v.number 0)) (numbers_in s)

-- "a first register or multiple that its class can't name": T and Zt are too small for it; no imm4 has it (a class with no imm4
-- names the multiple 0 alone)
abbrev pub unnamed : Class → Store → Bool
unnamed c (Scatter f) = false
unnamed c (Strided f) =
    not (ltb (f.first / 16) (2 ^ width c T) && ltb (f.first % 16) (2 ^ width c (zt_of c)))
    || not (ltb (imm_of c.nreg (2 ^ width c imm4) f.multiple) (2 ^ width c imm4))
unnamed c (Quadword f) = false

-- "an extension where the class has none or none where it has one"
abbrev pub misextends : Bool → Option Extension → Bool
misextends true e = is_none e
misextends false e = not (is_none e)

abbrev pub misextended : Class → Store → Bool
misextended c (Scatter f) = misextends (has c xs) f.extension
misextended c (Strided f) = false
misextended c (Quadword f) = false

unfoldable pub refused : Store → Bool
refused s =
    not_listed s || out_of_range (class_for s) s || lacked (class_for s) s || unnamed (class_for s) s || misextended (class_for s) s

-- ---- the word

-- the values' sum, each at its field's place
abbrev pub placed : List Value → ℕ
placed [] = 0
placed (v ∷ vs) = v.number * 2 ^ low v.field + placed vs

-- "The encoder answers a word or 11."
unfoldable pub encode_of : Store → Option ℕ
encode_of s = cond (refused s) None (Some ((class_for s).base + placed (values_in (class_for s) s)))
