-- `number_for`: the numbers of the class's row. Assumes nothing.
use Rattle.std.proofs.Common.{◌≡◌, ℕ, ◌-◌, ◌^◌, ◌<◌, ◌≤◌, length, get_or, sym, refl, ap, ◌∙◌, arith}
use Rattle.encoding.specs.Classes.{classes, any, inside, mask_below, mask_of, has}
use Rattle.encoding.specs.Encoding.{lowest, row_numbered, class_numbered}
use Rattle.encoding.specs.Layouts.{number_in, row_in}
use Rattle.encoding.specs.declared.Number.{Number}
use Rattle.encoding.specs.declared.Number.TheVariants.{Nreg, RmValues, Step, Size, Exponent, Scale}
use Rattle.encoding.specs.declared.table.Row.{Row}
use Rattle.encoding.proofs.Rows.{rows, numbered_is, row-by-number, narrow_at}
use Rattle.encoding.proofs.number_for.Goals as goal
use Rattle.encoding.proofs.number_for.Goals.{Start}

above : (c : Start) → (1 ≤ c.args.class) × (c.args.class ≤ length classes)
above c = let e = numbered_is c.args.class c.requires in (omega (arith, e), omega (arith, e))

row-is : (c : Start) (d : Row) → get_or rows (c.args.class - 1) d ≡ row_in (class_numbered c.args.class)
row-is c d = row-by-number c.args.class d (above c).0 (above c).1

-- a number of the row is the one that is asked for
told : (c : Start) (x : Number) → c.args.number ≡ x → (f : Row → ℕ) → f (row_in (class_numbered c.args.class)) ≡ number_in (class_numbered c.args.class) x
    → (d : Row) → f (get_or rows (c.args.class - 1) d) ≡ number_in (class_numbered c.args.class) c.args.number
told c x e f q d = ap f (row-is c d) ∙ q ∙ sym (ap (number_in (class_numbered c.args.class)) e)

few : (c : Start) (d : Row) → (get_or rows (c.args.class - 1) d).layout.rm < 32
few c d =
    let n = narrow_at (row_numbered c.args.class) c.requires in
    let e = ap (λ (r : Row). r.layout.rm) (row-is c d) in
    omega (arith, n.1, e)

pub overflow_sub-row : goal.overflow_sub-row
overflow_sub-row c = (above (goal.at.overflow_sub-row c).Start).0

pub bounds-row-class : goal.bounds-row-class
unfolding classes
bounds-row-class c = let h = above (goal.at.bounds-row-class c).Start in omega arith

pub values-requires : goal.values-requires
unfolding classes any inside mask_below mask_of has lowest rows
values-requires c = few (goal.at.values-requires c).Start _

pub returns-in-Nreg : goal.returns-in-Nreg
unfolding classes any inside mask_below mask_of has lowest rows
returns-in-Nreg c = told (goal.at.returns-in-Nreg c).Start Nreg c.in-Nreg.is (λ r. r.layout.nreg) refl _

pub returns-in-RmValues : goal.returns-in-RmValues
unfolding classes any inside mask_below mask_of has lowest rows
returns-in-RmValues c =
    c.values.ensures ∙ told (goal.at.returns-in-RmValues c).Start RmValues c.in-RmValues.is (λ r. 2 ^ r.layout.rm) refl _

pub returns-in-Step : goal.returns-in-Step
unfolding classes any inside mask_below mask_of has lowest rows
returns-in-Step c = told (goal.at.returns-in-Step c).Start Step c.in-Step.is (λ r. r.step) refl _

pub returns-in-Size : goal.returns-in-Size
unfolding classes any inside mask_below mask_of has lowest rows
returns-in-Size c = told (goal.at.returns-in-Size c).Start Size c.in-Size.is (λ r. r.size) refl _

pub returns-in-Exponent : goal.returns-in-Exponent
unfolding classes any inside mask_below mask_of has lowest rows
returns-in-Exponent c = told (goal.at.returns-in-Exponent c).Start Exponent c.in-Exponent.is (λ r. r.exponent) refl _

pub returns-in-Scale : goal.returns-in-Scale
unfolding classes any inside mask_below mask_of has lowest rows
returns-in-Scale c = told (goal.at.returns-in-Scale c).Start Scale c.in-Scale.is (λ r. r.scale) refl _
