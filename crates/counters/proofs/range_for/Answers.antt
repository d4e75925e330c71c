-- `range_for`: the counter's range over the store's elements. No loop. Assumes nothing.
use mathlib.Core.Path.{◌≡◌, ap, ap₂, ◌∙◌}
use Prim.Native.Nat.{ℕ, ◌*◌, ◌/◌, ◌%◌, ◌^◌, ◌≤◌, ◌<◌}
use native.Mathlib.Nat.{mul-le-mul, div-le_self}
use native.Mathlib.Omega.{arith}
use Rattle.encoding.specs.Encoding.{class_for}
use Rattle.encoding.specs.declared.Number.TheVariants.{Nreg, Exponent}
use Rattle.encoding.specs.declared.Store.TheVariants.{Strided}
use Rattle.encoding.proofs.Statements.{listed}
use Rattle.elements.specs.Accesses.{exponent_of, spacing, range_of}
use Rattle.elements.proofs.Shapes.{StridedIn, strided-in}
use Rattle.elements.proofs.Numbers.{number_is}
use Rattle.counters.proofs.Ranges.{power_small, range-is}
use Rattle.counters.proofs.range_for.Goals as goal
use Rattle.counters.proofs.range_for.Goals.{After-max-g, After-number_for-nreg, Start}

fields : (a : Start) → StridedIn a.args.f (class_for (Strided a.args.f))
fields a = strided-in a.args.f a.requires.f_value

pub counter_of-counter-requires : goal.counter_of-counter-requires
counter_of-counter-requires c = ((fields (goal.at.counter_of-counter-requires c).Start).pc, c.requires.le_vb.0, c.requires.le_vb.1, c.requires.le_vb.2)

pub number_for-requires : goal.number_for-requires
number_for-requires c = listed (Strided c.args.f) c.requires.f_value

exponent-is : (c : After-max-g) → c.number_for.result ≡ exponent_of (class_for (Strided c.args.f))
exponent-is c =
    number_is (Strided c.args.f) c.requires.f_value Exponent c.number_for.result c.number_for.ensures

spaced : (c : After-max-g) → c.max-g.result ≡ spacing (exponent_of (class_for (Strided c.args.f))) c.counter_of-counter.result
spaced c =
    omega (arith, exponent-is c, c.lowest_set-shift.ensures.0)

small : (c : After-max-g) → c.max-g.result < 4
small c = omega (arith, c.max-g.ensures, (exponent-is c), (strided-in c.args.f c.requires.f_value).exponent, c.lowest_set-shift.ensures.1)

pub border_of-border-requires : goal.border_of-border-requires
border_of-border-requires c =
    record {
      vb_value = (c.requires.le_vb.3, c.requires.le_vb.1);
      shift_value = (c.lowest_set-shift.ensures.0, c.lowest_set-shift.ensures.1, small (goal.at.border_of-border-requires c).After-max-g);
    }

pub overflow_shr-per : goal.overflow_shr-per
overflow_shr-per c = omega (arith, small (goal.at.overflow_shr-per c).After-max-g)

pub number_for-nreg-requires : goal.number_for-nreg-requires
number_for-nreg-requires c = listed (Strided c.args.f) c.requires.f_value

registers : (c : After-number_for-nreg) → c.number_for-nreg.result ≡ (class_for (Strided c.args.f)).nreg
registers c = number_is (Strided c.args.f) c.requires.f_value Nreg c.number_for-nreg.result c.number_for-nreg.ensures

-- at most four registers of 256 bytes
pub overflow_mul-nreg : goal.overflow_mul-nreg
overflow_mul-nreg c =
    let n : c.number_for-nreg.result ≤ 4 = omega (arith, registers (goal.at.overflow_mul-nreg c).After-number_for-nreg, (fields (goal.at.overflow_mul-nreg c).Start).small.nreg) in
    let k : c.args.vb / 2 ^ c.max-g.result ≤ 256 = omega (arith, div-le_self c.args.vb (2 ^ c.max-g.result), c.requires.le_vb.1) in
    record { fits = omega (arith, mul-le-mul n k) }

pub overflow_shl-result : goal.overflow_shl-result
overflow_shl-result c = omega (arith, small (goal.at.overflow_shl-result c).After-max-g)

pub returns : goal.returns
returns c =
    let v = c.counter_of-counter in
    let g = c.max-g.result in
    let gap : (1 * 2 ^ g) % 2 ^ 64 ≡ 2 ^ g = omega (arith, power_small g (small (goal.at.returns c).After-max-g)) in
    let e = registers (goal.at.returns c).After-number_for-nreg in
    let q = v.ensures in
    let s = spaced (goal.at.returns c).After-max-g in
    range-is c.args.vb v.result g c.number_for-nreg.result c.border_of-border.result _ _ _
    c.border_of-border.ensures gap c.bounds_of-low.ensures.0 c.bounds_of-low.ensures.1
    ∙ ap (λ (y : ℕ). range_of c.args.vb v.result y c.number_for-nreg.result) s
    ∙ ap₂
    (λ (x y : ℕ). range_of c.args.vb x (spacing (exponent_of (class_for (Strided c.args.f))) x) y) q e
