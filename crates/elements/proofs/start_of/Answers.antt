-- `start_of`: the base, displaced by the multiple or indexed. No loop. Assumes nothing.
use Rattle.std.proofs.Common.{◌≡◌, ℕ, ◌≤◌, [], ℤ, nat_abs, sym, refl, subst, arith, w8, w64, SFits, to_z, of_z}
use Rattle.std.proofs.lemmas.Int.{to_z-of_z}
use Rattle.encoding.specs.Encoding.{class_numbered, class_for}
use Rattle.encoding.specs.Layouts.{number_in}
use Rattle.encoding.specs.declared.Number.{Number}
use Rattle.encoding.specs.declared.Number.TheVariants.{RmValues, Scale}
use Rattle.encoding.specs.declared.Store.TheVariants.{Strided}
use Rattle.encoding.proofs.Statements.{listed}
use Rattle.elements.specs.Machine.{Machine, machine}
use Rattle.elements.proofs.Shapes.{StridedIn, strided-in}
use Rattle.elements.proofs.Numbers.{number_is, start-displaced, start-indexed}
use Rattle.elements.proofs.start_of.Goals as goal
use Rattle.elements.proofs.start_of.Goals.{Start, After-from}

fields : (a : Start) → StridedIn a.args.f (class_for (Strided a.args.f))
fields a = strided-in a.args.f a.requires.0

-- a number of the store's class
number : (a : Start) (x : Number) (n : ℕ) → n ≡ number_in (class_numbered a.args.f.class) x
    → n ≡ number_in (class_for (Strided a.args.f)) x
number a = number_is (Strided a.args.f) a.requires.0

abbrev lent : Start → Machine
lent a = machine a.args.vb a.args.x.now a.args.sp [] []

pub general-start-requires : goal.general-start-requires
general-start-requires c = (fields (goal.at.general-start-requires c).Start).rn

pub number_for-requires : goal.number_for-requires
number_for-requires c = listed (Strided c.args.f) c.requires.0

-- the multiple, widened
widened : (z w : ℤ) → SFits w8 z → w ≡ to_z w8 (of_z w8 z) → to_z w64 (of_z w64 w) ≡ z
widened z w f e = rw (e, to_z-of_z w8 z f) (to_z-of_z w64 z (record { sfits = omega arith }))

multiple : (c : After-from) → to_z w64 (of_z w64 c.from.result) ≡ c.args.f.multiple
multiple c = widened c.args.f.multiple c.from.result (record { sfits = omega arith }) c.from.ensures

pub displaced-requires : goal.displaced-requires
displaced-requires c =
    (subst (λ (z : ℤ). nat_abs z ≤ 64) (sym (multiple (goal.at.displaced-requires c).After-from)) (fields (goal.at.displaced-requires c).Start).multiple, c.requires.1)

pub returns-then-number_for-eq1 : goal.returns-then-number_for-eq1
returns-then-number_for-eq1 c =
    let a = goal.at.returns-then-number_for-eq1 c in
    let f = c.args.f in
    start-displaced (lent a.Start) (class_for (Strided f)) f.rn f.rm f.multiple
    c.number_for.result (number a.Start RmValues c.number_for.result c.number_for.ensures) c.if-number_for-eq1.true
    c.general-start.result c.general-start.ensures _ (multiple a.After-from) c.displaced.result c.displaced.ensures

-- ---- an index in Rm
pub general-index-requires : goal.general-index-requires
general-index-requires c = (fields (goal.at.general-index-requires c).Start).rm

pub number_for-scale-requires : goal.number_for-scale-requires
number_for-scale-requires c = listed (Strided c.args.f) c.requires.0

pub scaled-requires : goal.scaled-requires
scaled-requires c =
    let a = (goal.at.scaled-requires c).Start in
    omega (arith, number a Scale c.number_for-scale.result c.number_for-scale.ensures, (fields a).small.scale)

pub returns : goal.returns
returns c =
    let a = (goal.at.returns c).Start in
    let f = c.args.f in
    start-indexed (lent a) (class_for (Strided f)) f.rn f.rm f.multiple
    c.number_for.result (number a RmValues c.number_for.result c.number_for.ensures) c.if-number_for-eq1.false
    c.general-start.result c.general-start.ensures c.general-index.result c.general-index.ensures
    c.number_for-scale.result (number a Scale c.number_for-scale.result c.number_for-scale.ensures) c.scaled.result c.scaled.ensures _ refl
