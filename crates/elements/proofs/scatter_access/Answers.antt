-- `scatter_access`: the class's numbers and the store's fields. No loop. Assumes nothing.
use Rattle.std.proofs.Common.{◌≡◌, ℕ, [], arith}
use Rattle.encoding.specs.Encoding.{class_numbered, class_for}
use Rattle.encoding.specs.Layouts.{number_in}
use Rattle.encoding.specs.declared.Number.{Number}
use Rattle.encoding.specs.declared.Number.TheVariants.{Scale, Step, Size}
use Rattle.encoding.specs.declared.Store.TheVariants.{Scatter}
use Rattle.encoding.proofs.Statements.{listed}
use Rattle.elements.specs.Machine.{machine}
use Rattle.elements.specs.Accesses.{scatter_access}
use Rattle.elements.specs.declared.VectorAccess.{VectorAccess}
use Rattle.elements.proofs.Shapes.{ScatterIn, scatter-in}
use Rattle.elements.proofs.Numbers.{number_is, pers}
use Rattle.elements.proofs.scatter_access.Goals as goal
use Rattle.elements.proofs.scatter_access.Goals.{Start}

fields : (a : Start) → ScatterIn a.args.f (class_for (Scatter a.args.f))
fields a = scatter-in a.args.f a.requires.0

-- a number of the store's class
number : (a : Start) (x : Number) (n : ℕ) → n ≡ number_in (class_numbered a.args.f.class) x
    → n ≡ number_in (class_for (Scatter a.args.f)) x
number a = number_is (Scatter a.args.f) a.requires.0

pub general-base-requires : goal.general-base-requires
general-base-requires c = (fields (goal.at.general-base-requires c).Start).rn

pub number_for-step-requires : goal.number_for-step-requires
number_for-step-requires c = listed (Scatter c.args.f) c.requires.0

pub number_for-size-requires : goal.number_for-size-requires
number_for-size-requires c = listed (Scatter c.args.f) c.requires.0

pub number_for-scale-requires : goal.number_for-scale-requires
number_for-scale-requires c = listed (Scatter c.args.f) c.requires.0

pub nonzero_div-result : goal.nonzero_div-result
nonzero_div-result c =
    omega (arith, number (goal.at.nonzero_div-result c).Start Step c.number_for-step.result c.number_for-step.ensures, (fields (goal.at.nonzero_div-result c).Start).four)

pub returns : goal.returns
returns c =
    let f = c.args.f in
    let vb = c.args.vb in
    let step = number (goal.at.returns c).Start Step c.number_for-step.result c.number_for-step.ensures in
    let e : ◌≡◌ {A = VectorAccess} _ (scatter_access (machine vb c.args.x.now c.args.sp [] []) (class_for (Scatter f)) f) =
    λ i.
    record {
      base = c.general-base.ensures i;
      extension = f.extension;
      scale = number (goal.at.returns c).Start Scale c.number_for-scale.result c.number_for-scale.ensures i;
      step = step i;
      size = number (goal.at.returns c).Start Size c.number_for-size.result c.number_for-size.ensures i;
      count = pers vb (class_for (Scatter f)) (fields (goal.at.returns c).Start).eight c.number_for-step.result step i;
      offsets = c.from.ensures i;
      governing = c.from-2.ensures i;
      stored = c.from-3.ensures i;
    } in
    e
