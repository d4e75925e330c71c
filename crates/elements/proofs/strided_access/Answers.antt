-- `strided_access`: the class's numbers and the store's fields. No loop. Assumes nothing.
use Rattle.std.proofs.Common.{◌≡◌, ℕ, cond, eqb, ap, ◌∙◌}
use Rattle.encoding.specs.Encoding.{class_numbered, class_for}
use Rattle.encoding.specs.Layouts.{number_in}
use Rattle.encoding.specs.declared.Number.{Number}
use Rattle.encoding.specs.declared.Number.TheVariants.{Nreg, Size}
use Rattle.encoding.specs.declared.Store.TheVariants.{Strided}
use Rattle.encoding.proofs.Statements.{listed}
use Rattle.elements.specs.Accesses.{strided_of}
use Rattle.elements.specs.declared.StridedAccess.{StridedAccess}
use Rattle.elements.proofs.Numbers.{number_is}
use Rattle.elements.proofs.strided_access.Goals as goal
use Rattle.elements.proofs.strided_access.Goals.{Start}

-- a number of the store's class
number : (a : Start) (x : Number) (n : ℕ) → n ≡ number_in (class_numbered a.args.f.class) x
    → n ≡ number_in (class_for (Strided a.args.f)) x
number a = number_is (Strided a.args.f) a.requires

pub number_for-nreg-requires : goal.number_for-nreg-requires
number_for-nreg-requires c = listed (Strided c.args.f) c.requires

pub number_for-size-requires : goal.number_for-size-requires
number_for-size-requires c = listed (Strided c.args.f) c.requires

pub returns : goal.returns
returns c =
    let f = c.args.f in
    let registers = number (goal.at.returns c).Start Nreg c.number_for-nreg.result c.number_for-nreg.ensures in
    let stride = c.stride_of.ensures ∙ ap (λ (y : ℕ). cond (eqb y 2) 8 4) registers in
    let e : ◌≡◌ {A = StridedAccess} _ (strided_of (class_for (Strided f)) f c.args.«start» c.args.range) =
    λ i.
    record {
      start = c.args.«start»;
      low = c.args.range.low;
      high = c.args.range.high;
      gap = c.args.range.gap;
      size = number (goal.at.returns c).Start Size c.number_for-size.result c.number_for-size.ensures i;
      per = c.args.range.per;
      nreg = registers i;
      first = c.from.ensures i;
      stride = stride i;
    } in
    e
