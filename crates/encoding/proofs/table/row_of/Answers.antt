-- `table::row_of`: the class with the number, by its feature. Assumes nothing.
use Rattle.std.proofs.Common.{◌≡◌, ℕ, Bool, true, false, Some, sym, ◌∙◌}
use denote.Enum.Bare.{sameb, same_true, same_false}
use Rattle.std.specs.Bool.{then_some}
use Rattle.encoding.specs.Encoding.{row_of, row_numbered}
use Rattle.encoding.specs.Layouts.{listed}
use Rattle.encoding.specs.declared.Feature.{Feature}
use Rattle.encoding.specs.declared.table.Row.{Row}
use Rattle.encoding.specs.contracts.Feature.{the_type}
use Rattle.encoding.proofs.Rows.{unlisted-of, listed-of, other-of}
use borrow.Author.Rules.{rules}
use Rattle.encoding.proofs.table.row_of.Goals as goal

pub returns-in_err-row : goal.returns-in_err-row
returns-in_err-row c =
    c.from_residual.ensures ∙ unlisted-of c.args.class c.args.feature (sym c.in_err-row.was ∙ c.row_numbered.ensures)

by-feature : (b : Bool) (n : ℕ) (x : Feature) (r : Row) → Some r ≡ listed (row_numbered n) → sameb the_type r.feature x ≡ b
    → then_some b r ≡ listed (row_of n x)
by-feature true n x r f e = listed-of n x r f (same_true the_type (search rules) _ _ e)
by-feature false n x r f e = other-of n x r f (same_false the_type _ _ e)

pub returns : goal.returns
returns c =
    c.then_some.ensures
    ∙ by-feature c.eq.result c.args.class c.args.feature c.in_ok-row.row (sym c.in_ok-row.was ∙ c.row_numbered.ensures) (sym c.eq.ensures)
