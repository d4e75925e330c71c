-- `decode`: the store of the class found, by its feature. Assumes nothing.
use Rattle.std.proofs.Common.{◌≡◌, sym, ◌∙◌, Some}
use Rattle.encoding.specs.Decoding.{index_of, decode_of, store_of}
use Rattle.encoding.specs.Encoding.{class_numbered}
use Rattle.encoding.specs.Layouts.{listed, IsListed}
use Rattle.encoding.specs.declared.Store.{Store}
use Rattle.encoding.proofs.Rows.{is-listed}
use Rattle.encoding.proofs.Reading.{none-found, row-decoded}
use Rattle.encoding.proofs.decode.Goals as goal
use Rattle.encoding.proofs.decode.Goals.{In_ok-row}

pub returns-in_err-row : goal.returns-in_err-row
returns-in_err-row c = c.from_residual.ensures ∙ none-found c.args.word (sym c.in_err-row.was ∙ c.row_for.ensures)

-- the row found, and what its store is
found : (c : In_ok-row) → Some c.in_ok-row.row ≡ listed (index_of c.args.word)
found c = sym c.in_ok-row.was ∙ c.row_for.ensures

is : (c : In_ok-row) → IsListed c.in_ok-row.row
is c = (is-listed (index_of c.args.word) c.in_ok-row.row (found c)).0

answers : (c : In_ok-row) (s : Store) → s ≡ store_of (class_numbered c.in_ok-row.row.number) c.args.word → Some s ≡ decode_of c.args.word
answers c s e = row-decoded c.args.word c.in_ok-row.row (found c) s e

pub scatter-requires : goal.scatter-requires
scatter-requires c = (is (goal.at.scatter-requires c).In_ok-row, c.in-SVE.is)

pub strided-requires : goal.strided-requires
strided-requires c = (is (goal.at.strided-requires c).In_ok-row, c.in-SME2.is)

pub quadword-requires : goal.quadword-requires
quadword-requires c = (is (goal.at.quadword-requires c).In_ok-row, c.in-SVE2p1.is)

pub returns-in-SVE : goal.returns-in-SVE
returns-in-SVE c = answers (goal.at.returns-in-SVE c).In_ok-row _ c.scatter.ensures

pub returns-in-SME2 : goal.returns-in-SME2
returns-in-SME2 c = answers (goal.at.returns-in-SME2 c).In_ok-row _ c.strided.ensures

pub returns-in-SVE2p1 : goal.returns-in-SVE2p1
returns-in-SVE2p1 c = answers (goal.at.returns-in-SVE2p1 c).In_ok-row _ c.quadword.ensures
