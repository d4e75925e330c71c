-- The starred cases, computed. Assumes nothing.
use mathlib.Core.Path.{refl}
use Rattle.encoding.specs.Classes.{classes, class_at, position, any, every_below, inside, belongs, has}
use Rattle.encoding.specs.Decoding.{multiple_of, store_of, index_of, decode_of}
use Rattle.encoding.specs.Encoding.{row_of, lowest}
use Rattle.endian.specs.LittleEndian.{le_val, le_bytes}
use Rattle.writes.specs.Sets.{join, runs, writes_at}
use Rattle.writes.specs.Elements.{written, below, from, splice, splice_all, steps_from, covers_some, shares_with, overlap_from}
use Rattle.endian.specs.Overwriting.{overwritten}
use Rattle.writes.specs.Encoding.{run_then, runs_then, trailer, encode_runs, encode}
use Rattle.window.specs.Window.{window_ok, in_window, outside_from}
use Rattle.elements.specs.Machine.{bit_at}
use Rattle.elements.specs.Counter.{lowest_set, highest, count_in, mask_bit}
use Rattle.elements.specs.Elements.{active_at, element_at, actives, elements}
use Rattle.verdicts.specs.Verdicts.{patch_of, one_of_five, length_ok, registers_ok, first_outside, decided, verdict_of}
use Rattle.starred.specs.Cases.{cases, StarredCases}

pub starred-cases : StarredCases
unfolding classes class_at position any every_below inside belongs has multiple_of store_of index_of decode_of row_of le_val
    le_bytes join runs writes_at overwritten written below from splice splice_all run_then runs_then trailer encode_runs encode
    window_ok in_window outside_from bit_at lowest_set lowest highest count_in mask_bit active_at element_at actives elements
    patch_of one_of_five length_ok registers_ok first_outside decided verdict_of steps_from covers_some shares_with overlap_from
    cases
starred-cases = refl
