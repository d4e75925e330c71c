-- The example, by computation. Assumes nothing.
use mathlib.Core.Path.{refl}
use mathlib.Core.List.{List, [], ◌∷◌}
use native.Mathlib.Omega.{arith}
use Rattle.endian.specs.LittleEndian.{le_bytes}
use Rattle.writes.specs.Sets.{ByteWrite, write, IsSet, join, runs}
use Rattle.writes.specs.Sizes.{max_runs, max_bytes}
use Rattle.writes.specs.Encoding.{run_then, runs_then, trailer, encode_runs, encode, PatchOf}
use Rattle.writes.specs.Examples.{example_patch}
use Rattle.comparing.specs.Comparing.{numbers_of, ComparedTo}
use Rattle.comparing.specs.Merging.{seconds, against, differences}
use Rattle.comparing.specs.Examples.{other_patch, ExampleCompared}
use Rattle.comparing.proofs.Merged.{differences-listed}

abbrev one : List ByteWrite
one = write 0x1000 0xA1 ∷ write 0x1001 0xA3 ∷ write 0x1005 0xA4 ∷ []

abbrev two : List ByteWrite
two = write 0x1000 0xA1 ∷ write 0x1001 0xA2 ∷ []

one_set : IsSet one
one_set = (
  omega arith,
  omega arith,
  omega arith,
  (omega arith, omega arith, omega arith, (omega arith, omega arith, omega arith, tt)),
)

two-set : IsSet two
two-set = (omega arith, omega arith, omega arith, (omega arith, omega arith, omega arith, tt))

first : PatchOf one example_patch
unfolding max_runs max_bytes runs join encode encode_runs runs_then run_then trailer le_bytes
first = record { within = record { set = one_set; few = omega arith; small = omega arith }; bytes = refl }

second : PatchOf two other_patch
unfolding max_runs max_bytes runs join encode encode_runs runs_then run_then trailer le_bytes
second = record { within = record { set = two-set; few = omega arith; small = omega arith }; bytes = refl }

pub example-compared : ExampleCompared
unfolding ComparedTo numbers_of differences against seconds
example-compared = (
  differences one two,
  record { one = one; two = two; first = first; second = second; lists = differences-listed one two one_set two-set },
  refl,
  omega arith,
  refl,
)
