-- `some_overlap`: those that are left and the end so far tell what all do. Assumes nothing.
use mathlib.Core.Path.{◌≡◌}
use lib.ListN.{drop}
use Rattle.overlapping.specs.Overlaps.{parted}
use Rattle.overlapping.proofs.some_overlap.Given as goal

abbrev pub invariant-loop-k : goal.invariant-loop-k
invariant-loop-k l = parted l.end (drop l.k-index l.stretches) ≡ parted 0 l.stretches
