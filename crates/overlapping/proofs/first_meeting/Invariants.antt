-- `first_meeting`: the first key that meets a lower one is none of the first e. Assumes nothing.
use mathlib.Core.Path.{◌≡◌}
use mathlib.Core.List.{reverse}
use lib.ListN.{take, drop}
use Rattle.overlapping.specs.Overlaps.{meeting_from, first_meeting}
use Rattle.overlapping.proofs.first_meeting.Given as goal

abbrev pub invariant-loop-e : goal.invariant-loop-e
invariant-loop-e l = meeting_from (reverse (take l.e l.keys)) (drop l.e l.keys) ≡ first_meeting l.keys
