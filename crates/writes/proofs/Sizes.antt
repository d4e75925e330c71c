-- The counts of runs and payload bytes fit the two bytes that hold them. Assumes nothing.
use Prim.Native.Nat.{◌<◌}
use lib.Dec.{lit<}
use Rattle.writes.specs.Sizes.{max_runs, max_bytes}

pub runs_fit : max_runs < 65536
unfolding max_runs
runs_fit = lit< tt

pub bytes_fit : max_bytes < 65536
unfolding max_bytes
bytes_fit = lit< tt
