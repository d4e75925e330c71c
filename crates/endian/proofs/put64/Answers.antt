-- `put64`: eight bytes of a number, as twice four. Assumes nothing.
use Rattle.endian.proofs.Putting.{put-8}
use Rattle.endian.proofs.put64.Goals as goal

pub returns : goal.returns
returns c =
    put-8 _ _ _ _ _ c.requires c.put32.ensures c.put32-2.ensures
