-- `put32`: four bytes of a number, as twice two. Assumes nothing.
use Rattle.endian.proofs.Putting.{put_4}
use Rattle.endian.proofs.put32.Goals as goal

pub returns : goal.returns
returns c =
    put_4 _ _ _ _ _ c.requires c.put16.ensures c.put16-2.ensures
