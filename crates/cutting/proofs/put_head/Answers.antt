-- `put_head`: a run's mark, start, length. Assumes nothing.
use Rattle.cutting.proofs.Putting.{head-put}
use Rattle.cutting.proofs.put_head.Goals as goal

pub returns : goal.returns
returns c =
    head-put _ _ _ _ _ _ _ c.requires c.put_mark.ensures c.put64.ensures c.put16.ensures
