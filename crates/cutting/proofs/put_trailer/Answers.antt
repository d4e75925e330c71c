-- `put_trailer`: its mark, then the number of runs. Assumes nothing.
use Rattle.cutting.proofs.Putting.{trailer-put}
use Rattle.cutting.proofs.put_trailer.Goals as goal

pub returns : goal.returns
returns c =
    trailer-put _ _ _ _ _ c.requires c.put_mark.ensures c.put16.ensures
