-- `put_run`: a run's head, and its payload out of memory. No loop. Assumes nothing.
use Rattle.cutting.proofs.Copying.{run-put}
use Rattle.cutting.proofs.put_run.Goals as goal

pub returns : goal.returns
returns c =
    let p = c.requires in
    run-put _ _ _ _ _ _ _ _ p.2 p.1 c.put_head.ensures c.copy_at.ensures
