-- `put_headed`: a run's head as two numbers, and its payload out of memory. No loop. Assumes nothing.
use Rattle.cutting.proofs.Copying.{headed-put}
use Rattle.cutting.proofs.put_headed.Goals as goal

pub returns : goal.returns
returns c =
    let p = c.requires in
    headed-put _ _ _ _ _ _ _ _ _ _ p.2 p.1 c.put64.ensures c.put32.ensures c.copy_at.ensures
