-- `join_in_order`: stretches that ascend are in order. Assumes nothing.
use mathlib.Core.Path.{◌≡◌, sym, ◌∙◌}
use mathlib.Core.Bool.{true}
use Rattle.std.proofs.Common.{rules}
use Rattle.stretches.proofs.Joining.{ascends-sorted}
use Rattle.stretches.proofs.join_in_order.Goals as goal

pub returns-else-not-j : goal.returns-else-not-j
returns-else-not-j c =
    let j = c.join-j.ensures in
    let t : c.join-j.result.ascending ≡ true = search rules in
    (j.0, j.1 ∙ sym (ascends-sorted _ _ (sym j.2 ∙ t)))
