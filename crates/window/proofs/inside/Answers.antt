-- `inside`: the test of some bytes against the window, by comparisons that stay below 2^64. Assumes nothing.
use Rattle.std.proofs.Common.{sym, arith}
use Rattle.window.proofs.Windows.{in-window, not-in-window}
use Rattle.window.proofs.inside.Goals as goal

pub returns-then-start-base : goal.returns-then-start-base
returns-then-start-base c = sym (not-in-window _ _ _ _ (λ h. omega arith))

pub returns-then-room-offset : goal.returns-then-room-offset
returns-then-room-offset c = sym (not-in-window _ _ _ _ (λ h. omega arith))

pub returns-then-room-offset-2 : goal.returns-then-room-offset-2
returns-then-room-offset-2 c = sym (not-in-window _ _ _ _ (λ h. omega arith))

pub returns : goal.returns
returns c = sym (in-window _ _ _ _ (omega arith) (omega arith))
