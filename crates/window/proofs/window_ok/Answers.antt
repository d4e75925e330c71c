-- `window_ok`: the window's test, by comparisons that stay below 2^64. Assumes nothing.
use Rattle.std.proofs.Common.{sym, arith}
use Rattle.window.proofs.Windows.{window-true, window-false}
use Rattle.window.proofs.window_ok.Goals as goal

pub returns-then-len-gt65536 : goal.returns-then-len-gt65536
returns-then-len-gt65536 c = sym (window-false _ _ (λ h. omega arith))

pub returns-then-len-eq0 : goal.returns-then-len-eq0
returns-then-len-eq0 c = sym (window-true _ _ (omega arith) (omega arith))

pub returns-then-base-len : goal.returns-then-base-len
returns-then-base-len c = sym (window-false _ _ (λ h. omega arith))

pub returns : goal.returns
returns c = sym (window-true _ _ (omega arith) (omega arith))
