-- `is_applied`, which has no loop: done by its number. Assumes nothing.
use mathlib.Core.Bool.{Bool, true}
use mathlib.Core.Logic.{◌↔◌}
use mathlib.Core.Path.{◌≡◌, refl}
use native.Mathlib.Omega.{arith}
use Rattle.std.specs.Prelude.{Ok, Err, is_ok}
use Rattle.endian.proofs.Order.{absurdly}
use Rattle.patch.specs.Answers.{applied_number}
use Rattle.patch.specs.Applying.{Applied}
use Rattle.patch.specs.declared.ApplyError.TheVariants.{Window, BadPatch, Outside}
use Rattle.replaying.proofs.is_applied.Goals as goal

numbered : (a : Applied) (r : Bool) → r ≡ is_ok a → (r ≡ true) ↔ (applied_number a ≡ 0)
numbered (Ok z) r e = ((λ t. refl), (λ t. e))
numbered (Err Window) r e = ((λ t. absurdly cc), (λ t. absurd (omega (arith, t))))
numbered (Err BadPatch) r e = ((λ t. absurdly cc), (λ t. absurd (omega (arith, t))))
numbered (Err (Outside k a)) r e = ((λ t. absurdly cc), (λ t. absurd (omega (arith, t))))

pub returns : goal.returns
returns c =
    let a = c.apply in
    record { answer = a.result; outcome = a.ensures; done = numbered a.result _ c.is_ok.ensures.value }
