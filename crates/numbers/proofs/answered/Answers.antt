-- `answered`: by the verdict. Assumes nothing.
use mathlib.Core.Path.{◌≡◌, refl, sym, ap, ◌∙◌}
use mathlib.Core.List.{List, [], ◌∷◌, ◌++◌}
use Prim.Native.Nat.{ℕ}
use lib.ListN.{get_or}
use Rattle.verdicts.specs.Verdicts.{number, detail}
use Rattle.verdicts.specs.declared.Refusal.{Refusal}
use Rattle.verdicts.specs.declared.Refusal.TheVariants.{Length, Registers, Window, Undefined, Illegal, Stack, Fault, Overlap, NoRoom}
use Rattle.outcomes.specs.Storing.{numbers}
use Rattle.numbers.proofs.answered.Goals as goal

abbrev six : List ℕ → List ℕ
six l = get_or l 0 0 ∷ get_or l 1 0 ∷ 0 ∷ 0 ∷ 0 ∷ 0 ∷ []

-- a detail has two entries
six-of : (r : Refusal) → six (detail r) ≡ detail r ++ (0 ∷ 0 ∷ 0 ∷ 0 ∷ [])
six-of Length = refl
six-of Registers = refl
six-of Window = refl
six-of Undefined = refl
six-of Illegal = refl
six-of Stack = refl
six-of (Fault e a) = refl
six-of (Overlap e a) = refl
six-of NoRoom = refl

pub returns-in-Ok : goal.returns-in-Ok
returns-in-Ok c = record { value = sym (ap number c.in-Ok.is); answer_after = sym (ap numbers c.in-Ok.is) }

pub returns-in-Err : goal.returns-in-Err
returns-in-Err c =
    record {
      value = c.refusal_number.ensures ∙ sym (ap number c.in-Err.is);
      answer_after = ap six c.detail_of.ensures ∙ six-of c.in-Err.refusal ∙ sym (ap numbers c.in-Err.is);
    }
