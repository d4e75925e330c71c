-- The promises of the table of verdicts. Assumes nothing.
use mathlib.Core.Path.{◌≡◌, refl, ap, ◌∙◌}
use Rattle.std.specs.Prelude as P
use Rattle.encoding.specs.declared.Store.{Store}
use mathlib.Core.Bool.{Bool, true}
use mathlib.Core.Logic.{◌↔◌}
use mathlib.Core.Option.{Option, none, some}
use Prim.Native.Nat.{ℕ, suc}
use native.Mathlib.Omega.{arith}
use borrow.Author.Tests.{ltb-true, lt-ltb}
use lib.ListN.{length}
use Rattle.writes.specs.Elements.{Element, first_overlap}
use Rattle.elements.specs.Machine.{Machine}
use Rattle.verdicts.specs.Verdicts.{elements_for, patch_of, first_outside, fault_of, overlap_of, row, table, refusal_number, number}
use Rattle.verdicts.specs.Statements.{Given, Numbers, FirstGivenDecides, TableNumbered, TableInOrder, TableGivenWhen}
use Rattle.verdicts.specs.declared.Flags.{Flags}
use Rattle.verdicts.specs.declared.Refusal.{Refusal}
use Rattle.verdicts.proofs.Rows.{none_done, done_none, number-decides, decides-number, given_at, given_is}
use Rattle.verdicts.proofs.Words.{length-given, registers-given, window-given}
use Rattle.verdicts.proofs.Words.{undefined-given, illegal-given, stack-given, fault-given, overlap-given}

pub first-given-decides : FirstGivenDecides
first-given-decides rs done u zero = (
  (λ n h. (number-decides done zero rs u n h, decides-number done zero rs u n)),
  (done_none done zero rs u, (λ h. ap number (none_done rs done h) ∙ zero)),
)

-- one equivalence after the other
infixl 20 ◌then◌
◌then◌ : {A B C : Type 0} → A ↔ B → B ↔ C → A ↔ C
p then q = ((λ a. q.0 (p.0 a)), (λ c. p.1 (q.1 c)))

-- ---- the table

fault-number : (W L : ℕ) (o : Option Element) → refusal_number (fault_of W L o) ≡ 7
fault-number W L none = refl
fault-number W L (some x) = refl

overlap-number : (o : Option Element) → refusal_number (overlap_of o) ≡ 12
overlap-number none = refl
overlap-number (some x) = refl

line : {n : ℕ} {c : Bool} {x : Refusal} → refusal_number x ≡ suc n → Numbers (row (suc n) c x)
line e = record { same = e; some = λ q. omega arith }

pub table-numbered : TableNumbered
table-numbered f m W L d room =
    let fault = line (fault-number W L (first_outside W L (elements_for m d))) in
    let overlap = line (overlap-number (first_overlap (elements_for m d))) in
    (line refl, (line refl, (line refl, (line refl, (line refl, (line refl, (fault, (overlap, (line refl, tt)))))))))

pub table-in-order : TableInOrder
table-in-order f m W L d room = refl

-- no two lines have one number
line_of : (f : Flags) (m : Machine) (W L : ℕ) (d : P.Option Store) (room n : ℕ)
    → Given n (table f m W L d room) ↔ (given_at n (table f m W L d room) ≡ true)
line_of f m W L d room n = given_is n (table f m W L d room) refl

pub table-given-when : TableGivenWhen
table-given-when f m W L d room =
    let k = length (patch_of (elements_for m d)) in
    let line = line_of f m W L d room in
    record {
      vector_length = line 1 then length-given f.early f.streaming m.vb;
      registers = line 2 then registers-given m;
      window = line 3 then window-given W L;
      undefined = line 4 then undefined-given f d;
      illegal = line 5 then illegal-given f d;
      stack = line 6 then stack-given f m d;
      fault = line 7 then fault-given W L (elements_for m d);
      overlap = line 12 then overlap-given f (elements_for m d);
      no_room = line 8 then (ltb-true room k, lt-ltb room k);
    }
