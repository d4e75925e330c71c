-- The search for an element outside the window. For the contracts of the code's own functions. Assumes nothing.
use Rattle.std.specs.Prelude.{ℕ, List, ◌≡◌, Result, MatchResult}
use Rattle.std.proofs.Math.Option.{none, some}
use Rattle.writes.specs.Elements.{Element}
use Rattle.verdicts.specs.declared.Outside.{Outside}
use Rattle.verdicts.specs.Verdicts.{first_outside}

-- all elements lie in the window, or the lowest that doesn't
abbrev pub SearchedAs : {X : Type 0} → ℕ → ℕ → List Element → Result X Outside → Type 0
SearchedAs W L es r =
    MatchResult r (λ _. first_outside W L es ≡ none)
    (λ o. (x : Element) × (first_outside W L es ≡ some x) × (o.element ≡ x.number) × (o.address ≡ x.address))
