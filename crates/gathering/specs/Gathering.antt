-- What gathering answers of a list of active elements. For the contracts of the code's own functions. Assumes nothing.
use Rattle.std.specs.Prelude.{◌≡◌, ℕ, ◌≤◌, List, length, take, Result, Ok, Err}
use Rattle.std.proofs.Math.Option.{none, some}
use Rattle.writes.specs.Elements.{Element}
use Rattle.stretches.specs.Stretches.{keys_of}
use Rattle.verdicts.specs.Verdicts.{first_outside}
use Rattle.verdicts.specs.declared.Outside.{Outside}

-- all lie in the window of L bytes at W, and the array's first n entries are their keys; or the lowest that doesn't. The array's other
-- entries are left free: they are numbers of its type, and nobody reads them
unfoldable pub GatheredAs : ℕ → ℕ → ℕ → List Element → List ℕ → Result ℕ Outside → Type 0
GatheredAs W L size es A (Ok n) = (first_outside W L es ≡ none) × (n ≤ length A) × (take n A ≡ keys_of W size es)
GatheredAs W L size es A (Err o) = (x : Element) × (first_outside W L es ≡ some x) × (o.element ≡ x.number) × (o.address ≡ x.address)
