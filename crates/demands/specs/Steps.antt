-- Document 02 (iv): "make that inner step take a stretch at once: active elements, each starting where the active one before it ends. The
-- steps are counted for a test, and proved to be as many as the active elements that don't start so: one for a whole register that is
-- contiguous and active." That a done store answers `steps_of` its elements says `CountsOfDone` of demand 2. Assumes nothing.
use Rattle.std.specs.Prelude.{ℕ, suc, ◌+◌, ◌≤◌, ◌<◌, true, false, ◌≡◌, length, Some}
use Rattle.encoding.specs.Decoding.{decode_of}
use Rattle.encoding.specs.declared.Store.{Store}
use Rattle.writes.specs.Sets.{runs}
use Rattle.writes.specs.Elements.{net_effect, steps_of}
use Rattle.elements.specs.Machine.{Machine}
use Rattle.elements.specs.Stores.{count_of}
use Rattle.elements.specs.Elements.{active_at, element_at, elements}
use Rattle.verdicts.specs.declared.Flags.{Flags}
use Rattle.demands.specs.Demand3.{DoneOver}

-- each element of a store starts where the one before it ends
abbrev pub Contiguous : Machine → Store → Type 0
Contiguous m s =
    (e : ℕ) → suc e < count_of m s → (element_at m s (suc e)).address ≡ (element_at m s e).address + length (element_at m s e).bytes

pub record StepsCounted : Type 0 where
  -- "one for a whole register that is contiguous and active", at any vector length and of any width
  pub one : (m : Machine) (s : Store) → 0 < count_of m s → ((e : ℕ) → e < count_of m s → active_at m s e ≡ true) → Contiguous m s
      → steps_of (elements m s) ≡ 1
  -- none where nothing is active
  pub none : (m : Machine) (s : Store) → ((e : ℕ) → e < count_of m s → active_at m s e ≡ false) → steps_of (elements m s) ≡ 0
  -- no more than active elements
  pub most : (m : Machine) (s : Store) → steps_of (elements m s) ≤ length (elements m s)
  -- and the patch has no more runs than steps were taken
  pub runs : (f : Flags) (m : Machine) (W L word : ℕ) (s : Store) → DoneOver f m W L word → decode_of word ≡ Some s
      → length (runs (net_effect (elements m s))) ≤ steps_of (elements m s)
