-- The promises of two functions that make the calls themselves: their whole outcomes, and the two sentences of demand 3 that speak of
-- several calls.
-- Assumes nothing.
use Rattle.std.specs.Prelude.{ℕ, Bool, true, false, List, ◌↔◌, ◌≡◌, length, take, Ok, Err}
use Rattle.elements.specs.Machine.{Machine, lent}
use Rattle.verdicts.specs.Verdicts.{number, Verdict}
use Rattle.verdicts.specs.declared.Flags.{Flags}
use Rattle.outcomes.specs.Storing.{Stored}
use Rattle.patch.specs.Answers.{applied_number}
use Rattle.patch.specs.Applying.{Applied, AppliedTo}
use Rattle.replaying.specs.declared.call.Call.{Call}
use Rattle.demands.specs.Demand3.{NoneDue, HasRoom, LeaveTheSame}

-- the machine that a call runs on
abbrev pub machine_of : Call → Machine
machine_of c = lent c.machine

-- applying s to the window of m at W leaves m', and r says whether it was done
pub record AppliedIf (W : ℕ) (m s : List ℕ) (r : Bool) (m' : List ℕ) : Type 0 where
  pub answer : Applied
  pub outcome : AppliedTo W m s answer m'
  pub done : (r ≡ true) ↔ (applied_number answer ≡ 0)

-- where a store was done, its patch was applied to the window of `target` at W, and the answer says whether that was done; otherwise
-- nothing was applied
abbrev pub ThenApplied : Verdict → ℕ → List ℕ → List ℕ → Bool → List ℕ → Type 0
ThenApplied (Ok d) W buffer target r target' = AppliedIf W target (take d.length buffer) r target'
ThenApplied (Err x) W buffer target r target' = (r ≡ false) × (target' ≡ target)

-- a store over the window of `mem`, the same store over that of `other`, and the first one's patch applied to that of `target`
pub record Replayed (f : Flags) (m : Machine) (W : ℕ) (mem other target : List ℕ) (word : ℕ) (buffer scratch : List ℕ) (r : Bool)
    (mem' other' target' buffer' scratch' : List ℕ) : Type 0 where
  pub verdict : Verdict
  pub verdict₁ : Verdict
  pub stored : Stored f m W mem word buffer verdict mem' buffer'
  pub stored₁ : Stored f m W other word scratch verdict₁ other' scratch'
  pub applied : ThenApplied verdict W buffer' target r target'
  -- "For every such filling, applying a store's patch to that window is done and leaves, byte for byte, what running the store
  -- leaves.": whichever filling the patch was made on
  pub leaves : NoneDue f m W (length mem) word → HasRoom m word buffer → HasRoom m word scratch → length other ≡ length mem
      → target ≡ other → (r ≡ true) × (target' ≡ other')

-- the reported length; 0 where a store is refused
abbrev pub length_of : Verdict → ℕ
length_of (Ok d) = d.length
length_of (Err x) = 0

-- two stores over windows at one address, and their patches compared
pub record Compared (W : ℕ) (f : Flags) (m : Machine) (mem : List ℕ) (word : ℕ) (f₁ : Flags) (m₁ : Machine) (mem₁ : List ℕ) (word₁ : ℕ)
    (buffer buffer₁ : List ℕ) (r : Bool) (mem' mem₁' buffer' buffer₁' : List ℕ) : Type 0 where
  pub verdict : Verdict
  pub verdict₁ : Verdict
  pub stored : Stored f m W mem word buffer verdict mem' buffer'
  pub stored₁ : Stored f₁ m₁ W mem₁ word₁ buffer₁ verdict₁ mem₁' buffer₁'
  -- yes exactly when both were done, and their patches are the same bytes
  pub answer : (r ≡ true)
      ↔ ((number verdict ≡ 0) × (number verdict₁ ≡ 0) × (take (length_of verdict) buffer' ≡ take (length_of verdict₁) buffer₁'))
  -- "Their patches are identical byte strings exactly when both stores leave the same memory from every initial filling of that
  -- window.": whatever the fillings that they were made on
  pub same : NoneDue f m W (length mem) word → NoneDue f₁ m₁ W (length mem) word₁ → HasRoom m word buffer → HasRoom m₁ word₁ buffer₁
      → length mem₁ ≡ length mem → (r ≡ true) ↔ LeaveTheSame W (length mem) f m word f₁ m₁ word₁
