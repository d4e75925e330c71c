-- A store from verdict 7 on. For the contracts of the code's own functions. Assumes nothing.
use Rattle.std.specs.Prelude.{ℕ, Bool, false, List, ◌≡◌, length}
use Rattle.writes.specs.Elements.{Element}
use Rattle.verdicts.specs.Verdicts.{patch_of, Verdict}
use Rattle.checks.specs.Checking.{concluded}
use Rattle.outcomes.specs.Storing.{memory_after, buffer_after}

-- what is answered of these elements, of `size` bytes each, strict or not, in the window of `mem` at W with a patch buffer, and what is
-- left of both
pub record StoredUnder (strict : Bool) (W size : ℕ) (mem buffer : List ℕ) (es : List Element) (v : Verdict) (mem' buffer' : List ℕ)
    : Type 0 where
  pub answer : v ≡ concluded strict W (length mem) (length buffer) size es
  pub memory : mem' ≡ memory_after v W mem es
  pub patch : buffer' ≡ buffer_after v (patch_of es) buffer

-- with strict off
abbrev pub StoredOf : ℕ → ℕ → List ℕ → List ℕ → List Element → Verdict → List ℕ → List ℕ → Type 0
StoredOf = StoredUnder false
