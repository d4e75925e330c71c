-- What each function of the interface answers. Assumes nothing.
use Rattle.std.specs.Prelude.{ℕ, List, ◌≡◌}

-- there is an answer of which P holds, and n and ns are its number and its numbers
pub record Answers {A : Type 0} (P : A → Type 0) (number_of : A → ℕ) (numbers_of : A → List ℕ) (n : ℕ) (ns : List ℕ) : Type 0 where
  pub answer : A
  pub holds : P answer
  pub its_number : n ≡ number_of answer
  pub its_numbers : ns ≡ numbers_of answer
