-- Scatter and quadword stores from their keys on. For the contracts of the code's own functions. Assumes nothing.
use Rattle.std.specs.Prelude.{ℕ, ◌+◌, ◌*◌, ◌^◌, ◌≤◌, List, true, ◌≡◌, length}
use Rattle.std.proofs.Math.Option.{none}
use Rattle.writes.specs.Elements.{Element}
use Rattle.elements.specs.Accesses.{is_width}
use Rattle.stretches.specs.Stretches.{Seen, keys_of}
use Rattle.cutting.specs.Cutting.{Fits}
use Rattle.writing.specs.Writing.{Held}
use Rattle.verdicts.specs.Verdicts.{first_outside}

-- the keys are those of elements that all lie in the window
pub record Ready (W L step size : ℕ) (stored K : List ℕ) (es : List Element) : Type 0 where
  pub keys : K ≡ keys_of W size es
  pub few : length K ≤ 64
  pub top : W + L ≤ 2 ^ 64
  pub small : L ≤ 65536
  pub some : 1 ≤ size
  pub wide : size ≤ 256
  pub bytes : length K * size ≤ 256
  pub width : is_width size ≡ true
  pub doubleword : size ≡ 8 → step ≡ 8
  pub quadword : size ≡ 16 → step ≡ 16
  pub inside : first_outside W L es ≡ none
  pub seen : Seen W L size 0 es
  pub fits : Fits W L es
  pub held : Held step size stored es
