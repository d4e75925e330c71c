-- Stretches that share a byte, and the first key that shares one with a lower key. Assumes nothing.
use Rattle.std.specs.Prelude.{ℕ, Bool, true, false, cond, ◌&&◌, List, [], ◌∷◌, ltb, Option, Some, None}
use Rattle.std.specs.List.{list_any}
use Rattle.stretches.specs.Stretches.{start_of, end_of}

-- no stretch starts before f, or before the end of the one before it
unfoldable pub parted : ℕ → List ℕ → Bool
parted f [] = true
parted f (k ∷ K) = cond (ltb (start_of k) f) false (parted (end_of k) K)

-- from a up to b and from c up to d have an offset in common
unfoldable pub meets : ℕ → ℕ → ℕ → ℕ → Bool
meets a b c d = ltb a d && ltb c b

-- from a up to b meets one of the stretches
unfoldable pub meets_any : ℕ → ℕ → List ℕ → Bool
meets_any a b K = list_any (λ k. meets a b (start_of k) (end_of k)) K

-- of keys behind the lower ones: the first that shares a byte with a lower one
unfoldable pub meeting_from : List ℕ → List ℕ → Option ℕ
meeting_from lower [] = None
meeting_from lower (k ∷ K) = cond (meets_any (start_of k) (end_of k) lower) (Some k) (meeting_from (k ∷ lower) K)

abbrev pub first_meeting : List ℕ → Option ℕ
first_meeting K = meeting_from [] K
