-- Document 01's whole example compared with another patch. Proved in proofs/Examples.antt. Assumes nothing.
use Rattle.std.specs.Prelude.{ℕ, List, [], ◌∷◌, Ok}
use Rattle.writes.specs.Examples.{example_patch}
use Rattle.comparing.specs.Comparing.{ComparedTo}

-- a run of A1 and A2 at 1000h, where the example has A1 and A3, and A4 at 1005h
abbrev pub other_patch : List ℕ
other_patch = 0x50 ∷ 0x52 ∷ 0x00 ∷ 0x10 ∷ 0 ∷ 0 ∷ 0 ∷ 0 ∷ 0 ∷ 0 ∷ 0x02 ∷ 0 ∷ 0xA1 ∷ 0xA2 ∷ 0x50 ∷ 0x45 ∷ 0x01 ∷ 0 ∷ []

-- two entries: at 1001h both bytes, at 1005h the first's and "not written"; a seventh number of the list stays
abbrev pub ExampleCompared : Type 0
ExampleCompared =
    ComparedTo example_patch other_patch (9 ∷ 9 ∷ 9 ∷ 9 ∷ 9 ∷ 9 ∷ 9 ∷ []) (Ok 2)
    (0x1001 ∷ 0xA3 ∷ 0xA2 ∷ 0x1005 ∷ 0xA4 ∷ 256 ∷ 9 ∷ [])
