-- Document 01's whole example: two stores of this model, done over one window, through demand 3. Its proof is `whole-example` in
-- proofs/Examples.antt. Assumes nothing.
use Rattle.std.specs.Prelude.{ℕ, ◌≤◌, true, false, List, [], ◌∷◌, ◌++◌, ◌≡◌, length, replicate, Err}
use Rattle.writes.specs.Examples.{example_patch}
use Rattle.elements.specs.Machine.{Machine, machine}
use Rattle.verdicts.specs.Verdicts.{verdict_of, done}
use Rattle.verdicts.specs.declared.Flags.{Flags}
use Rattle.verdicts.specs.declared.Refusal.TheVariants.{Length}
use Rattle.demands.specs.Demand3.{DoneOver, Filling, patch_for, HandsOut, LeaveTheSame}
use Rattle.starred.specs.Cases.{plain, streaming}

-- four 32-bit elements by their low bytes, with the same byte in their other bytes
abbrev pub words : ℕ → ℕ → ℕ → ℕ → ℕ → List ℕ
words r a b c d = a ∷ r ∷ r ∷ r ∷ b ∷ r ∷ r ∷ r ∷ c ∷ r ∷ r ∷ r ∷ d ∷ r ∷ r ∷ r ∷ []

-- "VB 16, base 1000h", in X0, with data in Z0 and offsets in Z1, "all active": bits 0, 4, 8 and 12 of P0
abbrev pub holding : List ℕ → List ℕ → Machine
holding offsets stored =
    machine 16 (0x1000 ∷ replicate 30 0) 0 (stored ++ (offsets ++ replicate 480 0)) (0x11 ∷ 0x11 ∷ replicate 30 0)

-- "class 6": Zm 1, UXTW, Pg 0, Rn 0, Zt 0
abbrev pub word : ℕ
word = 0xE4418000

-- "offsets 0, 1, 1, 5, bytes A1 A2 A3 A4"; "Offsets 1, 0, 5, 5 with A3 A1 00 A4"
abbrev pub first : Machine
first = holding (words 0 0 1 1 5) (words 0xFF 0xA1 0xA2 0xA3 0xA4)

abbrev pub second : Machine
second = holding (words 0 1 0 5 5) (words 0xFF 0xA3 0xA1 0x00 0xA4)

-- a machine of zeros: nothing is active
abbrev pub idle : Machine
idle = machine 16 (replicate 31 0) 0 (replicate 512 0) (replicate 32 0)

-- every call over a window of L bytes at 1000h, in a buffer with room, hands out s
abbrev pub HandsOn : Flags → Machine → ℕ → List ℕ → Type 0
HandsOn f m L s = (mem buffer : List ℕ) → Filling L mem → length s ≤ length buffer → HandsOut f m 0x1000 mem word buffer s

abbrev pub Hands : Machine → ℕ → List ℕ → Type 0
Hands m L s = HandsOn plain m L s

pub record WholeExample : Type 0 where
  pub first_done : DoneOver plain first 0x1000 6 word
  pub second_done : DoneOver plain second 0x1000 6 word
  -- "Four elements, four bytes moved, and the patch is 31 bytes", in a buffer of just as many; of the four, one starts where the one
  -- before it ends: three steps
  pub counted : verdict_of plain first 0x1000 6 word 31 ≡ done 4 4 31 3
  pub first_patch : Hands first 6 example_patch
  -- the second store gives "the same patch", so that both leave the same memory from every filling
  pub second_patch : Hands second 6 example_patch
  pub same_memory : LeaveTheSame 0x1000 6 plain first word plain second word
  -- "No active element, L = 0: done, patch `50 45 00 00`."
  pub idle_done : DoneOver plain idle 0x1000 0 word
  pub idle_patch : Hands idle 0 (0x50 ∷ 0x45 ∷ 0 ∷ 0 ∷ [])

-- ---- document 02 (vi): "Demand 3 spans two stores of different editions."

-- SVE alone, under the early edition
abbrev pub older : Flags
older =
    record {
      sve = true;
      sme2 = false;
      sve2p1 = false;
      streaming = false;
      fa64 = false;
      sp_check = false;
      sp_check_none_active = false;
      strict = false;
      early = true;
    }

-- VB 48: twelve elements, of which 0, 1, 2 and 11 are active, with the whole example's offsets and bytes
abbrev pub twelve : Machine
twelve =
    machine 48 (0x1000 ∷ replicate 30 0) 0
    ((words 0xFF 0xA1 0xA2 0xA3 0xEE ++ (replicate 16 0xEE ++ words 0xFF 0xEE 0xEE 0xEE 0xA4))
    ++ ((words 0 0 1 1 3 ++ (replicate 16 3 ++ words 0 3 3 3 5)) ++ replicate 1440 0))
    (0x11 ∷ 0x01 ∷ 0 ∷ 0 ∷ 0 ∷ 0x10 ∷ replicate 90 0)

-- the store of VB 48 under the early edition and that of VB 16 under the late one have the same patch, and leave the same memory
pub record BothEditions : Type 0 where
  pub early_done : DoneOver older twelve 0x1000 6 word
  pub late_done : DoneOver plain first 0x1000 6 word
  pub early_counted : verdict_of older twelve 0x1000 6 word 31 ≡ done 4 4 31 3
  pub early_patch : HandsOn older twelve 6 example_patch
  pub late_patch : HandsOn plain first 6 example_patch
  pub same_memory : LeaveTheSame 0x1000 6 older twelve word plain first word
  -- under the late edition the first is refused with 1
  pub refused : verdict_of plain twelve 0x1000 6 word 31 ≡ Err Length

-- "A byte store under a halfword counter writes every second byte, so 512 runs can occur"; "the largest store patch is 6,660 bytes"
-- (document 02 (vii)): class 28 at VB 256 with all of its counter's elements active (8002h in P8)
abbrev pub largest : Machine
largest = machine 256 (0x1000 ∷ replicate 30 0) 0 (replicate 8192 0) (replicate 256 0 ++ (0x02 ∷ 0x80 ∷ replicate 254 0))

abbrev pub LargestStorePatch : Type 0
LargestStorePatch = DoneOver streaming largest 0x1000 1023 0xA1608000 × (length (patch_for largest 0xA1608000) ≡ 6660)
