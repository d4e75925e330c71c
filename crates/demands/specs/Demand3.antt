-- Demand 3 as one statement, over what the calls themselves return and leave: `Stored` and `AppliedTo` are the predicates of the contracts
-- of `store` and `apply`. Its proof is `demand3` in proofs/Demand3.antt. Assumes nothing.
use Rattle.std.specs.Prelude.{ℕ, ◌+◌, ◌≤◌, ◌<◌, List, ◌↔◌, ◌≡◌, length, get_or, take, drop, Ok}
use Rattle.std.proofs.Math.Option
use Rattle.encoding.specs.Decoding.{decode_of}
use Rattle.endian.specs.LittleEndian.{Bytes}
use Rattle.writes.specs.Elements.{net_effect}
use Rattle.writes.specs.Encoding.{PatchOf}
use Rattle.writes.specs.Sets.{ByteWrite, lookup, runs}
use Rattle.writes.specs.Statements.{EqualLookups, RunsAsDescribed, RunAtEachStart, RunsKeepTheRules, EncodingLength}
use Rattle.writes.specs.Statements.{LargestPatch, WrittenLast}
use Rattle.elements.specs.Machine.{Machine}
use Rattle.verdicts.specs.Verdicts.{elements_for, patch_of, table, number, Verdict, done}
use Rattle.verdicts.specs.Statements.{NoneGiven, before}
use Rattle.verdicts.specs.declared.Flags.{Flags}
use Rattle.outcomes.specs.Storing.{Stored}
use Rattle.patch.specs.Answers.{applied_number}
use Rattle.patch.specs.Applying.{Applied, AppliedTo}
use Rattle.patch.specs.Statements.{ReadAsPatch, WhateverWindow, JudgesAlike, OneEncoding, NoneShared}
use Rattle.patch.specs.declared.Size.{Size}

-- ---- a done store

-- "A store is done when no refusal that stands before 8 is due", 12 among them (document 02 (viii): "Demand 3 ranges over stores done under
-- either setting."): flags, machine and word over a window of L bytes at W. The lines before 8 don't look at the buffer: it is taken as
-- empty here.
abbrev pub NoneDue : Flags → Machine → ℕ → ℕ → ℕ → Type 0
NoneDue f m W L word = NoneGiven (before 8 (table f m W L (decode_of word) 0))

-- a done store on a machine that is lent: what stands in its Z buffer are bytes
pub record DoneOver (f : Flags) (m : Machine) (W L word : ℕ) : Type 0 where
  pub none_due : NoneDue f m W L word
  pub lent : Bytes m.z

-- "A filling is any L bytes in the memory buffer."
pub record Filling (L : ℕ) (mem : List ℕ) : Type 0 where
  pub long : length mem ≡ L
  pub bytes : Bytes mem

-- a word's net effect and its encoding, whatever the window
abbrev pub effect_for : Machine → ℕ → List ByteWrite
effect_for m word = net_effect (elements_for m (decode_of word))

abbrev pub patch_for : Machine → ℕ → List ℕ
patch_for m word = patch_of (elements_for m (decode_of word))

-- "lent any buffer with room for the patch" (document 02, (ix))
abbrev pub HasRoom : Machine → ℕ → List ℕ → Type 0
HasRoom m word buffer = length (patch_for m word) ≤ length buffer

-- "Its patch is [..] the buffer's first bytes, as many as the reported length.": s is handed out by a call on `mem` that is done, in
-- this buffer
pub record HandsOut (f : Flags) (m : Machine) (W : ℕ) (mem : List ℕ) (word : ℕ) (buffer s : List ℕ) : Type 0 where
  pub elements : ℕ
  pub bytes : ℕ
  pub size : ℕ
  pub steps : ℕ
  pub memory : List ℕ
  pub after : List ℕ
  pub stored : Stored f m W mem word buffer (done elements bytes size steps) memory after
  pub string : s ≡ take size after

-- a call on `mem`, in some buffer with room, leaves mem'
pub record Leaves (f : Flags) (m : Machine) (W : ℕ) (mem : List ℕ) (word : ℕ) (mem' : List ℕ) : Type 0 where
  pub buffer : List ℕ
  pub room : HasRoom m word buffer
  pub verdict : Verdict
  pub after : List ℕ
  pub stored : Stored f m W mem word buffer verdict mem' after

-- two stores leave the same memory from every filling
abbrev pub LeaveTheSame : ℕ → ℕ → Flags → Machine → ℕ → Flags → Machine → ℕ → Type 0
LeaveTheSame W L f m word f₁ m₁ word₁ =
    (mem : List ℕ) → Filling L mem → (mem' mem₁' : List ℕ) → Leaves f m W mem word mem' → Leaves f₁ m₁ W mem word₁ mem₁' → mem' ≡ mem₁'

-- ---- the sentences

-- a call answers done exactly when the store is done and the buffer has room; 8 exactly when it is done and the buffer has none
abbrev pub DoneWithRoom : Type 0
DoneWithRoom =
    (f : Flags) (m : Machine) (W : ℕ) (mem : List ℕ) (word : ℕ) (buffer : List ℕ) (v : Verdict) (mem' buffer' : List ℕ)
    → Stored f m W mem word buffer v mem' buffer'
    → ((number v ≡ 0) ↔ (NoneDue f m W (length mem) word × HasRoom m word buffer))
    × ((number v ≡ 8) ↔ (NoneDue f m W (length mem) word × (length buffer < length (patch_for m word))))

-- the answer, with its detail and counts, depends on W and L, not on what stands in the window; and on the buffer only by whether it has
-- room
abbrev pub WhateverFilling : Type 0
WhateverFilling =
    (f : Flags) (m : Machine) (W : ℕ) (mem mem₁ : List ℕ) (word : ℕ) (buffer buffer₁ : List ℕ) (v v₁ : Verdict)
    (mem' mem₁' buffer' buffer₁' : List ℕ)
    → Stored f m W mem word buffer v mem' buffer' → Stored f m W mem₁ word buffer₁ v₁ mem₁' buffer₁'
    → length mem ≡ length mem₁ → HasRoom m word buffer ↔ HasRoom m word buffer₁ → v ≡ v₁

-- "A done store also has a patch": the encoding of its net effect, which is within the sizes; a call on any filling, in any buffer with
-- room, hands out that string, and none hands out another; "the largest store patch is 6,660 bytes" (document
-- 02 (vii); 1,040 in document 01)
abbrev pub HasAPatch : Type 0
HasAPatch =
    (f : Flags) (m : Machine) (W L word : ℕ) → DoneOver f m W L word
    → (s : List ℕ)
    × Bytes s
    × PatchOf (effect_for m word) s
    × (length s ≤ 6660)
    × ((mem buffer : List ℕ) → Filling L mem → length s ≤ length buffer → HandsOut f m W mem word buffer s)
    × ((mem buffer t : List ℕ) → Filling L mem → HandsOut f m W mem word buffer t → t ≡ s)

-- "After a done, bytes of the buffer behind the patch are unchanged."
abbrev pub KeepsBehind : Type 0
KeepsBehind =
    (f : Flags) (m : Machine) (W : ℕ) (mem : List ℕ) (word : ℕ) (buffer : List ℕ) (n b k t : ℕ) (mem' buffer' : List ℕ)
    → Stored f m W mem word buffer (done n b k t) mem' buffer' → drop k buffer' ≡ drop k buffer

-- on whatever fillings and in whatever buffers the two strings are handed out
abbrev pub SamePatches : Type 0
SamePatches =
    (W L : ℕ) (f f₁ : Flags) (m m₁ : Machine) (word word₁ : ℕ) → DoneOver f m W L word → DoneOver f₁ m₁ W L word₁
    → (mem mem₁ buffer buffer₁ s s₁ : List ℕ) → Filling L mem → Filling L mem₁
    → HandsOut f m W mem word buffer s → HandsOut f₁ m₁ W mem₁ word₁ buffer₁ s₁
    → (s ≡ s₁) ↔ LeaveTheSame W L f m word f₁ m₁ word₁

-- the string that a done store hands out on one filling, applied to any filling: what the store leaves on that one
abbrev pub AppliesAsItStores : Type 0
AppliesAsItStores =
    (f : Flags) (m : Machine) (W L word : ℕ) → DoneOver f m W L word
    → (mem buffer s : List ℕ) → Filling L mem → HandsOut f m W mem word buffer s
    → (mem₁ mem₁' : List ℕ) → Filling L mem₁ → Leaves f m W mem₁ word mem₁'
    → (r : Applied) (mem'' : List ℕ) → AppliedTo W mem₁ s r mem''
    → (applied_number r ≡ 0) × (mem'' ≡ mem₁')

-- "Applying, when done, puts each byte of the patch's set at its address and touches no other byte of the window."; "applying one
-- returns its runs and payload bytes"
abbrev pub LaysTheSet : Type 0
LaysTheSet =
    (W : ℕ) (mem s : List ℕ) (z : Size) (mem' : List ℕ) (S : List ByteWrite)
    → AppliedTo W mem s (Ok z) mem' → PatchOf S s
    → (length mem' ≡ length mem)
    × ((i : ℕ) → i < length mem → get_or mem' i 0 ≡ Option.get_or (lookup (W + i) S) (get_or mem i 0))
    × (z.runs ≡ length (runs S))
    × (z.bytes ≡ length S)

pub record Demand3 : Type 0 where
  -- "A store is done when no refusal that stands before 8 is due; running it then answers done, and making its patch is done in every
  -- buffer with room for it." (document 01), for the one call that does both
  pub stores : DoneWithRoom
  pub whatever_filling : WhateverFilling
  -- "A done store also has a patch: its net effect as sorted runs of bytes."
  pub has_a_patch : HasAPatch
  pub keeps_behind : KeepsBehind
  pub written_last : WrittenLast
  pub runs_described : RunsAsDescribed
  pub run_at_each_start : RunAtEachStart
  pub runs_sorted : RunsKeepTheRules
  -- "Take any two stores done over the same window address and length, whatever their words, registers, flags and vector lengths.
  -- Their patches are identical byte strings exactly when both stores leave the same memory from every initial filling of that window."
  -- Document 02 (vi): "Demand 3 spans two stores of different editions": each store has flags, and so an edition, of its own.
  pub same : SamePatches
  -- "For every such filling, applying a store's patch to that window is done and leaves, byte for byte, what running the store
  -- leaves."
  pub applies : AppliesAsItStores
  pub lays : LaysTheSet
  -- "A byte string, whoever wrote it, is read as a patch exactly when it is the encoding of a set of byte writes, one per address,
  -- within document 01's sizes." Two sets with the same bytes at the same addresses are one.
  pub read_as_patch : ReadAsPatch
  pub whatever_window : WhateverWindow
  pub judges_alike : JudgesAlike
  pub equal_lookups : EqualLookups
  -- "The string's length is 4, plus 12 for each run, plus the payload bytes." (document 01); "the largest valid patch 7,172" (document
  -- 02 (vii))
  pub encoding_length : EncodingLength
  pub largest_patch : LargestPatch
  -- "Each such set has one encoding, and no two sets share one."
  pub one_encoding : OneEncoding
  pub none_shared : NoneShared
