-- Demand 2 as one statement. Its proof is `demand2` in proofs/Demand2.antt. Assumes nothing.
use Rattle.std.specs.Prelude.{ℕ, suc, ◌+◌, ◌*◌, ◌%◌, ◌^◌, ◌≤◌, ◌<◌, Bool, true, false, List, [], ◌∷◌, ◌++◌, ◌↔◌, ◌⊎◌, ◌≡◌}
use Rattle.std.specs.Prelude.{length, get_or, replicate, Some, None, Ok, Err}
use Rattle.std.proofs.Math.Option
use Rattle.encoding.specs.Answers.{decoded_numbers}
use Rattle.encoding.specs.Classes.{classes}
use Rattle.encoding.specs.Decoding.{decode_of}
use Rattle.encoding.specs.Encoding.{class_for}
use Rattle.encoding.specs.Statements.{DecodesItsClass, UndefinedOutside, OneClass, ScatterWidths, StridedWidths}
use Rattle.encoding.specs.Statements.{EncodesDecoded, DecodesEncoded, RefusedForACause, NumbersFromBits}
use Rattle.encoding.specs.declared.Store.{Store}
use Rattle.codec.specs.Codec.{encoded_answers}
use Rattle.codec.specs.Statements.{EncodesDecodedNumbers, DecodesEncodedNumbers, RefusesNumbers}
use Rattle.writes.specs.Elements.{Element, last_at, steps_of}
use Rattle.writes.specs.Encoding.{PatchOf}
use Rattle.writes.specs.Sets.{ByteWrite, Run, run, runs}
use Rattle.writes.specs.Statements.{Among}
use Rattle.window.specs.Window.{window_ok, in_window}
use Rattle.elements.specs.Machine.{Machine}
use Rattle.elements.specs.Stores.{size_of, count_of, register_in, index_in}
use Rattle.elements.specs.Elements.{active_at, element_at, elements}
use Rattle.verdicts.specs.Verdicts.{elements_for, patch_of, length_ok, registers_ok, Row, table, number, Verdict, done}
use Rattle.verdicts.specs.Statements.{NoneGiven, Decides, before, TableNumbered, TableInOrder, TableGivenWhen, Listed, Writes}
use Rattle.verdicts.specs.declared.Flags.{Flags}
use Rattle.verdicts.specs.declared.Refusal.TheVariants.{Fault, Overlap}
use Rattle.outcomes.specs.Storing.{Stored, numbers}
use Rattle.patch.specs.Answers.{applied_number, applied_numbers, judged_number, judged_numbers}
use Rattle.patch.specs.Applying.{Applied, AppliedTo}
use Rattle.patch.specs.Statements.{Encodes}
use Rattle.patch.specs.declared.Size.{Size}
use Rattle.patch.specs.declared.NoPatch.{NoPatch}
use Rattle.patch.specs.declared.ApplyError.TheVariants as A

-- ---- a done store's elements

-- the list has every active element of the store, and no other
abbrev pub ListsTheActive : Type 0
ListsTheActive =
    (m : Machine) (s : Store) (x : Element)
    → Listed x (elements m s) ↔ ((e : ℕ) × (e < count_of m s) × (active_at m s e ≡ true) × (x ≡ element_at m s e))

-- it ascends by number, so that the last element is the highest
abbrev pub Rising : ℕ → List Element → Type 0
Rising k [] = Unit {0}
Rising k (x ∷ xs) = (k ≤ x.number) × Rising (suc x.number) xs

abbrev pub InAscendingOrder : Type 0
InAscendingOrder = (m : Machine) (s : Store) → Rising 0 (elements m s)

-- each element of a word's store has exactly msize/8 bytes, and its byte k is byte r·VB + its index + k of the Z buffer
abbrev pub ElementBytes : Type 0
ElementBytes =
    (f : Flags) (m : Machine) (word : ℕ) (s : Store) (e : ℕ) → length_ok f.early f.streaming m.vb ≡ true → registers_ok m ≡ true
    → decode_of word ≡ Some s
    → e < count_of m s
    → (length (element_at m s e).bytes ≡ size_of (class_for s))
    × ((k : ℕ) → k < size_of (class_for s)
    → get_or (element_at m s e).bytes k 0 ≡ get_or m.z (register_in m (class_for s) s e * m.vb + index_in m (class_for s) s e + k) 0)

-- at each offset in the window the memory after a done store has the byte of the last active element that covers it, or the old byte
abbrev pub ByteByByte : Type 0
ByteByByte =
    (f : Flags) (m : Machine) (W : ℕ) (mem : List ℕ) (word : ℕ) (buffer : List ℕ) (n b k t : ℕ) (mem' buffer' : List ℕ)
    → Stored f m W mem word buffer (done n b k t) mem' buffer'
    → (length mem' ≡ length mem)
    × ((i : ℕ) → i < length mem → get_or mem' i 0 ≡ Option.get_or (last_at (W + i) (elements_for m (decode_of word))) (get_or mem i 0))

-- done counts the active elements, msize/8 bytes for each, the patch's bytes, and the steps
abbrev pub CountsOfDone : Type 0
CountsOfDone =
    (f : Flags) (m : Machine) (W : ℕ) (mem : List ℕ) (word : ℕ) (buffer : List ℕ) (n b k t : ℕ) (mem' buffer' : List ℕ) (s : Store)
    → Stored f m W mem word buffer (done n b k t) mem' buffer' → decode_of word ≡ Some s
    → (n ≡ length (elements m s)) × (b ≡ length (elements m s) * size_of (class_for s)) × (k ≡ length (patch_of (elements m s)))
    × (t ≡ steps_of (elements m s))

-- ---- refusals

-- document 01's table for a call: on flags and machine, with the window of `mem` at W, a word and a patch buffer
abbrev pub table_for : Flags → Machine → ℕ → List ℕ → ℕ → List ℕ → List Row
table_for f m W mem word buffer = table f m W (length mem) (decode_of word) (length buffer)

-- a number other than 0 is answered exactly when a line of that number is given and none before it is; done exactly when none is
abbrev pub StoringDecided : Type 0
StoringDecided =
    (f : Flags) (m : Machine) (W : ℕ) (mem : List ℕ) (word : ℕ) (buffer : List ℕ) (v : Verdict) (mem' buffer' : List ℕ)
    → Stored f m W mem word buffer v mem' buffer'
    → ((n : ℕ) → (n ≡ 0 → ⊥) → (number v ≡ n) ↔ Decides n (table_for f m W mem word buffer))
    × ((number v ≡ 0) ↔ NoneGiven (table_for f m W mem word buffer))

-- "some active element has a byte outside the window" of L bytes at W. Its bytes' addresses aren't taken modulo 2^64: "An element that
-- would pass the top of the address space faults."
abbrev pub SomeByteOutside : ℕ → ℕ → List Element → Type 0
SomeByteOutside W L es =
    (x : Element) × Listed x es × ((k : ℕ) × (k < length x.bytes) × ((x.address + k < W) ⊎ (W + L ≤ x.address + k)))

-- 7 is answered exactly then, where nothing is given that stands before it
abbrev pub FaultGiven : Type 0
FaultGiven =
    (f : Flags) (m : Machine) (W : ℕ) (mem : List ℕ) (word : ℕ) (buffer : List ℕ) (v : Verdict) (mem' buffer' : List ℕ)
    → Stored f m W mem word buffer v mem' buffer'
    → (number v ≡ 7)
    ↔ (NoneGiven (before 7 (table_for f m W mem word buffer)) × SomeByteOutside W (length mem) (elements_for m (decode_of word)))

-- elements d and e of a store share a byte: an address that both write
abbrev pub ShareAByte : Machine → Store → ℕ → ℕ → Type 0
ShareAByte m s d e = (a : ℕ) × Writes (element_at m s d) a × Writes (element_at m s e) a

-- document 02 (viii): "two different active elements share a byte"
abbrev pub TwoActiveShare : Machine → Store → Type 0
TwoActiveShare m s =
    (d : ℕ) × (e : ℕ) × (d < e) × (e < count_of m s) × (active_at m s d ≡ true) × (active_at m s e ≡ true) × ShareAByte m s d e

-- "With it on, verdict 12 is given exactly when" they do, where nothing is given that stands before it
abbrev pub OverlapGiven : Type 0
OverlapGiven =
    (f : Flags) (m : Machine) (W : ℕ) (mem : List ℕ) (word : ℕ) (buffer : List ℕ) (v : Verdict) (mem' buffer' : List ℕ)
    → Stored f m W mem word buffer v mem' buffer'
    → (number v ≡ 12)
    ↔ (NoneGiven (before 12 (table_for f m W mem word buffer))
    × (f.strict ≡ true)
    × ((s : Store) × (decode_of word ≡ Some s) × TwoActiveShare m s))

-- "a run isn't wholly in the window"
abbrev pub SomeRunOutside : ℕ → ℕ → List Run → Type 0
SomeRunOutside W L rs = (a : ℕ) × (p : List ℕ) × Among a p rs × (in_window W L a (length p) ≡ false)

-- 3 by the window alone; then 9 where no set within the sizes has this encoding; then 10 by the runs of the set that has it
abbrev pub ApplyingDecided : Type 0
ApplyingDecided =
    (W : ℕ) (mem s : List ℕ) (r : Applied) (mem' : List ℕ) → AppliedTo W mem s r mem'
    → ((applied_number r ≡ 3) ↔ (window_ok W (length mem) ≡ false))
    × ((applied_number r ≡ 9) ↔ ((window_ok W (length mem) ≡ true) × (Encodes s → ⊥)))
    × ((applied_number r ≡ 10)
    ↔ ((window_ok W (length mem) ≡ true) × ((S : List ByteWrite) × PatchOf S s × SomeRunOutside W (length mem) (runs S))))

-- ---- what is returned besides the number

-- element e of the store lies in the window
abbrev pub lies_in : ℕ → ℕ → Machine → Store → ℕ → Bool
lies_in W L m s e = in_window W L (element_at m s e).address (length (element_at m s e).bytes)

-- a fault names an active element outside the window, and each active element below it lies inside. Document 02 (ii): "keep the lowest
-- faulting element, and return the address, modulo 2^64, of the first of its bytes, in its own byte order, that isn't in the window":
-- byte k isn't, and each before it is
abbrev pub FaultNamesTheLowest : Type 0
FaultNamesTheLowest =
    (f : Flags) (m : Machine) (W : ℕ) (mem : List ℕ) (word : ℕ) (buffer : List ℕ) (e a : ℕ) (mem' buffer' : List ℕ) (s : Store)
    → Stored f m W mem word buffer (Err (Fault e a)) mem' buffer' → decode_of word ≡ Some s
    → (e < count_of m s)
    × (active_at m s e ≡ true)
    × ((k : ℕ)
    × (k < length (element_at m s e).bytes)
    × (a ≡ ((element_at m s e).address + k) % 2 ^ 64)
    × (in_window W (length mem) a 1 ≡ false)
    × ((j : ℕ) → j < k → in_window W (length mem) (((element_at m s e).address + j) % 2 ^ 64) 1 ≡ true))
    × (lies_in W (length mem) m s e ≡ false)
    × ((d : ℕ) → d < e → active_at m s d ≡ true → lies_in W (length mem) m s d ≡ true)

-- document 02 (viii): "returns the lowest active element that shares one with a lower active element, and its first address"
abbrev pub OverlapNamesTheLowest : Type 0
OverlapNamesTheLowest =
    (f : Flags) (m : Machine) (W : ℕ) (mem : List ℕ) (word : ℕ) (buffer : List ℕ) (e a : ℕ) (mem' buffer' : List ℕ) (s : Store)
    → Stored f m W mem word buffer (Err (Overlap e a)) mem' buffer' → decode_of word ≡ Some s
    → (e < count_of m s)
    × (active_at m s e ≡ true)
    × (a ≡ (element_at m s e).address)
    × ((d : ℕ) × (d < e) × (active_at m s d ≡ true) × ShareAByte m s d e)
    × ((c d : ℕ) → c < e → active_at m s c ≡ true → d < c → active_at m s d ≡ true → ShareAByte m s d c → ⊥)

-- "lowest such run, its first address": the run of that number starts there and isn't wholly in the window, those before it are
abbrev pub OutsideNamesTheLowest : Type 0
OutsideNamesTheLowest =
    (W : ℕ) (mem s : List ℕ) (k a : ℕ) (mem' : List ℕ) (S : List ByteWrite)
    → AppliedTo W mem s (Err (A.Outside k a)) mem' → PatchOf S s
    → (before : List Run)
    × (p : List ℕ)
    × (after : List Run)
    × (runs S ≡ before ++ (run a p ∷ after))
    × (k ≡ length before)
    × (in_window W (length mem) a (length p) ≡ false)
    × ((t : ℕ) (q : List ℕ) → Among t q before → in_window W (length mem) t (length q) ≡ true)

-- the six numbers: "Done [..] has zeros as its detail; a refusal's counts and lengths are 0."; zeros for all refusals but 7 and 12
abbrev pub StoringReturns : Type 0
StoringReturns =
    ((n b k t : ℕ) → numbers (done n b k t) ≡ 0 ∷ 0 ∷ n ∷ b ∷ k ∷ t ∷ [])
    × ((e a : ℕ) → numbers (Err (Fault e a)) ≡ e ∷ a ∷ 0 ∷ 0 ∷ 0 ∷ 0 ∷ [])
    × ((e a : ℕ) → numbers (Err (Overlap e a)) ≡ e ∷ a ∷ 0 ∷ 0 ∷ 0 ∷ 0 ∷ [])
    × ((v : Verdict) → (number v ≡ 0 → ⊥) → (number v ≡ 7 → ⊥) → (number v ≡ 12 → ⊥) → numbers v ≡ 0 ∷ 0 ∷ 0 ∷ 0 ∷ 0 ∷ 0 ∷ [])

abbrev pub ApplyingReturns : Type 0
ApplyingReturns =
    ((z : Size) → applied_numbers (Ok z) ≡ 0 ∷ 0 ∷ z.runs ∷ z.bytes ∷ 0 ∷ [])
    × ((k a : ℕ) → applied_numbers (Err (A.Outside k a)) ≡ k ∷ a ∷ 0 ∷ 0 ∷ 0 ∷ [])
    × (applied_numbers (Err A.Window) ≡ replicate 5 0)
    × (applied_numbers (Err A.BadPatch) ≡ replicate 5 0)

-- judging answers 0 with runs and payload bytes, or 9 with the runs that are acceptable and where they end
abbrev pub JudgingReturns : Type 0
JudgingReturns =
    ((z : Size) → (judged_number (Ok z) ≡ 0) × (judged_numbers (Ok z) ≡ 0 ∷ 0 ∷ z.runs ∷ z.bytes ∷ 0 ∷ []))
    × ((n : NoPatch) → (judged_number (Err n) ≡ 9) × (judged_numbers (Err n) ≡ n.runs ∷ n.at ∷ 0 ∷ 0 ∷ 0 ∷ []))

-- a word of no class, and fields that are refused
abbrev pub CodecReturns : Type 0
CodecReturns = (decoded_numbers None ≡ replicate 8 0) × (encoded_answers None ≡ replicate 5 0)

pub record Demand2 : Type 0 where
  -- "Decoding accepts exactly the twelve classes of document 01", of which document 02 says: "Demand 2 now reads twenty-four classes" (i),
  -- "demand 2 reads thirty-six classes" (vii): a word belongs to a class by its bits, to no two of them
  pub thirty_six : length classes ≡ 36
  -- (i)'s twelve are "the pattern of classes 1 to 7" at two more widths, (vii)'s twelve "the forms of 8 to 11" at three more
  pub scatter_widths : ScatterWidths
  pub strided_widths : StridedWidths
  pub accepts : DecodesItsClass
  pub no_others : UndefinedOutside
  pub one_class : OneClass
  -- "and encoding is its inverse", of stores and of the eight numbers that callers exchange, which are read off the word's bits
  pub encodes_decoded : EncodesDecoded
  pub decodes_encoded : DecodesEncoded
  pub numbers_from_bits : NumbersFromBits
  pub encodes_decoded_numbers : EncodesDecodedNumbers
  pub decodes_encoded_numbers : DecodesEncodedNumbers
  -- "A done store writes each active element as Arm's published steps say": `element_at` gives its address and bytes by those steps
  pub each_active : ListsTheActive
  pub element_bytes : ElementBytes
  -- "in ascending element order, and touches no other byte"
  pub ascending : InAscendingOrder
  pub byte_by_byte : ByteByByte
  -- "Done reports the number of active elements and the number of bytes moved, the first times msize/8."; "besides the two counts, the
  -- patch's length" (document 01); "The steps are counted" (document 02 (iv))
  pub counts : CountsOfDone
  -- "Each refusal is given exactly when document 01 says.": the lines of its table have its numbers, its order and its conditions, and
  -- the first that is given decides
  pub numbered : TableNumbered
  pub in_order : TableInOrder
  pub given_when : TableGivenWhen
  pub storing : StoringDecided
  pub fault : FaultGiven
  pub overlap : OverlapGiven
  pub applying : ApplyingDecided
  pub encoding : RefusedForACause
  pub encoding_numbers : RefusesNumbers
  -- "Returns besides the number" (document 01), and document 02 (viii)'s
  pub fault_names : FaultNamesTheLowest
  pub overlap_names : OverlapNamesTheLowest
  pub outside_names : OutsideNamesTheLowest
  pub storing_returns : StoringReturns
  pub applying_returns : ApplyingReturns
  pub judging_returns : JudgingReturns
  pub codec_returns : CodecReturns
