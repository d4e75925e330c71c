-- Document 01, 'Verdicts, in the order they are checked', 1 to 8, and document 02 (viii)'s 12, for the merged call of document 02 (ix):
-- "one call checks 1 to 7, 12 and 8 in that order". 'Verdict' is document 01's term for what a call answers. Assumes nothing.
use Rattle.std.specs.Prelude.{ℕ, ◌*◌, ◌%◌, Bool, true, false, not, cond, ◌&&◌, ◌||◌, List, [], ◌∷◌, eqb, ltb, leb, length, Some, None, Result, Ok, Err}
use Rattle.std.specs.Prelude as P
use Rattle.std.proofs.Math.Option.{Option, none, some}
use Rattle.encoding.specs.declared.Feature.{Feature}
use Rattle.encoding.specs.declared.Feature.TheVariants.{SVE, SME2, SVE2p1}
use Rattle.encoding.specs.Decoding.{decode_of}
use Rattle.encoding.specs.Encoding.{class_for, feature_of}
use Rattle.encoding.specs.declared.Store.{Store}
use Rattle.encoding.specs.declared.Store.TheVariants.{Scatter, Strided, Quadword}
use Rattle.writes.specs.Encoding.{encode}
use Rattle.writes.specs.Elements.{Element, net_effect, steps_of, first_overlap}
use Rattle.window.specs.Window.{window_ok, in_window, byte_outside}
use Rattle.elements.specs.Machine.{Machine}
use Rattle.elements.specs.Stores.{size_of}
use Rattle.elements.specs.Elements.{elements}
use Rattle.verdicts.specs.declared.Flags.{Flags}
use Rattle.verdicts.specs.declared.Done.{Done}
use Rattle.verdicts.specs.declared.Refusal.{Refusal}
use Rattle.verdicts.specs.declared.Refusal.TheVariants.{Length, Registers, Window, Undefined, Illegal, Stack, Fault, Overlap, NoRoom}

-- ---- the store of a word

-- the active elements of what a word decodes to, and the bytes that each moves, msize/8
abbrev pub elements_for : Machine → P.Option Store → List Element
elements_for m None = []
elements_for m (Some s) = elements m s

abbrev pub size_for : P.Option Store → ℕ
size_for None = 0
size_for (Some s) = size_of (class_for s)

-- "A store's net effect is the set of the addresses that its active elements write, each with the byte written there last. Its patch is
-- the encoding of that set". 'Net effect' and 'patch' are document 01's terms.
unfoldable pub patch_of : List Element → List ℕ
patch_of es = encode (net_effect es)

-- ---- the conditions

-- 1 length: "VB is not one of the five"
unfoldable pub one_of_five : ℕ → Bool
one_of_five vb = eqb vb 16 || eqb vb 32 || eqb vb 64 || eqb vb 128 || eqb vb 256

-- amended by document 02 (vi): "under the early edition VB may be any multiple of 16 from 16 to 256, under the late one the five of
-- document 01. With streaming on, the five hold under both."
unfoldable pub length_ok : Bool → Bool → ℕ → Bool
length_ok early streaming vb = cond (early && not streaming) (eqb (vb % 16) 0 && leb 16 vb && leb vb 256) (one_of_five vb)

-- 2 registers: "Z or P buffer has another size" than 32·VB and 2·VB bytes
unfoldable pub registers_ok : Machine → Bool
registers_ok m = eqb (length m.z) (32 * m.vb) && eqb (length m.p) (2 * m.vb)

-- 4 undefined: "no class, or flag off: SVE for 1..7, SME2 for 8..11, SVE2p1 for 12"; document 02 (i), of 13 to 24: "All need the SVE
-- flag and are illegal as classes 1 to 7 are."; (vii), of 25 to 36: "All need SME2 and are illegal as classes 8 to 11 are"
abbrev pub flag_on : Flags → Feature → Bool
flag_on f SVE = f.sve
flag_on f SME2 = f.sme2
flag_on f SVE2p1 = f.sve2p1

abbrev pub undefined : Flags → P.Option Store → Bool
undefined f None = true
undefined f (Some s) = not (flag_on f (feature_of s))

-- 5 illegal: "1..7 and 12: streaming on and FA64 off; 8..11: streaming off"; 13 to 24 as 1 to 7, 25 to 36 as 8 to 11
abbrev pub illegal : Flags → Feature → Bool
illegal f SVE = f.streaming && not f.fa64
illegal f SME2 = not f.streaming
illegal f SVE2p1 = f.streaming && not f.fa64

abbrev pub illegal_for : Flags → P.Option Store → Bool
illegal_for f None = false
illegal_for f (Some s) = illegal f (feature_of s)

-- 6 stack: "Rn 31 (not class 12), SP check on, SP not a multiple of 16, and an active element or the second SP flag"
abbrev pub on_stack : Store → Bool
on_stack (Scatter g) = eqb g.rn 31
on_stack (Strided g) = eqb g.rn 31
on_stack (Quadword g) = false

-- of the list of the active ones
abbrev pub some_active : List Element → Bool
some_active [] = false
some_active (x ∷ xs) = true

abbrev pub stack : Flags → ℕ → Bool → List Element → Bool
stack f sp s es = s && f.sp_check && not (eqb (sp % 16) 0) && (some_active es || f.sp_check_none_active)

abbrev pub stack_for : Flags → Machine → P.Option Store → Bool
stack_for f m None = false
stack_for f m (Some s) = stack f m.sp (on_stack s) (elements m s)

-- 7 fault: "some active element has a byte outside the window"; the lowest such element
unfoldable pub first_outside : ℕ → ℕ → List Element → Option Element
first_outside W L [] = none
first_outside W L (x ∷ xs) = cond (in_window W L x.address (length x.bytes)) (first_outside W L xs) (some x)

abbrev pub found : Option Element → Bool
found none = false
found (some x) = true

-- document 02 (ii): "keep the lowest faulting element, and return the address, modulo 2^64, of the first of its bytes [..] that isn't in
-- the window"
abbrev pub fault_of : ℕ → ℕ → Option Element → Refusal
fault_of W L none = Fault 0 0
fault_of W L (some x) = Fault x.number (byte_outside W L x.address (length x.bytes))

-- 12 overlap, document 02 (viii): "With it on, verdict 12 is given exactly when two different active elements share a byte, and returns the
-- lowest active element that shares one with a lower active element, and its first address."
abbrev pub overlap : Flags → List Element → Bool
overlap f es = f.strict && found (first_overlap es)

abbrev pub overlap_of : Option Element → Refusal
overlap_of none = Overlap 0 0
overlap_of (some x) = Overlap x.number x.address

-- ---- the table

-- a line of the table: its number, when it is given, and what is returned
pub record Row : Type 0 where
  pub number : ℕ
  pub given : Bool
  pub returned : Refusal

abbrev pub row : ℕ → Bool → Refusal → Row
row n c r = record { number = n; given = c; returned = r }

-- document 01's table, line by line, on flags and machine, for a window of L bytes at W, what the word decodes to, and a patch buffer of
-- `room` bytes; 12 "stands after 7 and before 8" (document 02 (viii))
abbrev pub table : Flags → Machine → ℕ → ℕ → P.Option Store → ℕ → List Row
table f m W L d room =
    row 1 (not (length_ok f.early f.streaming m.vb)) Length
    ∷ row 2 (not (registers_ok m)) Registers
    ∷ row 3 (not (window_ok W L)) Window
    ∷ row 4 (undefined f d) Undefined
    ∷ row 5 (illegal_for f d) Illegal
    ∷ row 6 (stack_for f m d) Stack
    ∷ row 7 (found (first_outside W L (elements_for m d))) (fault_of W L (first_outside W L (elements_for m d)))
    ∷ row 12 (overlap f (elements_for m d)) (overlap_of (first_overlap (elements_for m d)))
    ∷ row 8 (ltb room (length (patch_of (elements_for m d)))) NoRoom
    ∷ []

-- what a call answers: a store that is done, by active elements, bytes, the patch's length and the steps, or a refusal
abbrev pub Verdict : Type 0
Verdict = Result Done Refusal

abbrev pub done : ℕ → ℕ → ℕ → ℕ → Verdict
done n b k s = Ok (record { elements = n; bytes = b; length = k; steps = s })

-- the first line whose condition holds decides, and done is what stands behind the last
unfoldable pub decided : List Row → Verdict → Verdict
decided [] done = done
decided (r ∷ rs) done = cond r.given (Err r.returned) (decided rs done)

-- "Done reports the number of active elements and the number of bytes moved, the first times msize/8."; "besides the two counts, the
-- patch's length"; document 02 (iv): "The steps are counted"
abbrev pub done_of : List Element → ℕ → Verdict
done_of es size = done (length es) (length es * size) (length (patch_of es)) (steps_of es)

-- the verdict on a word
unfoldable pub verdict_of : Flags → Machine → ℕ → ℕ → ℕ → ℕ → Verdict
verdict_of f m W L word room =
    decided (table f m W L (decode_of word) room) (done_of (elements_for m (decode_of word)) (size_for (decode_of word)))

-- ---- document 01's numbers

abbrev pub refusal_number : Refusal → ℕ
refusal_number Length = 1
refusal_number Registers = 2
refusal_number Window = 3
refusal_number Undefined = 4
refusal_number Illegal = 5
refusal_number Stack = 6
refusal_number (Fault e a) = 7
refusal_number (Overlap e a) = 12
refusal_number NoRoom = 8

-- "Done is number 0"
abbrev pub number : Verdict → ℕ
number (Ok d) = 0
number (Err r) = refusal_number r

-- element and address of a refusal's detail: zeros but for 7 and 12
abbrev pub detail : Refusal → List ℕ
detail Length = 0 ∷ 0 ∷ []
detail Registers = 0 ∷ 0 ∷ []
detail Window = 0 ∷ 0 ∷ []
detail Undefined = 0 ∷ 0 ∷ []
detail Illegal = 0 ∷ 0 ∷ []
detail Stack = 0 ∷ 0 ∷ []
detail (Fault e a) = e ∷ a ∷ []
detail (Overlap e a) = e ∷ a ∷ []
detail NoRoom = 0 ∷ 0 ∷ []
