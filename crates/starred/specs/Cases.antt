-- The starred cases of document 01, 'Cases at the edges', and examples of document 02's requests, in one table: each word is decoded and
-- stored on a whole machine. VB is 16 where not said. Assumes nothing.
use Rattle.std.specs.Prelude.{ℕ, ◌+◌, ◌-◌, ◌*◌, Bool, true, false, List, [], ◌∷◌, ◌++◌, map, ◌≡◌, ℤ, pos, negsuc, length, replicate}
use Rattle.std.specs.Prelude.{take, drop, Option, Some, None, Err}
use Rattle.encoding.specs.Decoding.{decode_of}
use Rattle.encoding.specs.declared.Extension.{Extension}
use Rattle.encoding.specs.declared.Extension.TheVariants.{Uxtw, Sxtw}
use Rattle.encoding.specs.declared.Store.{Store}
use Rattle.encoding.specs.declared.Store.TheVariants.{Scatter, Strided, Quadword}
use Rattle.elements.specs.Machine.{Machine, machine}
use Rattle.elements.specs.Counter.{counter_of, count_in}
use Rattle.verdicts.specs.Verdicts.{elements_for, verdict_of, Verdict, done}
use Rattle.verdicts.specs.declared.Flags.{Flags}
use Rattle.verdicts.specs.declared.Refusal.TheVariants.{Length, Undefined, Illegal, Fault, Overlap}
use Rattle.outcomes.specs.Storing.{memory_after}

-- ---- the machines

-- bytes in a buffer of n, from an index on, with zeros around them
abbrev pub placed_at : ℕ → ℕ → List ℕ → List ℕ
placed_at n at bs = replicate at 0 ++ (bs ++ replicate (n - (at + length bs)) 0)

-- 16 bytes of data that tell registers and elements apart
abbrev pub row : ℕ → List ℕ
row t = map (λ (k : ℕ). t + k) (1 ∷ 2 ∷ 3 ∷ 4 ∷ 5 ∷ 6 ∷ 7 ∷ 8 ∷ 9 ∷ 10 ∷ 11 ∷ 12 ∷ 13 ∷ 14 ∷ 15 ∷ 16 ∷ [])

-- the data of register r, where r is 0, 4, 8 or 12
abbrev pub rows : ℕ → List ℕ
rows r = row (16 * r)

-- four registers, of which the first has data
abbrev pub four : List ℕ → List ℕ
four d = d ++ replicate 48 0

-- the Z buffer: Z0, Z4, Z8, Z12, Z16 and Z24 hold data; Z1 the offsets
abbrev pub vectors : List ℕ → List ℕ
vectors offset =
    (rows 0 ++ (offset ++ replicate 32 0))
    ++ (four (rows 4)
    ++ (four (rows 8) ++ (four (rows 12) ++ (four (row 100) ++ (replicate 64 0 ++ (four (row 200) ++ replicate 64 0))))))

-- the P buffer: P0 has its lowest bit, and P8 is a counter
abbrev pub predicates : ℕ → ℕ → List ℕ
predicates lo hi = 1 ∷ (replicate 15 0 ++ (lo ∷ hi ∷ replicate 14 0))

-- X0 is 1000h
abbrev pub on : List ℕ → ℕ → ℕ → Machine
on offset lo hi = machine 16 (0x1000 ∷ replicate 30 0) 0 (vectors offset) (predicates lo hi)

abbrev pub zeros : List ℕ
zeros = replicate 16 0

-- counter 8008h: all are active
abbrev pub full : Machine
full = on zeros 0x08 0x80

-- SVE alone, and streaming with SME2 alone
abbrev pub plain : Flags
plain =
    record {
      sve = true;
      sme2 = false;
      sve2p1 = false;
      streaming = false;
      fa64 = false;
      sp_check = false;
      sp_check_none_active = false;
      strict = false;
      early = false;
    }

-- SVE and strict
abbrev pub strict : Flags
strict =
    record {
      sve = true;
      sme2 = false;
      sve2p1 = false;
      streaming = false;
      fa64 = false;
      sp_check = false;
      sp_check_none_active = false;
      strict = true;
      early = false;
    }

abbrev pub streaming : Flags
streaming =
    record {
      sve = false;
      sme2 = true;
      sve2p1 = false;
      streaming = true;
      fa64 = false;
      sp_check = false;
      sp_check_none_active = false;
      strict = false;
      early = false;
    }

-- document 02 (vi): VB 48, quadword stores on, by edition and streaming
abbrev pub quadwords : Bool → Bool → Flags
quadwords e s =
    record {
      sve = false;
      sme2 = true;
      sve2p1 = true;
      streaming = s;
      fa64 = true;
      sp_check = false;
      sp_check_none_active = false;
      strict = false;
      early = e;
    }

-- three quadwords of data in Z0, their offsets 0, 16 and 32 in Z1; P0 has bits 0, 16 and 32
abbrev pub threes : List ℕ
threes = row 0 ++ (row 16 ++ row 32)

abbrev pub at48 : Machine
at48 =
    machine 48 (0x1000 ∷ replicate 30 0) 0
    (threes ++ (replicate 16 0 ++ (16 ∷ (replicate 15 0 ++ (32 ∷ (replicate 15 0 ++ replicate 1440 0))))))
    (1 ∷ 0 ∷ 1 ∷ 0 ∷ 1 ∷ replicate 91 0)

-- an offset element with low half FFFFFFF8h, and one that is 2000000000000001h
abbrev pub low : List ℕ
low = 0xF8 ∷ 0xFF ∷ 0xFF ∷ 0xFF ∷ 0x78 ∷ 0x56 ∷ 0x34 ∷ 0x12 ∷ replicate 8 0

abbrev pub high : List ℕ
high = 1 ∷ 0 ∷ 0 ∷ 0 ∷ 0 ∷ 0 ∷ 0 ∷ 0x20 ∷ replicate 8 0

-- one that takes 1000h to FFFFFFFFFFFFFFFCh
abbrev pub top : List ℕ
top = 0xFC ∷ 0xEF ∷ 0xFF ∷ 0xFF ∷ 0xFF ∷ 0xFF ∷ 0xFF ∷ 0xFF ∷ replicate 8 0

-- both doublewords of a register are active, the first at offset 0
abbrev pub pair : ℕ → Machine
pair offset =
    machine 16 (0x1000 ∷ replicate 30 0) 0 (vectors (replicate 8 0 ++ (offset ∷ replicate 7 0))) (1 ∷ 1 ∷ replicate 30 0)

-- ---- the table

-- a word on a machine with a window of zeros, and what decoding, the verdict, the memory and the count of P8 as a counter must be. The
-- patch buffer has 1,040 bytes, "the largest of one store" in document 01, which is room for each of these.
pub record Case : Type 0 where
  pub word : ℕ
  pub flags : Flags
  pub state : Machine
  pub base : ℕ
  pub long : ℕ
  pub decoded : Option Store
  pub verdict : Verdict
  pub memory : List ℕ
  pub count : ℕ

abbrev pub case : ℕ → Flags → Machine → ℕ → ℕ → Option Store → Verdict → List ℕ → ℕ → Case
case w f m b l d v s n = record { word = w; flags = f; state = m; base = b; long = l; decoded = d; verdict = v; memory = s; count = n }

-- strided stores with Rm, Pc and Rn 0, by class, multiple and first register
abbrev pub strided : ℕ → ℤ → ℕ → Option Store
strided c z r = Some (Strided (record { class = c; rm = 0; multiple = z; pc = 0; rn = 0; first = r }))

-- scatter stores with Zm 1 and Pg, Rn and Zt 0, by class and extension
abbrev pub scatter : ℕ → Option Extension → Option Store
scatter c x = Some (Scatter (record { class = c; zm = 1; extension = x; pg = 0; rn = 0; zt = 0 }))

-- a quadword store with Zn 1 and Rm, Pg and Zt 0
abbrev pub quadword : Option Store
quadword = Some (Quadword (record { class = 12; rm = 0; pg = 0; zn = 1; zt = 0 }))

unfoldable pub cases : List Case
cases =
    -- "A16F6000: multiple −2; with base 1000h it starts at 0FE0h."
    case 0xA16F6000 streaming full 0x0FE0 32 (strided 10 (negsuc 1) 0) (done 4 32 48 1) (rows 0 ++ rows 8) 0
    -- "A168E000: multiple −32."
    ∷ case 0xA168E000 streaming full 0x0E00 64 (strided 11 (negsuc 31) 0) (done 8 64 80 1) (rows 0 ++ (rows 4 ++ (rows 8 ++ rows 12))) 0
    -- "A1206010: registers 16 and 24."
    ∷ case 0xA1206010 streaming full 0x9000 32 (strided 8 (pos 0) 16) (done 4 32 48 1) (row 100 ++ row 200) 0
    -- "A120E004, A1206008 and E4208000 are undefined here."
    ∷ case 0xA120E004 streaming full 0x1000 8 None (Err Undefined) (replicate 8 0) 0
    ∷ case 0xA1206008 streaming full 0x1000 8 None (Err Undefined) (replicate 8 0) 0
    ∷ case 0xE4208000 plain full 0x1000 8 None (Err Undefined) (replicate 8 0) 0
    -- "Class 2, base 1000h, offset element with low half FFFFFFF8h: SXTW gives 0FF8h, UXTW 100000FF8h."
    ∷ case 0xE581C000 plain (on low 0 0) 0 0 (scatter 2 (Some Sxtw)) (Err (Fault 0 0x0FF8)) [] 0
    ∷ case 0xE5818000 plain (on low 0 0) 0 0 (scatter 2 (Some Uxtw)) (Err (Fault 0 0x100000FF8)) [] 0
    -- "Class 1 with UXTW gives 800000FC0h."
    ∷ case 0xE5A18000 plain (on low 0 0) 0 0 (scatter 1 (Some Uxtw)) (Err (Fault 0 0x800000FC0)) [] 0
    -- "Class 3, base 1000h, offset 2000000000000001h: address 1008h."
    ∷ case 0xE5A1A000 plain (on high 0 0) 0x1008 8 (scatter 3 None) (done 1 8 24 1) (take 8 (rows 0)) 0
    -- "Counters over two registers: 0018h element 0"
    ∷ case 0xA1606000 streaming (on zeros 0x18 0x00) 0x1000 32 (strided 10 (pos 0) 0) (done 1 8 24 1) (placed_at 32 0 (take 8 (rows 0))) 1
    -- "8038h element 3"
    ∷ case 0xA1606000 streaming (on zeros 0x38 0x80) 0x1000 32 (strided 10 (pos 0) 0) (done 1 8 24 1)
    (placed_at 32 24 (drop 8 (rows 8))) 3
    -- "8000h none"
    ∷ case 0xA1606000 streaming (on zeros 0x00 0x80) 0x1000 32 (strided 10 (pos 0) 0) (done 0 0 4 0) (replicate 32 0) 0
    -- "0013h (byte count 9) elements 0 and 1"
    ∷ case 0xA1606000 streaming (on zeros 0x13 0x00) 0x1000 32 (strided 10 (pos 0) 0) (done 2 16 32 1) (placed_at 32 0 (rows 0)) 9
    -- document 02 (iii): "0418h over two doubleword registers makes element 0 active and no other"
    ∷ case 0xA1606000 streaming (on zeros 0x18 0x04) 0x1000 32 (strided 10 (pos 0) 0) (done 1 8 24 1) (placed_at 32 0 (take 8 (rows 0))) 1
    -- document 02 (ii): "A doubleword at FFFFFFFFFFFFFFFCh over a 16-byte window ending at 2^64 reports address 0."
    ∷ case 0xE581A000 plain (on top 0 0) 0xFFFFFFFFFFFFFFF0 16 (scatter 4 None) (Err (Fault 0 0)) (replicate 16 0) 0
    -- document 02 (i): "the .S forms", scaled by 2, of halfwords: offset −8 by SXTW; "The byte form has no scaled class": E4208000 above
    ∷ case 0xE4E1C000 plain (on low 0 0) 0x0FF0 4 (scatter 17 (Some Sxtw)) (done 1 2 18 1) (placed_at 4 0 (take 2 (rows 0))) 0
    -- the "64-bit scaled" form of words: 2000000000000001h times 4
    ∷ case 0xE521A000 plain (on high 0 0) 0x1004 4 (scatter 21 None) (Err (Fault 0 0x8000000000001004)) (replicate 4 0) 0
    -- document 02 (vii): "A byte store under a halfword counter writes every second byte": 000Ah counts two, bytes 0 and 2
    ∷ case 0xA1600000 streaming (on zeros 0x0A 0x00) 0x1000 4 (strided 27 (pos 0) 0) (done 2 2 30 2) (1 ∷ 0 ∷ 3 ∷ 0 ∷ []) 2
    -- a halfword store under a byte counter, one stretch: 0007h counts three bytes, so two halfwords
    ∷ case 0xA1602000 streaming (on zeros 0x07 0x00) 0x1000 4 (strided 31 (pos 0) 0) (done 2 4 20 1) (take 4 (rows 0)) 3
    -- document 02 (vi): "under the early edition VB may be any multiple of 16": VB 48 has three quadwords, here one run
    ∷ case 0xE4202020 (quadwords true false) at48 0x1000 48 quadword (done 3 48 64 1) threes 0
    -- "under the late one the five of document 01", and "With streaming on, the five hold under both"
    ∷ case 0xE4202020 (quadwords false false) at48 0x1000 48 quadword (Err Length) (replicate 48 0) 0
    ∷ case 0xE4202020 (quadwords true true) at48 0x1000 48 quadword (Err Length) (replicate 48 0) 0
    -- so a strided word gets 1 with streaming on, and 5 with it off
    ∷ case 0xA1606000 (quadwords true true) at48 0x1000 48 (strided 10 (pos 0) 0) (Err Length) (replicate 48 0) 0
    ∷ case 0xA1606000 (quadwords true false) at48 0x1000 48 (strided 10 (pos 0) 0) (Err Illegal) (replicate 48 0) 0
    -- document 02 (viii): doublewords at 1000h and 1004h "share a byte", strict or not; at 1000h and 1008h they don't
    ∷ case 0xE581A000 strict (pair 4) 0x1000 16 (scatter 4 None) (Err (Overlap 1 0x1004)) (replicate 16 0) 0
    ∷ case 0xE581A000 plain (pair 4) 0x1000 16 (scatter 4 None) (done 2 16 28 2) (take 4 (rows 0) ++ (drop 8 (rows 0) ++ replicate 4 0)) 0
    ∷ case 0xE581A000 strict (pair 8) 0x1000 16 (scatter 4 None) (done 2 16 32 1) (rows 0) 0
    ∷ []

-- ---- what the definitions say

pub record Outcome : Type 0 where
  pub decoded : Option Store
  pub verdict : Verdict
  pub memory : List ℕ
  pub count : ℕ

abbrev pub verdict_in : Case → Verdict
verdict_in c = verdict_of c.flags c.state c.base c.long c.word 1040

abbrev pub outcome : Case → Outcome
outcome c =
    record {
      decoded = decode_of c.word;
      verdict = verdict_in c;
      memory = memory_after (verdict_in c) c.base (replicate c.long 0) (elements_for c.state (decode_of c.word));
      count = count_in c.state.vb (counter_of c.state 0);
    }

abbrev pub expected : Case → Outcome
expected c = record { decoded = c.decoded; verdict = c.verdict; memory = c.memory; count = c.count }

-- every case of the table comes out as the papers say
abbrev pub StarredCases : Type 0
StarredCases = map outcome cases ≡ map expected cases
