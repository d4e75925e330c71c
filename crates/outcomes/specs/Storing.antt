-- The merged call of document 02 (ix): "one call checks 1 to 7, 12 and 8 in that order, then writes memory and patch buffer together. On
-- any refusal both stay unchanged." Assumes nothing.
use Rattle.std.specs.Prelude.{ℕ, List, [], ◌∷◌, ◌++◌, ◌≡◌, length, drop, Ok, Err}
use Rattle.encoding.specs.Decoding.{decode_of}
use Rattle.writes.specs.Elements.{Element, written}
use Rattle.elements.specs.Machine.{Machine}
use Rattle.verdicts.specs.Verdicts.{elements_for, patch_of, verdict_of, detail, Verdict}
use Rattle.verdicts.specs.declared.Flags.{Flags}

-- the elements written in turn where the verdict is done, else as it came: "Arm lets a faulting store have written part; ours has
-- written nothing."
abbrev pub memory_after : Verdict → ℕ → List ℕ → List Element → List ℕ
memory_after (Ok d) W mem es = written W mem es
memory_after (Err r) W mem es = mem

-- the patch is "the buffer's first bytes, as many as the reported length"; "After a done, bytes of the buffer behind the patch are
-- unchanged."
abbrev pub buffer_after : Verdict → List ℕ → List ℕ → List ℕ
buffer_after (Ok d) patch buffer = patch ++ drop (length patch) buffer
buffer_after (Err r) patch buffer = buffer

-- a call on flags f and machine m, with the window of `mem` at W, a word and a patch buffer: the answer, and memory and buffer at exit
pub record Stored (f : Flags) (m : Machine) (W : ℕ) (mem : List ℕ) (word : ℕ) (buffer : List ℕ) (v : Verdict)
    (mem' buffer' : List ℕ) : Type 0 where
  pub answer : v ≡ verdict_of f m W (length mem) word (length buffer)
  pub memory : mem' ≡ memory_after v W mem (elements_for m (decode_of word))
  pub patch : buffer' ≡ buffer_after v (patch_of (elements_for m (decode_of word))) buffer

-- ---- document 01's numbers

-- element and address of the detail, active elements, bytes moved, the patch's length, and the steps: "Done [..] has zeros as its
-- detail; a refusal's counts and lengths are 0."
abbrev pub numbers : Verdict → List ℕ
numbers (Ok d) = 0 ∷ 0 ∷ d.elements ∷ d.bytes ∷ d.length ∷ d.steps ∷ []
numbers (Err r) = detail r ++ (0 ∷ 0 ∷ 0 ∷ 0 ∷ [])
