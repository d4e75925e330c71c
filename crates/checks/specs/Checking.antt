-- What checks 1 to 6 find of a word's store: the refusal that is due, or what the store's elements have in common. For the contracts
-- of the code's own functions. Assumes nothing.
use Rattle.std.specs.Prelude.{ℕ, ◌*◌, ◌/◌, ◌%◌, ◌≤◌, Bool, true, not, cond, ◌&&◌, List, ◌≡◌, ltb, length}
use Rattle.std.specs.Prelude.{Result, Ok, Err}
use Rattle.encoding.specs.Decoding.{decode_of}
use Rattle.encoding.specs.Encoding.{class_for, feature_of}
use Rattle.encoding.specs.declared.Store.{Store}
use Rattle.encoding.specs.declared.Store.TheVariants as S
use Rattle.writes.specs.Elements.{Element, first_overlap}
use Rattle.window.specs.Window.{window_ok}
use Rattle.elements.specs.Machine.{Machine, register}
use Rattle.elements.specs.Elements.{elements}
use Rattle.elements.specs.Accesses.{VectorSound, StridedSound, vector_elements, strided_elements, scatter_access, strided_access}
use Rattle.elements.specs.Accesses.{quadword_access}
use Rattle.elements.specs.declared.VectorAccess.{VectorAccess}
use Rattle.verdicts.specs.Verdicts.{elements_for, patch_of, flag_on, illegal, on_stack, stack, first_outside, found, fault_of, overlap_of}
use Rattle.verdicts.specs.Verdicts.{done_of, verdict_of, refusal_number, Verdict}
use Rattle.verdicts.specs.declared.Flags.{Flags}
use Rattle.verdicts.specs.declared.Refusal.{Refusal}
use Rattle.verdicts.specs.declared.Refusal.TheVariants.{Undefined, Illegal, Stack, NoRoom}
use Rattle.checks.specs.declared.Access.{Access}
use Rattle.checks.specs.declared.Access.TheVariants.{Vector, Strided}

-- what verdicts 1 and 2 leave of VB and the buffers
pub record Sound (vb : ℕ) (z p : List ℕ) : Type 0 where
  pub low : 16 ≤ vb
  pub high : vb ≤ 256
  pub sixteen : vb % 16 ≡ 0
  pub long_z : length z ≡ 32 * vb
  pub long_p : length p ≡ 2 * vb

-- a store's access: what its elements have in common
abbrev pub access_for : Machine → Store → Access
access_for m (S.Scatter f) = Vector (scatter_access m (class_for (S.Scatter f)) f)
access_for m (S.Strided f) = Strided (strided_access m (class_for (S.Strided f)) f)
access_for m (S.Quadword f) = Vector (quadword_access m (class_for (S.Quadword f)) f)

-- the active elements of a scatter or quadword store's access in the registers that it names
abbrev pub vectors_in : VectorAccess → ℕ → List ℕ → List ℕ → List Element
vectors_in v vb z p = vector_elements v (register vb z v.offsets) (register (vb / 8) p v.governing) (register vb z v.stored)

-- of any access, and that it is sound on a machine with registers of vb bytes
abbrev pub elements_in : Access → ℕ → List ℕ → List ℕ → List Element
elements_in (Vector v) vb z p = vectors_in v vb z p
elements_in (Strided s) vb z p = strided_elements s vb z

abbrev pub AccessSound : Access → ℕ → Type 0
AccessSound (Vector v) vb = VectorSound v vb
AccessSound (Strided s) vb = StridedSound s vb

-- verdicts 4 to 6 for a decoded store, or its access
abbrev pub checked_for : Flags → Machine → Store → Result Access Refusal
checked_for f m s =
    cond (not (flag_on f (feature_of s))) (Err Undefined)
    (cond (illegal f (feature_of s)) (Err Illegal)
    (cond (stack f m.sp (on_stack s) (elements m s)) (Err Stack) (Ok (access_for m s))))

-- verdicts 7, 12 and 8, or done, for these elements of `size` bytes each, strict or not
abbrev pub concluded : Bool → ℕ → ℕ → ℕ → ℕ → List Element → Verdict
concluded strict W L room size es =
    cond (found (first_outside W L es)) (Err (fault_of W L (first_outside W L es)))
    (cond (strict && found (first_overlap es)) (Err (overlap_of (first_overlap es)))
    (cond (ltb room (length (patch_of es))) (Err NoRoom) (done_of es size)))

-- none of 1 to 6 is due: the word's store has these active elements of `size` bytes each, and 7, 12 and 8 decide
pub record Passed (f : Flags) (m : Machine) (W L word : ℕ) (es : List Element) (size : ℕ) : Type 0 where
  pub registers : Sound m.vb m.z m.p
  pub window : window_ok W L ≡ true
  pub listed : elements_for m (decode_of word) ≡ es
  pub verdict : (room : ℕ) → verdict_of f m W L word room ≡ concluded f.strict W L room size es

-- what checking answers on flags and machine, for the window of L bytes at W and the word: one of refusals 1 to 6, or an access. Which
-- access is left free, but it is sound and its active elements are the store's
unfoldable pub CheckedAs : Flags → Machine → ℕ → ℕ → ℕ → Result Access Refusal → Type 0
CheckedAs f m W L word (Err r) = (refusal_number r ≤ 6) × ((room : ℕ) → verdict_of f m W L word room ≡ Err r)
CheckedAs f m W L word (Ok (Vector v)) = VectorSound v m.vb × Passed f m W L word (vectors_in v m.vb m.z m.p) v.size
CheckedAs f m W L word (Ok (Strided s)) = StridedSound s m.vb × Passed f m W L word (strided_elements s m.vb m.z) s.size
