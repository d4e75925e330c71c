-- Document 02 (vii): under a counter a strided store's active elements are equally spaced, or one stretch, whatever their width. The proof
-- is `strided-spaced` in proofs/Spacing.antt. Assumes nothing.
use Rattle.std.specs.Prelude.{ℕ, ◌+◌, ◌-◌, ◌*◌, ◌/◌, ◌%◌, ◌≤◌, ◌<◌, ◌&&◌, ◌≡◌, eqb, leb, ltb, length, Some}
use Rattle.encoding.specs.Decoding.{decode_of}
use Rattle.encoding.specs.Encoding.{class_for}
use Rattle.encoding.specs.declared.Store.TheVariants.{Strided}
use Rattle.encoding.specs.declared.StridedFields.{StridedFields}
use Rattle.writes.specs.Elements.{steps_of}
use Rattle.elements.specs.Counter.{counter_of, unit_of}
use Rattle.elements.specs.Elements.{active_at, elements}
use Rattle.elements.specs.Machine.{Machine}
use Rattle.elements.specs.Stores.{size_of, count_of}
use Rattle.verdicts.specs.declared.Flags.{Flags}
use Rattle.demands.specs.Demand3.{DoneOver}

-- an element's bytes, and the counter's element size in bytes
abbrev pub bytes_of : StridedFields → ℕ
bytes_of f = size_of (class_for (Strided f))

abbrev pub unit_in : Machine → StridedFields → ℕ
unit_in m f = unit_of (counter_of m f.pc)

-- bytes from one element that can be active to the next: the larger of the two
abbrev pub gap_in : Machine → StridedFields → ℕ
gap_in m f = bytes_of f + (unit_in m f - bytes_of f)

pub record StridedSpaced : Type 0 where
  -- of a strided store's elements those are active whose first byte, among the bytes of all its registers, is a multiple of the gap,
  -- from one on and up to another
  pub equally : (m : Machine) (word : ℕ) (f : StridedFields) → decode_of word ≡ Some (Strided f) → m.vb % 16 ≡ 0
      → (low high : ℕ)
      × ((e : ℕ) → e < count_of m (Strided f)
      → active_at m (Strided f) e
      ≡ eqb (e * bytes_of f % gap_in m f) 0
      && (leb low (e * bytes_of f / gap_in m f) && ltb (e * bytes_of f / gap_in m f) high))
  -- of a done store: one step, or none, under a counter whose elements are no wider; else a step for each active element
  pub stretch : (fl : Flags) (m : Machine) (W L word : ℕ) (f : StridedFields) → DoneOver fl m W L word → decode_of word ≡ Some (Strided f)
      → unit_in m f ≤ bytes_of f → steps_of (elements m (Strided f)) ≤ 1
  pub gaps : (fl : Flags) (m : Machine) (W L word : ℕ) (f : StridedFields) → DoneOver fl m W L word → decode_of word ≡ Some (Strided f)
      → bytes_of f < unit_in m f → steps_of (elements m (Strided f)) ≡ length (elements m (Strided f))
