-- The whole example: what is due and the patches by computation, the rest by demand 3. Assumes nothing.
use Rattle.std.specs.Prelude.{Err}
use mathlib.Core.Path.{◌≡◌, refl, ◌∙◌, subst}
use mathlib.Core.List.{List, [], ◌∷◌}
use Prim.Native.Nat.{ℕ, ◌≤◌}
use native.Mathlib.Omega.{arith}
use lib.Dec.{T, ltb, ltb→lt}
use lib.Ieee.Fits.{and_l, and_r}
use lib.ListN.{length, replicate}
use Rattle.encoding.specs.Classes.{classes, class_at, position, any, every_below, inside, belongs, has}
use Rattle.encoding.specs.Decoding.{multiple_of, store_of, index_of, decode_of}
use Rattle.encoding.specs.Encoding.{row_of, lowest}
use Rattle.encoding.proofs.Tests.{every}
use Rattle.endian.specs.LittleEndian.{Bytes, le_val, le_bytes}
use Rattle.writes.specs.Sets.{join, runs, writes_at}
use Rattle.writes.specs.Elements.{below, from, splice, splice_all, steps_from}
use Rattle.writes.specs.Encoding.{run_then, runs_then, trailer, encode_runs, encode}
use Rattle.writes.specs.Examples.{example_patch}
use Rattle.window.specs.Window.{window_ok, in_window}
use Rattle.elements.specs.Machine.{Machine, bit_at}
use Rattle.elements.specs.Counter.{lowest_set, highest, count_in, mask_bit}
use Rattle.elements.specs.Elements.{active_at, element_at, actives, elements}
use Rattle.verdicts.specs.Verdicts.{patch_of, one_of_five, length_ok, registers_ok, first_outside, decided, verdict_of, done}
use Rattle.verdicts.specs.declared.Flags.{Flags}
use Rattle.verdicts.specs.declared.Refusal.TheVariants.{Length}
use Rattle.demands.specs.Demand3.{NoneDue, DoneOver, patch_for}
use Rattle.demands.proofs.Demand3.{filled, demand3}
use Rattle.starred.specs.Cases.{plain, streaming}
use Rattle.starred.specs.Examples.{word, first, second, idle, HandsOn, Hands, WholeExample, largest, LargestStorePatch}
use Rattle.starred.specs.Examples.{older, twelve, BothEditions}

-- ---- what is lent are bytes

are-bytes : (l : List ℕ) → T (every (λ b. ltb b 256) l) → Bytes l
unfolding every
are-bytes [] t = tt
are-bytes (b ∷ bs) t =
    let rest = every (λ b. ltb b 256) bs in
    (ltb→lt b 256 (and_l (ltb b 256) rest t), are-bytes bs (and_r (ltb b 256) rest t))

lent : Bytes first.z × Bytes second.z × Bytes idle.z × Bytes largest.z × Bytes twelve.z
unfolding every
lent = (are-bytes first.z tt, are-bytes second.z tt, are-bytes idle.z tt, are-bytes largest.z tt, are-bytes twelve.z tt)

-- ---- computed

due : NoneDue plain first 0x1000 6 word × NoneDue plain second 0x1000 6 word × NoneDue plain idle 0x1000 0 word
unfolding classes class_at position any every_below inside belongs has store_of index_of decode_of row_of le_val window_ok in_window
    bit_at active_at element_at actives elements one_of_five length_ok registers_ok first_outside
due = (
  (refl, (refl, (refl, (refl, (refl, (refl, (refl, (refl, tt)))))))),
  (refl, (refl, (refl, (refl, (refl, (refl, (refl, (refl, tt)))))))),
  (refl, (refl, (refl, (refl, (refl, (refl, (refl, (refl, tt)))))))),
)

strings : (patch_for first word ≡ example_patch) × (patch_for second word ≡ example_patch)
    × (patch_for idle word ≡ 0x50 ∷ 0x45 ∷ 0 ∷ 0 ∷ [])
unfolding classes class_at position any every_below inside belongs has store_of index_of decode_of row_of le_val bit_at active_at
    element_at actives elements patch_of splice_all splice below from writes_at encode encode_runs runs_then run_then trailer runs
    join le_bytes
strings = (refl, refl, refl)

counted : verdict_of plain first 0x1000 6 word 31 ≡ done 4 4 31 3
unfolding classes class_at position any every_below inside belongs has store_of index_of decode_of row_of le_val window_ok in_window
    bit_at active_at element_at actives elements patch_of splice_all splice below from writes_at encode encode_runs runs_then
    run_then trailer runs join le_bytes one_of_five length_ok registers_ok first_outside decided verdict_of steps_from
counted = refl

largest-due : NoneDue streaming largest 0x1000 1023 0xA1608000
unfolding classes class_at position any every_below inside belongs has multiple_of store_of index_of decode_of row_of le_val
    window_ok in_window lowest_set lowest highest count_in mask_bit active_at element_at actives elements one_of_five length_ok
    registers_ok first_outside
largest-due = (refl, (refl, (refl, (refl, (refl, (refl, (refl, (refl, tt))))))))

largest-length : length (patch_for largest 0xA1608000) ≡ 6660
unfolding classes class_at position any every_below inside belongs has multiple_of store_of index_of decode_of row_of le_val
    lowest_set lowest highest count_in mask_bit active_at element_at actives elements patch_of splice_all splice below from
    writes_at encode encode_runs runs_then run_then trailer runs join le_bytes
largest-length = refl

-- ---- by demand 3

handed-on : (f : Flags) (m : Machine) (L : ℕ) (s : List ℕ) → DoneOver f m 0x1000 L word → patch_for m word ≡ s → HandsOn f m L s
unfolding patch_of
handed-on f m L s d q =
    let h = demand3.has_a_patch f m 0x1000 L word d in
    subst (HandsOn f m L) (h.2.bytes ∙ q) h.4

handed : (m : Machine) (L : ℕ) (s : List ℕ) → DoneOver plain m 0x1000 L word → patch_for m word ≡ s → Hands m L s
handed m L s d q = handed-on plain m L s d q

pub whole-example : WholeExample
whole-example =
    let d : DoneOver plain first 0x1000 6 word = record { none_due = due.0; lent = lent.0 } in
    let d₁ : DoneOver plain second 0x1000 6 word = record { none_due = due.1; lent = lent.1 } in
    let d₂ : DoneOver plain idle 0x1000 0 word = record { none_due = due.2; lent = lent.2 } in
    let h = handed first 6 example_patch d strings.0 in
    let h₁ = handed second 6 example_patch d₁ strings.1 in
    let mem : List ℕ = replicate 6 0 in
    let zeros = filled 6 0 (omega arith) in
    let room : length example_patch ≤ length example_patch = omega arith in
    record {
      first_done = d;
      second_done = d₁;
      counted = counted;
      first_patch = h;
      second_patch = h₁;
      same_memory =
          (demand3.same 0x1000 6 plain plain first second word word d d₁ mem mem example_patch example_patch example_patch example_patch
          zeros zeros (h mem example_patch zeros room) (h₁ mem example_patch zeros room)).0 refl;
      idle_done = d₂;
      idle_patch = handed idle 0 (0x50 ∷ 0x45 ∷ 0 ∷ 0 ∷ []) d₂ strings.2;
    }

-- ---- document 02 (vi)

older-due : NoneDue older twelve 0x1000 6 word
unfolding classes class_at position any every_below inside belongs has store_of index_of decode_of row_of le_val window_ok in_window
    bit_at active_at element_at actives elements one_of_five length_ok registers_ok first_outside
older-due = (refl, (refl, (refl, (refl, (refl, (refl, (refl, (refl, tt))))))))

older-string : patch_for twelve word ≡ example_patch
unfolding classes class_at position any every_below inside belongs has store_of index_of decode_of row_of le_val bit_at active_at
    element_at actives elements patch_of splice_all splice below from writes_at encode encode_runs runs_then run_then trailer runs
    join le_bytes
older-string = refl

older-counted : (verdict_of older twelve 0x1000 6 word 31 ≡ done 4 4 31 3) × (verdict_of plain twelve 0x1000 6 word 31 ≡ Err Length)
unfolding classes class_at position any every_below inside belongs has store_of index_of decode_of row_of le_val window_ok in_window
    bit_at active_at element_at actives elements patch_of splice_all splice below from writes_at encode encode_runs runs_then
    run_then trailer runs join le_bytes one_of_five length_ok registers_ok first_outside decided verdict_of steps_from
older-counted = (refl, refl)

pub both-editions : BothEditions
both-editions =
    let d : DoneOver older twelve 0x1000 6 word = record { none_due = older-due; lent = lent.4 } in
    let d₁ : DoneOver plain first 0x1000 6 word = record { none_due = due.0; lent = lent.0 } in
    let h = handed-on older twelve 6 example_patch d older-string in
    let h₁ = handed-on plain first 6 example_patch d₁ strings.0 in
    let mem : List ℕ = replicate 6 0 in
    let zeros = filled 6 0 (omega arith) in
    let room : length example_patch ≤ length example_patch = omega arith in
    record {
      early_done = d;
      late_done = d₁;
      early_counted = older-counted.0;
      early_patch = h;
      late_patch = h₁;
      same_memory =
          (demand3.same 0x1000 6 older plain twelve first word word d d₁ mem mem example_patch example_patch example_patch example_patch
          zeros zeros (h mem example_patch zeros room) (h₁ mem example_patch zeros room)).0 refl;
      refused = older-counted.1;
    }

pub largest-store-patch : LargestStorePatch
largest-store-patch = (record { none_due = largest-due; lent = lent.3 }, largest-length)
