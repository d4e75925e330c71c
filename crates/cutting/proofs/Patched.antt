-- From the elements' keys, joined and in ascending order, to the whole buffer. Assumes nothing.
use mathlib.Core.Path.{◌≡◌, ap, ◌∙◌}
use Prim.Native.Nat.{ℕ, ◌+◌, ◌*◌, ◌^◌, ◌≤◌}
use mathlib.Core.List.{List, ◌++◌}
use lib.ListN.{length, drop}
use Rattle.endian.specs.LittleEndian.{Bytes}
use Rattle.writes.specs.Encoding.{encode_runs, encode}
use Rattle.writes.specs.Elements.{Element, net_effect, written}
use Rattle.endian.specs.Overwriting.{overwritten}
use Rattle.ordering.specs.Keys.{sorted}
use Rattle.cutting.specs.Cutting.{Fits}
use Rattle.stretches.specs.Intervals.{total}
use Rattle.stretches.specs.Stretches.{Seen, keys_of, joined, merged, sum, Ordered}
use Rattle.stretches.proofs.Merging.{separate-merged}
use Rattle.stretches.proofs.Keying.{stretches-rising, stretches-sum, stretches-cover}
use Rattle.cutting.specs.Cutting.{cut}
use Rattle.cutting.proofs.Made.{made-length, made-buffer}

module _ (W size : ℕ) (mem : List ℕ) (es : List Element) (t : W + length mem ≤ 2 ^ 64) (small : length mem ≤ 65536) (b : Bytes mem)
    (o : 1 ≤ size)
    (w : size ≤ 256) (f : Fits W (length mem) es) (s : Seen W (length mem) size 0 es) (few : length es * size ≤ 256) (S : List ℕ)
    (e : S ≡ sorted (joined size (keys_of W size es))) where
  -- what compose requires
  pub patch-ordered : Ordered S (length mem)
  patch-ordered =
      record {
        small = small;
        rising = rw e (stretches-rising W (length mem) size o w es s few);
      }

  -- what has_room requires
  pub patch-sum : sum S ≡ length es * size
  patch-sum = ap sum e ∙ stretches-sum W (length mem) size o w es s few

  -- the patch's length, known before memory is written
  pub patch-length : length (encode (net_effect es)) ≡ total (merged S) + 4
  patch-length =
      rw e
      (made-length W mem es (merged (sorted (joined size (keys_of W size es)))) t b f
      (separate-merged (length mem) (sorted (joined size (keys_of W size es))) (stretches-rising W (length mem) size o w es s few))
      (stretches-cover W (length mem) size o w es s few))

  -- the buffer, after the elements were written in turn and the patch was composed from memory
  pub patch-made : (mem' out out' : List ℕ) → mem' ≡ written W mem es
      → out' ≡ overwritten out 0 (encode_runs (cut W mem' (merged S)))
      → out' ≡ encode (net_effect es) ++ drop (length (encode (net_effect es))) out
  patch-made mem' out out' em eo =
      made-buffer W mem es (merged (sorted (joined size (keys_of W size es)))) t b f
      (separate-merged (length mem) (sorted (joined size (keys_of W size es))) (stretches-rising W (length mem) size o w es s few))
      (stretches-cover W (length mem) size o w es s few) mem' out out' em
      (eo ∙ ap (λ (K : List ℕ). overwritten out 0 (encode_runs (cut W mem' (merged K)))) e)
