-- `finish`, from keys to memory and patch: what each step requires, and what is answered. Assumes nothing.
use Rattle.std.specs.Prelude.{Err, Some, None, is_some}
use mathlib.Core.Path.{◌≡◌, refl, sym, ap, ap₂, ◌∙◌, subst}
use Prim.Native.Nat.{ℕ, suc, ◌+◌, ◌-◌, ◌*◌, ◌^◌, ◌≤◌, ◌<◌}
use mathlib.Core.Bool.{Bool, true, false, not, cond, ◌&&◌}
use mathlib.Core.List.{List, [], ◌∷◌}
use mathlib.Core.Option.{none, some}
use native.Mathlib.Nat.{suc-mul}
use native.Mathlib.Omega.{arith}
use lib.Dec.{leb}
use lib.ListN.{length, get_or}
use borrow.Author.Tests.{leb-false, lt-leb, le-ltb}
use Rattle.endian.specs.LittleEndian.{Bytes}
use Rattle.writes.specs.Encoding.{encode_runs, encode}
use Rattle.writes.specs.Elements.{Element, net_effect, written, steps_of, first_overlap}
use Rattle.endian.specs.Overwriting.{overwritten}
use Rattle.ordering.specs.Keys.{number_of, filed, sorted, Each}
use Rattle.ordering.proofs.Sorting.{length-sorted}
use Rattle.stretches.specs.Intervals.{Interval, interval, total}
use Rattle.stretches.specs.Stretches.{start_of, bytes_of, keys_of, joined, merged_from, merged, sum, Sized, Ordered}
use Rattle.stretches.proofs.Joining.{open-one}
use Rattle.stretches.proofs.Keying.{keys-sized, length-keys, stretches-steps}
use Rattle.overlapping.specs.Overlaps.{parted, first_meeting}
use Rattle.overlapping.proofs.Keyed.{none_shared, key-names, stretches-shared}
use Rattle.cutting.specs.Cutting.{cut}
use Rattle.cutting.proofs.Patched.{patch-ordered, patch-sum, patch-length, patch-made}
use Rattle.verdicts.specs.Verdicts.{patch_of, Verdict, done}
use Rattle.verdicts.specs.declared.Refusal.TheVariants.{Overlap, NoRoom}
use Rattle.outcomes.specs.Steps.{StoredUnder, StoredOf}
use Rattle.writing.specs.Writing.{put_all, Placed}
use Rattle.writing.proofs.Writing.{keys-placed, keys-written}
use Rattle.vectors.specs.Steps.{Ready}
use Rattle.outcomes.proofs.Concluding.{stored_short, stored-done, under-clear, stored-overlap}

module _ (W step size : ℕ) (mem stored K : List ℕ) (es : List Element) (R : Ready W (length mem) step size stored K es) where
  pub ready-count : length K ≡ length es
  ready-count = ap length R.keys ∙ length-keys W (length mem) size R.some R.wide es

  few : length es * size ≤ 256
  few = subst (λ (z : ℕ). z * size ≤ 256) ready-count R.bytes

  sizes : Each (λ k. bytes_of k ≡ size) K
  sizes = subst (Each (λ k. bytes_of k ≡ size)) (sym R.keys) (keys-sized W (length mem) size R.some R.wide 0 es R.seen)

  pub ready-sized : Sized K size
  ready-sized = record { some = R.some; few = R.bytes; each = sizes }

  pub ready-placed : Each (λ k. Placed step size (length mem) (length stored) k) K
  ready-placed =
      subst (Each (λ k. Placed step size (length mem) (length stored) k)) (sym R.keys)
      (keys-placed W (length mem) step size stored R.some R.wide 0 es R.seen R.held)

  ready-written : put_all step size stored K mem ≡ written W mem es
  ready-written =
      ap (λ (L : List ℕ). put_all step size stored L mem) R.keys
      ∙ keys-written W (length mem) step size stored R.some R.wide 0 mem es R.seen R.held

  -- ---- elements that share a byte

  -- none does where no key does
  ready-clear : is_some (first_meeting K) ≡ false → first_overlap es ≡ none
  ready-clear q =
      none_shared W (length mem) size R.some R.wide es R.seen (ap (λ (L : List ℕ). is_some (first_meeting L)) (sym R.keys) ∙ q)

  module _ (k : ℕ) (q : first_meeting K ≡ Some k) where
    named : (x : Element) × (first_overlap es ≡ some x) × (number_of k ≡ x.number) × (W + start_of k ≡ x.address)
        × (x.address + size ≤ W + length mem)
    named =
        key-names W (length mem) size R.some R.wide es R.seen k (sym (ap (λ (L : List ℕ). first_meeting L) R.keys) ∙ q)

    -- its first address is one of 64 bits
    pub ready-address : W + start_of k < 2 ^ 64
    ready-address = omega (arith, named.3, named.4, R.top, R.some)

    pub ready-overlap : (strict : Bool) → strict ≡ true → (out : List ℕ) (e a : ℕ) → e ≡ number_of k → a ≡ W + start_of k
        → StoredUnder strict W size mem out es (Err (Overlap e a)) mem out
    ready-overlap strict t out e a en ea =
        stored-overlap strict t R.inside e a named.0 named.1 (en ∙ named.2) (ea ∙ named.3)

  module _ (S : List ℕ) (s : S ≡ sorted (joined size K)) (b : Bytes mem) where
    sorted-are : S ≡ sorted (joined size (keys_of W size es))
    sorted-are = s ∙ ap (λ (L : List ℕ). sorted (joined size L)) R.keys

    pub ready-ordered : Ordered S (length mem)
    ready-ordered = patch-ordered W size mem es R.top R.small b R.some R.wide R.fits R.seen few S sorted-are

    pub ready-sum : sum S ≡ length K * size
    ready-sum =
        patch-sum W size mem es R.top R.small b R.some R.wide R.fits R.seen few S sorted-are
        ∙ ap (λ (z : ℕ). z * size) (sym ready-count)

    long : length (encode (net_effect es)) ≡ total (merged S) + 4
    long = patch-length W size mem es R.top R.small b R.some R.wide R.fits R.seen few S sorted-are

    -- a stretch is a step
    steps : length S ≡ steps_of es
    steps =
        ap length sorted-are ∙ length-sorted (joined size (keys_of W size es))
        ∙ stretches-steps W (length mem) size R.some R.wide es R.seen

    -- the pass over the stretches tells whether two keys share a byte
    pub ready-parted : not (parted 0 S) ≡ is_some (first_meeting K)
    ready-parted =
        ap (λ (L : List ℕ). not (parted 0 L)) sorted-are
        ∙ stretches-shared W (length mem) size R.some R.wide es R.seen few
        ∙ ap (λ (L : List ℕ). is_some (first_meeting L)) (sym R.keys)

    -- where 12 isn't due, what is answered with strict off
    pub ready-under : (strict : Bool) → cond (strict && not (parted 0 S)) (first_meeting K) None ≡ None
        → {out mem' out' : List ℕ} {v : Verdict} → StoredOf W size mem out es v mem' out' → StoredUnder strict W size mem out es v mem' out'
    ready-under strict q {out} {mem'} {out'} {v} a = go strict (not (parted 0 S)) ready-parted q
      where
        go : (t p : Bool) → p ≡ is_some (first_meeting K) → cond (t && p) (first_meeting K) None ≡ None
            → StoredUnder t W size mem out es v mem' out'
        go false p e q = a
        go true true e q = under-clear true a (ready-clear (ap is_some q))
        go true false e q = under-clear true a (ready-clear (sym e))

    pub ready-short : (out : List ℕ) → leb (total (merged S) + 4) (length out) ≡ false → StoredOf W size mem out es (Err NoRoom) mem out
    unfolding patch_of
    ready-short out h =
        stored_short W size mem out es R.inside (omega (arith, long, leb-false (total (merged S) + 4) (length out) h))

    pub ready-done : (out mem' out' : List ℕ) (k b' r m : ℕ) → total (merged S) + 4 ≤ length out → k ≡ length K → b' ≡ length K * size
        → mem' ≡ put_all step size stored K mem → r ≡ total (merged S) + 4
        → out' ≡ overwritten out 0 (encode_runs (cut W mem' (merged S)))
        → m ≡ length S
        → StoredOf W size mem out es (done k b' r m) mem' out'
    unfolding patch_of
    ready-done out mem' out' k b' r m h ek eb em er eo es' =
        stored-done W size mem out es R.inside k b' r m mem' out' (ek ∙ ready-count) (eb ∙ ap (λ (z : ℕ). z * size) ready-count)
        (er ∙ sym long) (es' ∙ steps)
        (omega (arith, long)) (em ∙ ready-written)
        (patch-made W size mem es R.top R.small b R.some R.wide R.fits R.seen few S sorted-are mem' out out' (em ∙ ready-written) eo)

  -- ---- one stretch: the first key, with the bytes of all

  module _ (one : length (joined size K) ≡ 1) where
    pub one-some : 0 < length K
    unfolding joined
    one-some = go K one
      where
        go : (L : List ℕ) → length (joined size L) ≡ 1 → 0 < length L
        go [] e = absurd (omega arith)
        go (k ∷ L) e = omega arith

    -- one before the last, in bytes
    abbrev rest : ℕ
    rest = (length K - 1) * size

    abbrev stretch : ℕ
    stretch = get_or K 0 0 + rest * 256

    all : rest + size ≡ length K * size
    all =
        let w : length K ≡ suc (length K - 1) = omega (arith, one-some) in
        sym (ap (λ (z : ℕ). z * size) w ∙ suc-mul (length K - 1) size)

    one-joined : stretch ∷ [] ≡ joined size K
    unfolding joined
    one-joined = go K one
      where
        go : (L : List ℕ) → length (joined size L) ≡ 1 → (get_or L 0 0 + (length L - 1) * size * 256) ∷ [] ≡ joined size L
        go [] e = absurd (omega arith)
        go (k ∷ L) e =
            let w : suc (length L) - 1 ≡ length L = omega arith in
            ap (λ (z : ℕ). (k + z * size * 256) ∷ []) w ∙ sym (open-one size k k L e)

    first-bytes : bytes_of (get_or K 0 0) ≡ size
    first-bytes = go K one-some sizes
      where
        go : (L : List ℕ) → 0 < length L → Each (λ k. bytes_of k ≡ size) L → bytes_of (get_or L 0 0) ≡ size
        go [] h e = absurd (omega arith)
        go (k ∷ L) h e = e.0

    one-start : start_of stretch ≡ start_of (get_or K 0 0)
    one-start = omega (arith, first-bytes, all, R.bytes)

    one-bytes : bytes_of stretch ≡ length K * size
    one-bytes = omega (arith, first-bytes, all, R.bytes)

    one-merged : merged (stretch ∷ []) ≡ interval (start_of (get_or K 0 0)) (length K * size) ∷ []
    unfolding merged merged_from
    one-merged =
        ap₂ (λ (x y : ℕ). interval x y ∷ []) one-start
        (let w : start_of stretch + bytes_of stretch - start_of stretch ≡ length K * size = omega (arith, one-bytes) in w)

    one-sorted : stretch ∷ [] ≡ sorted (joined size K)
    unfolding sorted filed
    one-sorted = ap sorted one-joined

    one-total : total (merged (stretch ∷ [])) + 4 ≡ length K * size + 16
    unfolding total
    one-total = omega (arith, ap total one-merged)

    pub one_inside : Bytes mem → start_of (get_or K 0 0) + length K * size ≤ length mem
    one_inside b = omega (arith, (ready-ordered (stretch ∷ []) one-sorted b).rising.1, one-start, one-bytes)

    -- one stretch shares no byte
    pub one-under : Bytes mem → (strict : Bool) {out mem' out' : List ℕ} {v : Verdict} → StoredOf W size mem out es v mem' out'
        → StoredUnder strict W size mem out es v mem' out'
    unfolding parted
    one-under b strict s =
        under-clear strict s
        (ready-clear (sym (ready-parted (stretch ∷ []) one-sorted b)
        ∙ ap (λ (t : Bool). not (cond t false true)) (le-ltb (start_of stretch) 0 (omega arith))))

    module _ (b : Bytes mem) (out : List ℕ) where
      pub one-short : length out < length K * size + 16 → StoredOf W size mem out es (Err NoRoom) mem out
      one-short h =
          ready-short (stretch ∷ []) one-sorted b out
          (lt-leb (total (merged (stretch ∷ [])) + 4) (length out) (omega (arith, one-total)))

      pub one-done : length K * size + 16 ≤ length out → (mem' out' : List ℕ) (k b' r : ℕ) → k ≡ length K → b' ≡ length K * size
          → mem' ≡ put_all step size stored K mem → r ≡ length K * size + 16
          → out' ≡ overwritten out 0 (encode_runs (cut W mem' (interval (start_of (get_or K 0 0)) (length K * size) ∷ [])))
          → StoredOf W size mem out es (done k b' r 1) mem' out'
      one-done h mem' out' k b' r ek eb em er eo =
          ready-done (stretch ∷ []) one-sorted b out mem' out' k b' r 1
          (omega (arith, one-total)) ek eb em (er ∙ sym one-total)
          (eo ∙ ap (λ (I : List Interval). overwritten out 0 (encode_runs (cut W mem' I))) (sym one-merged)) refl
