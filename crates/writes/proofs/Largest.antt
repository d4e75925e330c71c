-- A largest patch: as many runs as there may be, all of one byte but the last, which has what is left. Assumes nothing.
use mathlib.Core.Path.{◌≡◌, refl, ap, ◌∙◌}
use Prim.Native.Nat.{ℕ, zero, suc, ◌+◌, ◌-◌, ◌*◌, ◌^◌, ◌≤◌}
use mathlib.Core.List.{List, [], ◌∷◌}
use native.Mathlib.Omega.{arith}
use lib.ListN.{length, replicate, length-replicate}
use Rattle.writes.specs.Sets.{ByteWrite, Run, run, runs, writes_of, payload, Apart}
use Rattle.writes.specs.Sizes.{max_runs, max_bytes}
use Rattle.writes.specs.Encoding.{encode, PatchOf}
use Rattle.writes.proofs.Fillings.{bytes-replicate}
use Rattle.writes.proofs.Runs.{runs-writes_of, ascending-writes_of, payload-writes_of, length-encode}

-- k runs of one byte and a last of n, each one address behind the one before
spaced : ℕ → ℕ → ℕ → List Run
spaced f zero n = run f (replicate n 0) ∷ []
spaced f (suc k) n = run f (0 ∷ []) ∷ spaced (f + 1 + 1) k n

spaced-apart : (f k n : ℕ) → 1 ≤ n → f + 2 * k + n ≤ 2 ^ 64 → Apart f (spaced f k n)
unfolding spaced
spaced-apart f zero n h t =
    let l = length-replicate {A = ℕ} n 0 in
    (omega arith, omega arith, omega arith, bytes-replicate n 0 (omega arith), tt)
spaced-apart f (suc k) n h t =
    (omega arith, omega arith, omega arith, (omega arith, tt), spaced-apart (f + 1 + 1) k n h (omega arith))

spaced-runs : (f k n : ℕ) → length (spaced f k n) ≡ suc k
unfolding spaced
spaced-runs f zero n = refl
spaced-runs f (suc k) n = ap suc (spaced-runs (f + 1 + 1) k n)

spaced-payload : (f k n : ℕ) → payload (spaced f k n) ≡ k + n
unfolding spaced payload
spaced-payload f zero n = omega (arith, length-replicate {A = ℕ} n 0)
spaced-payload f (suc k) n = omega (arith, spaced-payload (f + 1 + 1) k n)

-- of any two numbers that leave a byte for each run and stay below 2^64
pub longest : (k n : ℕ) → 1 ≤ k → k ≤ n → k ≤ max_runs → n ≤ max_bytes → 2 * k + n ≤ 2 ^ 64
    → (S : List ByteWrite) × (s : List ℕ) × PatchOf S s × (length s ≡ 4 + 12 * k + n)
longest k n one each few small top =
    let rs = spaced 0 (k - 1) (n - (k - 1)) in
    let a : Apart 0 rs = spaced-apart 0 (k - 1) (n - (k - 1)) (omega arith) (omega arith) in
    let r : length (runs (writes_of rs)) ≡ k =
    ap length (runs-writes_of 0 rs a) ∙ spaced-runs 0 (k - 1) (n - (k - 1)) ∙ omega arith in
    let p : length (writes_of rs) ≡ n = omega (arith, payload-writes_of rs, spaced-payload 0 (k - 1) (n - (k - 1))) in (
      writes_of rs,
      encode (writes_of rs),
      record { within = record { set = ascending-writes_of 0 rs a; few = omega arith; small = omega arith }; bytes = refl },
      omega (arith, length-encode (writes_of rs)),
    )
