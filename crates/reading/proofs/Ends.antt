-- What is read, by where the steps end. Assumes nothing.
use mathlib.Core.Path.{◌≡◌, refl, sym, ap, ◌∙◌}
use Prim.Native.Nat.{ℕ, ◌+◌, ◌-◌, ◌≤◌}
use mathlib.Core.List.{List}
use native.Mathlib.Omega.{arith}
use lib.ListN.{length}
use Rattle.std.specs.Prelude.{Ok, Err}
use Rattle.writes.specs.Sets.{Run, payload}
use Rattle.endian.proofs.Order.{absurdly}
use Rattle.reading.specs.Reader.{Found, whole, broken, read_at}
use Rattle.reading.specs.Stops.{behind, stop_of, reading}
use Rattle.reading.specs.declared.Cursor.{Cursor}
use Rattle.reading.proofs.Loops.{read_fits}

-- the cursor stands at the trailer behind what is read, or behind the runs that could be taken
pub record AtTrailer (s : List ℕ) (a : ℕ) (c : Cursor) : Type 0 where
  pub runs : List Run
  pub found : read_at s a ≡ whole runs (c.at + 4)
  pub is : c ≡ behind runs c.at

pub record AtBroken (s : List ℕ) (a : ℕ) (c : Cursor) : Type 0 where
  pub runs : List Run
  pub found : read_at s a ≡ broken runs c.at
  pub is : c ≡ behind runs c.at

module _ (s : List ℕ) (a : ℕ) (c : Cursor) where
  pub at-trailer : Ok c ≡ stop_of (read_at s a) → AtTrailer s a c
  unfolding stop_of
  at-trailer h = go (read_at s a) refl
    where
      go : (o : Found) → read_at s a ≡ o → AtTrailer s a c
      go (whole rs e) q =
          let t = h ∙ ap stop_of q in
          let w : c ≡ behind rs (e - 4) = cc in
          let i : c.at ≡ e - 4 = ap (λ (z : Cursor). z.at) w in
          record {
            runs = rs;
            found = q ∙ ap (whole rs) (omega (arith, read_fits s a rs e q));
            is = w ∙ ap (behind rs) (sym i);
          }
      go (broken rs e) q = let t = h ∙ ap stop_of q in absurdly cc

  pub at-broken : Err c ≡ stop_of (read_at s a) → AtBroken s a c
  unfolding stop_of
  at-broken h = go (read_at s a) refl
    where
      go : (o : Found) → read_at s a ≡ o → AtBroken s a c
      go (whole rs e) q = let t = h ∙ ap stop_of q in absurdly cc
      go (broken rs e) q =
          let t = h ∙ ap stop_of q in
          let w : c ≡ behind rs e = cc in
          let i : c.at ≡ e = ap (λ (z : Cursor). z.at) w in
          record { runs = rs; found = q ∙ ap (broken rs) (sym i); is = w ∙ ap (behind rs) (sym i) }

  pub stop-fits : Ok c ≡ stop_of (read_at s a) → c.at + 4 ≤ length s
  stop-fits h = let k = at-trailer h in omega (arith, read_fits s a k.runs (c.at + 4) k.found)

  pub read-ended : Ok c ≡ stop_of (read_at s a)
      → Ok (record { at = c.at; end = c.at + 4; runs = c.runs; bytes = c.bytes }) ≡ reading (read_at s a)
  unfolding reading
  read-ended h =
      let k = at-trailer h in
      let z = ap reading k.found in
      let w : c.at + 4 - 4 ≡ c.at = omega arith in
      let x : c.runs ≡ length k.runs = ap (λ (y : Cursor). y.runs) k.is in
      let y : c.bytes ≡ payload k.runs = ap (λ (y : Cursor). y.bytes) k.is in
      cc

  pub read-broken : Err c ≡ stop_of (read_at s a) → Err (record { runs = c.runs; at = c.at }) ≡ reading (read_at s a)
  unfolding reading
  read-broken h =
      let k = at-broken h in
      let z = ap reading k.found in
      let x : c.runs ≡ length k.runs = ap (λ (y : Cursor). y.runs) k.is in
      cc
