-- `lowest_set`: the zeros below the lowest set bit, three at most. No loop. Assumes nothing.
use Rattle.std.proofs.Common.{◌≡◌, ℕ, suc, ◌/◌, ◌%◌, ◌<◌, ◌≤◌, min, ap, ◌∙◌, arith}
use Rattle.std.specs.Int.Count.{count_trailing_zeros}
use lib.Count.{under}
use Rattle.std.proofs.lemmas.Bool.Decides.{nat_tests}
use Rattle.elements.specs.Counter.{lowest_set}
use Rattle.counters.proofs.lowest_set.Goals as goal

module _ (k v : ℕ) where
  odd : 1 ≤ v % 2 → count_trailing_zeros (suc k) v ≡ 0
  unfolding count_trailing_zeros
  odd h = let e : v % 2 ≡ 1 = omega arith in ap (λ (d : ℕ). under d (count_trailing_zeros k (v / 2))) e

  even : v % 2 < 1 → count_trailing_zeros (suc k) v ≡ suc (count_trailing_zeros k (v / 2))
  unfolding count_trailing_zeros
  even h = let e : v % 2 ≡ 0 = omega arith in ap (λ (d : ℕ). under d (count_trailing_zeros k (v / 2))) e

lowest : (k v : ℕ) → min (count_trailing_zeros (suc (suc (suc k))) v) 3 ≡ lowest_set v
unfolding lowest_set
lowest k v =
    let a = odd (suc (suc k)) v in
    let a' = even (suc (suc k)) v in
    let b = odd (suc k) (v / 2) in
    let b' = even (suc k) (v / 2) in
    let d = odd k (v / 2 / 2) in
    let d' = even k (v / 2 / 2) in
    grind (arith, nat_tests)

pub returns : goal.returns
returns c = (c.min.ensures ∙ lowest 61 c.args.v, omega arith)
