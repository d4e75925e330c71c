-- `write_vector`: one loop for each size. Assumes nothing.
use Rattle.std.proofs.Common.{◌≡◌, ℕ, true, ◌||◌, length, sym, ap, ◌∙◌, subst, arith}
use Prim.Native.Nat.{◌*◌}
use lib.Dec.{eqb}
use borrow.Author.Tests.{eqb-true, ne_eqb}
use Rattle.elements.specs.Accesses.{is_width}
use Rattle.ordering.specs.Keys.{Each}
use Rattle.writing.specs.Writing.{put_all, Placed}
use Rattle.writing.proofs.write_vector.Goals as goal

-- of the five widths, the one that none of four tests met
two-left : (n : ℕ) → is_width n ≡ true → (n ≡ 8 → ⊥) → (n ≡ 1 → ⊥) → (n ≡ 16 → ⊥) → (n ≡ 4 → ⊥) → n ≡ 2
two-left n t a b c d =
    eqb-true n 2
    (sym (λ i. ne_eqb n 8 a i || (ne_eqb n 1 b i || (ne_eqb n 16 c i || (ne_eqb n 4 d i || eqb n 2)))) ∙ t)

pub write_sized-requires-in_default-clause-each : goal.write_sized-requires-in_default-clause-each
write_sized-requires-in_default-clause-each c =
    let a = c.args in
    subst (λ (n : ℕ). Each (λ k. Placed a.step n (length a.memory.now) (length a.stored.now) k) a.keys.now)
    (two-left a.size c.requires.size_value.0 (λ e. omega arith) (λ e. omega arith) (λ e. omega arith) (λ e. omega arith))
    c.requires.each

pub returns-in_default : goal.returns-in_default
returns-in_default c =
    let a = c.args in
    let r = c.write_sized-in_default.ensures in
    let e : a.size ≡ 2 =
    two-left a.size c.requires.size_value.0 (λ e. omega arith) (λ e. omega arith) (λ e. omega arith) (λ e. omega arith) in
    record {
      elements_value = (r.elements_value.0, r.elements_value.1 ∙ ap (λ (n : ℕ). length a.keys.now * n) (sym e));
      memory_after = r.memory_after ∙ ap (λ (n : ℕ). put_all a.step n a.stored.now a.keys.now a.memory.now) (sym e);
    }
