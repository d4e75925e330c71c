-- `imm4_of`: a search. Invariant: no imm4 below v has the multiple. Assumes nothing.
use mathlib.Core.Path.{◌≡◌, ◌∙◌, sym, ap, subst}
use Prim.Native.Nat.{ℕ}
use native.Mathlib.Omega.{arith}
use borrow.Author.Count.{below_more}
use lib.Dec.{T}
use lib.IntN.{ℤ}
use mir.Syntax.{w64}
use mir.Val.{to_z, of_z}
use mir.Facts.{to_z-of_z}
use Rattle.encoding.specs.Decoding.{multiple_of}
use Rattle.encoding.specs.Encoding.{eqℤ, imm_of}
use Rattle.encoding.proofs.Search.{lowest-at, lowest-none}
use Rattle.encoding.proofs.Signed.{eqℤ-refl, eqℤ→eq, same_bits}
use Rattle.encoder.proofs.imm4_of.Goals as goal

pub returns-then-m-z : goal.returns-then-m-z
unfolding imm_of
returns-then-m-z c =
    let v = c.loop-v.v in
    let m = c.multiple-m in
    let t : of_z w64 m.result ≡ of_z w64 c.args.z = c.if-m-z.true in
    let e : multiple_of c.args.nreg v ≡ c.args.z =
    sym m.ensures ∙ same_bits m.result c.args.z (record { sfits = m.type_inv }) c.ranges.z t in
    sym (lowest-at (λ u. eqℤ (multiple_of c.args.nreg u) c.args.z) c.args.n v (omega arith)
    (subst (λ (y : ℤ). T (eqℤ y c.args.z)) (sym e) (eqℤ-refl c.args.z))
    (λ j h u.
    c.loop-v.invariant.1 j h
    (subst (λ (y : ℤ). T (eqℤ (multiple_of c.args.nreg j) y)) (sym (to_z-of_z c.ranges.z)) u)))

pub loop-v-preserved : goal.loop-v-preserved
loop-v-preserved c =
    let v = c.loop-v.v in
    let m = c.multiple-m in
    let n : of_z w64 m.result ≡ of_z w64 c.args.z → ⊥ = c.if-m-z.false in (
      omega arith,
      below_more (λ (k : ℕ). T (eqℤ (multiple_of c.args.nreg k) (to_z w64 (of_z w64 c.args.z))) → ⊥) v
          c.loop-v.invariant.1
          (λ t.
          n
          (ap (of_z w64)
          (m.ensures
          ∙ eqℤ→eq (multiple_of c.args.nreg v) (to_z w64 (of_z w64 c.args.z)) t
          ∙ to_z-of_z c.ranges.z))),
    )

pub returns : goal.returns
unfolding imm_of
returns c =
    let v : c.loop-v.v ≡ c.args.n = omega arith in
    v
    ∙ sym (lowest-none (λ u. eqℤ (multiple_of c.args.nreg u) c.args.z) c.args.n
    (λ j h u.
    c.loop-v.invariant.1 j (omega arith)
    (subst (λ (y : ℤ). T (eqℤ (multiple_of c.args.nreg j) y)) (sym (to_z-of_z c.ranges.z)) u)))
