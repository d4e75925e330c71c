-- `is_misgiven`: entry by entry. Assumes nothing.
use Rattle.std.proofs.Common.{◌≡◌, ℕ, ◌≤◌, List, get_or, sym, ap, ◌∙◌, arith}
use Rattle.encoding.specs.declared.Feature.{Feature}
use Rattle.encoding.specs.declared.Feature.TheVariants.{SVE, SME2, SVE2p1}
use Rattle.codec.specs.Codec.{surplus, misgiven}
use Rattle.codec.proofs.Given.{misgiven-last, misgiven-extension, misgiven-surplus}
use Rattle.codec.proofs.is_misgiven.Goals as goal

pub returns-then-fields-ne0 : goal.returns-then-fields-ne0
returns-then-fields-ne0 c = misgiven-last c.args.feature c.args.fields.now c.if-fields-ne0.true

pub returns-then-fields-gt2 : goal.returns-then-fields-gt2
returns-then-fields-gt2 c =
    let a = c.args in
    misgiven-extension a.feature a.fields.now c.if-fields-ne0.false c.if-fields-gt2.true

-- past both tests, by the feature
by-surplus : (f : Feature) (fs : List ℕ) (x : Feature) → f ≡ x → get_or fs 7 0 ≡ 0 → get_or fs 2 0 ≤ 2 → surplus x fs ≡ misgiven f fs
by-surplus f fs x e last few = ap (λ (y : Feature). surplus y fs) (sym e) ∙ misgiven-surplus f fs last few

pub returns-in-SVE : goal.returns-in-SVE
returns-in-SVE c = by-surplus _ c.args.fields.now SVE c.in-SVE.is (omega arith) (omega arith)

pub returns-in-SME2 : goal.returns-in-SME2
returns-in-SME2 c = by-surplus _ c.args.fields.now SME2 c.in-SME2.is (omega arith) (omega arith)

pub returns-in-SVE2p1 : goal.returns-in-SVE2p1
returns-in-SVE2p1 c = by-surplus _ c.args.fields.now SVE2p1 c.in-SVE2p1.is (omega arith) (omega arith)
