-- `encode_given`: the entries are compared before they are narrowed. Assumes nothing.
use Rattle.std.proofs.Common.{arith}
use Rattle.encoding.specs.declared.Feature.TheVariants.{SVE, SME2, SVE2p1}
use Rattle.codec.proofs.Given.{narrowed, given-wide, given-misgiven, given-store}
use Rattle.codec.proofs.encode_given.Goals as goal

pub returns-then-not-is_narrow : goal.returns-then-not-is_narrow
returns-then-not-is_narrow c =
    given-wide c.args.fields.now c.is_narrow.result c.is_narrow.ensures c.if-not-is_narrow.true

pub overflow_cast-fields : goal.overflow_cast-fields
overflow_cast-fields c =
    let n = narrowed c.args.fields.now _ c.is_narrow.ensures c.if-not-is_narrow.false in
    omega (arith, n.at0)

pub returns-then-is_misgiven : goal.returns-then-is_misgiven
returns-then-is_misgiven c =
    let m = c.is_misgiven in
    given-misgiven c.args.fields.now c.feature_of-feature.result c.feature_of-feature.ensures m.result
    m.ensures c.if-is_misgiven.true

pub scatter_given-requires : goal.scatter_given-requires
scatter_given-requires c = narrowed c.args.fields.now _ c.is_narrow.ensures c.if-not-is_narrow.false

pub strided_given-requires : goal.strided_given-requires
strided_given-requires c = narrowed c.args.fields.now _ c.is_narrow.ensures c.if-not-is_narrow.false

pub quadword_given-requires : goal.quadword_given-requires
quadword_given-requires c = narrowed c.args.fields.now _ c.is_narrow.ensures c.if-not-is_narrow.false

pub returns-in-SVE : goal.returns-in-SVE
returns-in-SVE c =
    given-store c.args.fields.now _ c.feature_of-feature.ensures _ c.is_misgiven.ensures c.if-is_misgiven.false
    SVE c.in-SVE.is _ c.scatter_given.ensures _ c.encode.ensures

pub returns-in-SME2 : goal.returns-in-SME2
returns-in-SME2 c =
    given-store c.args.fields.now _ c.feature_of-feature.ensures _ c.is_misgiven.ensures c.if-is_misgiven.false
    SME2 c.in-SME2.is _ c.strided_given.ensures _ c.encode-in-SME2.ensures

pub returns-in-SVE2p1 : goal.returns-in-SVE2p1
returns-in-SVE2p1 c =
    given-store c.args.fields.now _ c.feature_of-feature.ensures _ c.is_misgiven.ensures c.if-is_misgiven.false
    SVE2p1 c.in-SVE2p1.is _ c.quadword_given.ensures _ c.encode-in-SVE2p1.ensures
