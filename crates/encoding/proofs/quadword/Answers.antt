-- `quadword`: each field stands at its place. Assumes nothing.
use Rattle.encoding.proofs.Reading.{quadword-is}
use Rattle.encoding.proofs.quadword.Goals as goal

pub returns : goal.returns
returns c = quadword-is c.args.row c.args.word c.requires.0 c.requires.1
