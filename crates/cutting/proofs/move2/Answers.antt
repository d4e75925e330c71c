-- `move2`: two bytes read as a number and put. Assumes nothing.
use Rattle.endian.proofs.LittleEndian.{bytes-at}
use Rattle.cutting.proofs.Copying.{moved}
use Rattle.cutting.proofs.move2.Goals as goal

pub returns : goal.returns
returns c =
    let s = c.args.memory.now in
    let b = bytes-at s (λ i. (c.type_inv.memory i).fits) in
    moved c.args.out.now s _ c.args.at c.args.p 2 _ b c.requires.1 c.le16-x.ensures.0 c.put16.ensures
