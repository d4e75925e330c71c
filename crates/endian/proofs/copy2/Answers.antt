-- `copy2`: two bytes read as a number and put. Assumes nothing.
use Rattle.endian.proofs.LittleEndian.{bytes-at}
use Rattle.endian.proofs.Copying.{put-copied}
use Rattle.endian.proofs.copy2.Goals as goal

pub returns : goal.returns
returns c =
    let s = c.args.src.now in
    put-copied c.args.dst.now s _ c.args.i 2 _ (bytes-at s (λ i. (c.shared_slice_known-1.given i).fits)) c.requires.1
    c.le16-x.ensures.0 c.put16.ensures
