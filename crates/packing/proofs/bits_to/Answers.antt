-- `packing::bits_to` takes away from a byte of ones those below the pixel. Assumes nothing.
use Rattle.packing.proofs.Masks.{bits_to_is}
use Rattle.packing.proofs.bits_to.Goals as goal

pub returns : goal.returns
returns c = bits_to_is c.args.depth c.args.x c.requires.good c.requires.small
