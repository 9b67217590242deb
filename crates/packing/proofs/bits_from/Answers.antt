-- `packing::bits_from` shifts a byte of ones by the bits above the pixel. Assumes nothing.
use Rattle.packing.proofs.Masks.{bits_from_is}
use Rattle.packing.proofs.bits_from.Goals as goal

pub returns : goal.returns
returns c = bits_from_is c.args.depth c.args.x c.requires.good c.requires.small
