-- `packing::slot` takes the ones of the complement of x within the positions of a byte. Assumes nothing.
use Rattle.packing.proofs.Masks.{slot_is}
use Rattle.packing.proofs.slot.Goals as goal

pub returns : goal.returns
returns c = slot_is c.args.depth c.args.x c.requires.good c.requires.small c.requires.near
