-- `packing::mask` takes the byte of the pixel's field from its depth's masks. Assumes nothing.
use native.Mathlib.Omega.{arith}
use Rattle.packing.proofs.Masks.{slot_small, mask_there}
use Rattle.packing.proofs.mask.Goals as goal
use Rattle.packing.proofs.mask.Goals.{After-slot}

pub overflow_shr-result : goal.overflow_shr-result
overflow_shr-result c =
    omega (arith, slot_small c.args.depth c.args.x c.requires.good c.requires.small c.slot.ensures)

pub overflow_mul-result : goal.overflow_mul-result
overflow_mul-result c = record { fits = omega (arith, overflow_shr-result (goal.at.overflow_mul-result c).After-slot) }

pub returns : goal.returns
returns c =
    mask_there c.args.depth c.requires.good c.requires.small c.args.x c.masks_of.ensures c.slot.ensures
