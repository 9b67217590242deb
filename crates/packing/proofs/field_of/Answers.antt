-- `packing::field_of` shifts the pixel's bits down and keeps them. Assumes nothing.
use native.Mathlib.Omega.{arith}
use Rattle.packing.proofs.Masks.{shift_small, seen}
use Rattle.packing.proofs.field_of.Goals as goal

pub overflow_shr-result : goal.overflow_shr-result
overflow_shr-result c =
    omega (arith, shift_small c.args.depth c.args.x c.requires.good c.requires.small c.shift.ensures)

pub returns : goal.returns
returns c =
    seen c.args.depth c.args.x c.requires.good c.requires.small c.shift.result c.shift.ensures c.args.v c.ranges.v.fits
