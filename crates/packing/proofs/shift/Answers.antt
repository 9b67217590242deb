-- `packing::shift` is the bits of the fields below the pixel's. Assumes nothing.
use native.Mathlib.Omega.{arith}
use Rattle.packing.proofs.Masks.{shift_of, shift_small}
use Rattle.packing.proofs.shift.Goals as goal
use Rattle.packing.proofs.shift.Goals.{After-slot}

pub returns : goal.returns
returns c = shift_of c.args.depth c.args.x c.requires.good c.requires.small c.slot.ensures

pub overflow_mul-result : goal.overflow_mul-result
overflow_mul-result c =
    record { fits = omega (arith, shift_small c.args.depth c.args.x c.requires.good c.requires.small (returns (goal.at.overflow_mul-result c).After-slot)) }
