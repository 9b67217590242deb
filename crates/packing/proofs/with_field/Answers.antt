-- `packing::with_field` shifts the colour to the pixel's field and keeps the bits of the others. Assumes nothing.
use mathlib.Core.Path.{ap, ◌∙◌}
use Prim.Native.Nat.{ℕ, ◌-◌, ◌*◌, ◌%◌, ◌^◌}
use native.Mathlib.Omega.{arith}
use lib.Bits.{bit_and, bit_or}
use Rattle.packing.proofs.Masks.{shift_small, moved_fits, written}
use Rattle.packing.proofs.with_field.Goals as goal

pub overflow_shl-result : goal.overflow_shl-result
overflow_shl-result c =
    omega (arith, shift_small c.args.depth _ c.requires.0.good c.requires.0.small c.shift.ensures)

pub overflow_cast-result : goal.overflow_cast-result
overflow_cast-result c =
    record { fits = moved_fits c.args.depth _ c.requires.0.good c.requires.0.small c.shift.result c.shift.ensures c.args.colour c.requires.1 }

pub returns : goal.returns
returns c =
    let a = c.args in
    ap (λ (m : ℕ). bit_or (bit_and a.v (255 - m)) ((a.colour * 2 ^ c.shift.result) % 4294967296)) c.mask.ensures
    ∙ written a.depth a.x c.requires.0.good c.requires.0.small c.shift.result c.shift.ensures a.colour c.requires.1 a.v c.ranges.v.fits
