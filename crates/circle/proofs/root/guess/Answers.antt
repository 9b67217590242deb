-- `circle::root::guess` is Newton's step from a power of two, where shifting divides; a step from any number is at least the root.
-- Assumes nothing.
use native.Mathlib.Omega.{arith}
use lib.Pow.{pow_pos}
use Rattle.circle.proofs.Roots.{half, power_is, power_most, shifted_most, newton_above}
use Rattle.circle.proofs.root.guess.Goals as goal

pub overflow_add-result : goal.overflow_add-result
overflow_add-result c =
    let n = c.args.n in
    let f = c.ranges.n.fits in
    record { fits = omega (arith, power_is n f, power_most n f, shifted_most n f) }

pub returns : goal.returns
returns c =
    let n = c.args.n in
    let f = c.ranges.n.fits in
    rw (power_is n f) (newton_above n _ (pow_pos (half n f)), omega (arith, power_most n f, shifted_most n f))
