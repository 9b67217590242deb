-- `circle::root::isqrt` is the root: the loop keeps a number that is at least the root, and leaves it when its square is at most n.
-- The number itself falls with each step. Assumes nothing.
use native.Mathlib.Omega.{arith}
use Rattle.circle.proofs.Roots.{square_pos, newton_above, newton_below}
use Rattle.circle.proofs.root.isqrt.Goals as goal

pub loop-r-preserved : goal.loop-r-preserved
loop-r-preserved c =
    let r = c.loop-r.r in
    (newton_above _ r (square_pos _ r c.loop-r-test.true), omega (arith, newton_below _ r c.loop-r-test.true))
