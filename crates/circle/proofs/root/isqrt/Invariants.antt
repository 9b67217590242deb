-- `circle::root::isqrt` is the root: the loop keeps a number that is at least the root, and leaves it when its square is at most n.
-- The number itself falls with each step. Assumes nothing.
use Prim.Native.Nat.{◌+◌, ◌*◌, ◌<◌}
use Rattle.circle.proofs.root.isqrt.Given as goal

abbrev pub invariant-loop-r : goal.invariant-loop-r
invariant-loop-r l = (l.n < (l.r + 1) * (l.r + 1)) × (l.r < 4294967296)

abbrev pub decreases-loop-r : goal.decreases-loop-r
decreases-loop-r l = l.r
