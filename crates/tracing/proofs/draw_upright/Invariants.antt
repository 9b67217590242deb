-- `tracing::draw_upright` sets the points of one column, one a turn, from the first step that leads into the rectangle to the last: before step k those of the steps below k
-- are set and counted. Assumes nothing.
use Prim.Native.Nat.{◌-◌, ◌≤◌}
use Rattle.line.specs.Line.{point_at}
use Rattle.tracing.proofs.Figures.{Along, none}
use Rattle.tracing.proofs.draw_upright.Given as goal

abbrev pub invariant-loop-k : goal.invariant-loop-k
invariant-loop-k l =
    (l.k - l.steps.start ≤ l.steps.end - l.steps.start) × Along l.brush none (point_at l.fn.start l.fn.end) l.fn.buf l.k (l.k - l.steps.start) l.buf
