-- `tracing::draw_edge` sets the points that the walker hands out, one a turn, from the first step that leads into the rectangle to the last: before step k those of the
-- steps below k are set, and those that no earlier edge has are counted. No step leads where one before it led. Assumes nothing.
use Prim.Native.Nat.{◌≤◌}
use Rattle.tracing.specs.Earlier.{earlier_figure}
use Rattle.tracing.proofs.Lines.{Walked}
use Rattle.tracing.proofs.draw_edge.Given as goal

abbrev pub invariant-loop : goal.invariant-loop
invariant-loop l = (l.seen ≤ l.counter) × Walked l.brush (earlier_figure l.earlier) l.fn.start l.fn.end l.fn.buf l.counter l.seen l.walker l.buf
