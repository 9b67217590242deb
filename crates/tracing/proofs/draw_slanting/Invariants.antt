-- `tracing::draw_slanting` sets the points that the walker hands out, one a turn, from the first step that leads into the rectangle to the last: before step k those of
-- the steps below k are set and counted. No step leads where one before it led. Assumes nothing.
use Prim.Native.Nat.{◌-◌}
use Rattle.tracing.proofs.Figures.{none}
use Rattle.tracing.proofs.Lines.{Walked}
use Rattle.tracing.proofs.draw_slanting.Given as goal

abbrev pub invariant-loop : goal.invariant-loop
invariant-loop l = Walked l.brush none l.fn.start l.fn.end l.fn.buf l.counter (l.counter - l.steps.start) l.walker l.buf
