-- `tracing::draw_connected` sets the points that the walker hands out, one a turn: before index i those of the indices below i are set, and those inside are counted.
-- The points that are left out are outside the rectangle. No two are the same. Assumes nothing.
use Prim.Native.Nat.{◌≤◌}
use Rattle.connected.specs.Connected.{connected_points, connected_at}
use Rattle.connected.specs.Walk.{NextAt}
use Rattle.tracing.proofs.Figures.{Along, none}
use Rattle.tracing.proofs.draw_connected.Given as goal

abbrev pub invariant-loop : goal.invariant-loop
invariant-loop l =
    (l.seen ≤ l.counter) × (l.counter ≤ connected_points l.fn.start l.fn.end) × NextAt l.fn.start l.fn.end l.counter l.walker
    × Along l.brush none (connected_at l.fn.start l.fn.end) l.fn.buf l.counter l.seen l.buf
