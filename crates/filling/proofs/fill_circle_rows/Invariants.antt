-- `filling::fill_circle_rows` paints a row's span a turn: before row k the figure's rows above the k-th are painted, and their pixels counted. The rows that are left out lie
-- outside the rectangle or the circle's box. Assumes nothing.
use mathlib.Core.Path.{◌≡◌}
use lib.IntN.{pos, ◌+ℤ◌}
use Rattle.painting.specs.Brush.{brushed}
use Rattle.filling.specs.Figure.{circle_figure}
use Rattle.painting.proofs.Rows.{above}
use Rattle.filling.proofs.fill_circle_rows.Given as goal

abbrev pub invariant-loop-k : goal.invariant-loop-k
invariant-loop-k l =
    (l.k-iterator.end ≡ l.fn.rows.end) × ((l.seen, l.buf) ≡ brushed l.brush (above (circle_figure l.topleft l.diameter) (l.topleft.1 +ℤ pos l.k-iterator.start)) l.fn.buf)
