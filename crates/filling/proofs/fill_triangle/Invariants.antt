-- `filling::fill_triangle` takes a row from the walks along the edges and paints its span, a row a turn: before row y the triangle's rows above y are
-- painted, and their pixels counted. Assumes nothing.
use mathlib.Core.Path.{◌≡◌}
use Rattle.triangle.specs.Order.{sorted}
use Rattle.edges.specs.Edges.{WalkAt}
use Rattle.painting.specs.Brush.{brushed}
use Rattle.filling.specs.Figure.{triangle_figure}
use Rattle.filling.proofs.Fill.{solid}
use Rattle.painting.proofs.Rows.{above}
use Rattle.filling.proofs.fill_triangle.Given as goal

abbrev pub invariant-loop-y : goal.invariant-loop-y
invariant-loop-y l =
    WalkAt (sorted l.fn.v1 l.fn.v2 l.fn.v3) (solid l.fn.v1 l.fn.v2 l.fn.v3) l.y l.walk
    × ((l.seen, l.buf) ≡ brushed l.brush (above (triangle_figure l.fn.v1 l.fn.v2 l.fn.v3) l.y) l.fn.buf)
