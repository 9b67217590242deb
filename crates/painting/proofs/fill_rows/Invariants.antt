-- `painting::fill_rows` has painted the rectangle's rows above y, and counted their pixels. Assumes nothing.
use mathlib.Core.Path.{◌≡◌}
use lib.IntN.{pos}
use Rattle.layout.specs.Figure.{everywhere}
use Rattle.painting.specs.Brush.{brushed}
use Rattle.painting.proofs.Rows.{above}
use Rattle.painting.proofs.fill_rows.Given as goal

abbrev pub invariant-loop-y : goal.invariant-loop-y
invariant-loop-y l = (l.seen, l.buf) ≡ brushed l.brush (above everywhere (pos l.y)) l.initial.buf
