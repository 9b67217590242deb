-- `tracing::draw_level` paints the columns of the line's row. Assumes nothing.
use mathlib.Core.Path.{ap, ◌∙◌}
use lib.IntN.{ℤ}
use mir.Syntax.{w32}
use mir.Facts.{to_z-of_z}
use Rattle.whole.proofs.Machine.{field_back}
use Rattle.geometry.proofs.Bound.{coord_fits}
use Rattle.geometry.specs.declared.Columns.{Columns}
use Rattle.triangle.specs.Row.{hull, line_columns}
use Rattle.layout.specs.Figure.{span_figure}
use Rattle.painting.specs.Brush.{brushed}
use Rattle.tracing.proofs.Level.{level_line}
use Rattle.tracing.proofs.draw_level.Goals as goal

pub returns : goal.returns
returns c =
    let a = c.args in
    let y_back = to_z-of_z {w = w32} (coord_fits c.requires.1.0.y) in
    let row_is = c.bresenham_intersection-row.ensures ∙ ap (λ (y : ℤ). hull (line_columns a.start a.end y)) y_back in
    let first = field_back w32 c.bresenham_intersection-row.result.0 c.struct_told-3-1.given.0.1 ∙ ap (λ (r : Columns). r.0) row_is in
    let past = field_back w32 c.bresenham_intersection-row.result.1 c.struct_told-3-1.given.1.0.1 ∙ ap (λ (r : Columns). r.1) row_is in
    c.paint_span.ensures ∙ (λ i. brushed a.brush (span_figure (y_back i) (first i) (past i)) a.buf.now)
    ∙ (λ i. brushed a.brush (level_line a.start a.end c.requires.2 i) a.buf.now)
