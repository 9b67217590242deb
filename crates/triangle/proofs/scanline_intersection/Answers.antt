-- `triangle::scanline_intersection` joins the columns of the three edges, or takes those of the line p1 to p3 where the area is zero. Assumes nothing.
use mathlib.Core.Path.{◌≡◌, sym, ap, ◌∙◌}
use mathlib.Core.Bool.{Bool, false}
use mathlib.Core.List.{◌++◌}
use lib.IntN.{ℤ}
use mir.Facts.{to_z-of_z}
use borrow.Author.Tests.{not-true, not-false}
use Rattle.triangle.specs.Triangle.{is_flat}
use Rattle.triangle.specs.Row.{extended, hull, line_columns, edge_columns}
use Rattle.triangle.proofs.Spans.{span_append}
use Rattle.triangle.proofs.scanline_intersection.Goals as goal

pub returns : goal.returns
returns c =
    let t = c.args.t in
    let y = c.args.y in
    let here = to_z-of_z c.ranges.y in
    let solid : is_flat t.p1 t.p2 t.p3 ≡ false = not-true _ (sym c.is_solid.ensures ∙ not-false _ c.if-not-is_solid.false-raw) in
    let upper = c.bresenham_intersection-upper.ensures ∙ ap (λ (z : ℤ). hull (line_columns t.p1 t.p2 z)) here in
    let long = c.bresenham_intersection-long.ensures ∙ ap (λ (z : ℤ). hull (line_columns t.p1 t.p3 z)) here in
    let lower = c.bresenham_intersection-lower.ensures ∙ ap (λ (z : ℤ). hull (line_columns t.p2 t.p3 z)) here in
    let inner = c.extend.ensures ∙ (λ i. extended (long i) (lower i)) ∙ span_append (line_columns t.p1 t.p3 y) (line_columns t.p2 t.p3 y) in
    c.extend-2.ensures ∙ (λ i. extended (upper i) (inner i)) ∙ span_append (line_columns t.p1 t.p2 y) (line_columns t.p1 t.p3 y ++ line_columns t.p2 t.p3 y)
    ∙ sym (ap (λ (b : Bool). hull (edge_columns b t y)) solid)
