-- `tracing::draw_level_after` paints the columns of its row that the first edge has, and then all of them: the rest is new. Assumes nothing.
use mathlib.Core.Path.{◌≡◌, ap, ap₂, ◌∙◌}
use mathlib.Core.List.{List}
use Prim.Native.Nat.{ℕ, ◌+◌}
use native.Mathlib.Omega.{arith}
use lib.IntN.{ℤ}
use mir.Syntax.{w32}
use mir.Val.{to_z, of_z}
use mir.Facts.{to_z-of_z}
use borrow.Author.Rules.{rules}
use Rattle.whole.proofs.Compared.{min_is, max_is}
use Rattle.whole.proofs.Machine.{field_back}
use Rattle.geometry.specs.declared.Point.{Point}
use Rattle.geometry.specs.Extreme.{lesser, greater}
use Rattle.geometry.proofs.Bound.{coord_fits}
use Rattle.geometry.specs.declared.Columns.{Columns}
use Rattle.triangle.specs.Row.{hull, line_columns}
use Rattle.layout.specs.Figure.{span_figure}
use Rattle.painting.specs.Brush.{brushed}
use Rattle.painting.proofs.Rows.{brush_sound}
use Rattle.tracing.specs.Earlier.{new_in}
use Rattle.tracing.specs.Figure.{line_figure}
use Rattle.tracing.proofs.Figures.{after_part}
use Rattle.tracing.proofs.Level.{level_line, level_both}
use Rattle.tracing.proofs.draw_level_after.Goals as goal
use Rattle.tracing.proofs.draw_level_after.Goals.{After-paint_span}

-- what was painted, at the numbers
module _ (c : After-paint_span) where
  abbrev a : Point
  a = c.args.a

  abbrev b : Point
  b = c.args.b

  abbrev e : Point
  e = c.args.c

  y_back : to_z w32 (of_z w32 b.1) ≡ b.1
  y_back = to_z-of_z {w = w32} (coord_fits c.requires.1.1.y)

  row_is : c.bresenham_intersection-row.result ≡ hull (line_columns b e b.1)
  row_is = c.bresenham_intersection-row.ensures ∙ ap (λ (y : ℤ). hull (line_columns b e y)) y_back

  had_is : c.bresenham_intersection-had.result ≡ hull (line_columns a b b.1)
  had_is = c.bresenham_intersection-had.ensures ∙ ap (λ (y : ℤ). hull (line_columns a b y)) y_back

  -- the columns, as they are read
  row_first : to_z w32 (of_z w32 c.bresenham_intersection-row.result.0) ≡ (hull (line_columns b e b.1)).0
  row_first = field_back w32 _ c.struct_told-2-1.given.0.1 ∙ ap (λ (r : Columns). r.0) row_is

  row_past : to_z w32 (of_z w32 c.bresenham_intersection-row.result.1) ≡ (hull (line_columns b e b.1)).1
  row_past = field_back w32 _ c.struct_told-4-1.given.1.0.1 ∙ ap (λ (r : Columns). r.1) row_is

  had_first : to_z w32 (of_z w32 c.bresenham_intersection-had.result.0) ≡ (hull (line_columns a b b.1)).0
  had_first = field_back w32 _ c.struct_told-3-1.given.0.1 ∙ ap (λ (r : Columns). r.0) had_is

  had_past : to_z w32 (of_z w32 c.bresenham_intersection-had.result.1) ≡ (hull (line_columns a b b.1)).1
  had_past = field_back w32 _ c.struct_told-5-1.given.1.0.1 ∙ ap (λ (r : Columns). r.1) had_is

  first_is : to_z w32 (of_z w32 c.max-first.result) ≡ greater (hull (line_columns b e b.1)).0 (hull (line_columns a b b.1)).0
  first_is =
      let kept : to_z w32 (of_z w32 c.max-first.result) ≡ c.max-first.result = search rules in
      kept ∙ c.max-first.ensures.value ∙ max_is (to_z w32 (of_z w32 c.bresenham_intersection-row.result.0)) (to_z w32 (of_z w32 c.bresenham_intersection-had.result.0)) ∙ ap₂ greater row_first had_first

  past_is : to_z w32 (of_z w32 c.min-past.result) ≡ lesser (hull (line_columns b e b.1)).1 (hull (line_columns a b b.1)).1
  past_is =
      let kept : to_z w32 (of_z w32 c.min-past.result) ≡ c.min-past.result = search rules in
      kept ∙ c.min-past.ensures.value ∙ min_is (to_z w32 (of_z w32 c.bresenham_intersection-row.result.1)) (to_z w32 (of_z w32 c.bresenham_intersection-had.result.1)) ∙ ap₂ lesser row_past had_past

  -- the part that the first edge has, and then all
  drawn : {now next : List ℕ}
      → (c.paint_span-old.result, now)
      ≡ brushed c.args.brush (span_figure (to_z w32 (of_z w32 b.1)) (to_z w32 (of_z w32 c.max-first.result)) (to_z w32 (of_z w32 c.min-past.result))) c.args.buf.now
      → (c.paint_span.result, next)
      ≡ brushed c.args.brush
      (span_figure (to_z w32 (of_z w32 b.1)) (to_z w32 (of_z w32 c.bresenham_intersection-row.result.0)) (to_z w32 (of_z w32 c.bresenham_intersection-row.result.1))) now
      → (c.paint_span-old.result + (brushed c.args.brush (new_in (line_figure a b) (line_figure b e)) c.args.buf.now).0 ≡ c.paint_span.result)
      × (next ≡ (brushed c.args.brush (line_figure b e) c.args.buf.now).1)
  drawn {now} f g =
      after_part c.args.brush (brush_sound c.requires.0) (line_figure a b) (line_figure b e) c.args.buf.now
      (f ∙ (λ i. brushed c.args.brush (span_figure (y_back i) (first_is i) (past_is i)) c.args.buf.now)
      ∙ (λ i. brushed c.args.brush (level_both a b e c.requires.2 c.requires.3 i) c.args.buf.now))
      (g ∙ (λ i. brushed c.args.brush (span_figure (y_back i) (row_first i) (row_past i)) now)
      ∙ (λ i. brushed c.args.brush (level_line b e c.requires.3 i) now))

pub overflow_sub-result : goal.overflow_sub-result
overflow_sub-result c = omega (arith, (drawn (goal.at.overflow_sub-result c).After-paint_span c.paint_span-old.ensures c.paint_span.ensures).0)

pub returns : goal.returns
returns c =
    let d = drawn (goal.at.returns c).After-paint_span c.paint_span-old.ensures c.paint_span.ensures in
    (omega (arith, d.0), d.1)
