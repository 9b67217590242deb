-- `filling::fill_triangle` takes a row from the walks along the edges and paints its span, a row a turn: before row y the triangle's rows above y are
-- painted, and their pixels counted. Assumes nothing.
use mathlib.Core.Path.{◌≡◌, sym, ap, subst, subst₂, ◌∙◌}
use mathlib.Core.Bool.{Bool}
use native.Mathlib.Omega.{arith}
use lib.IntN.{ℤ, pos, ◌+ℤ◌}
use lib.Signed.{◌≤ℤ◌, ◌<ℤ◌}
use mir.Syntax.{w32}
use mir.Val.{SFits, to_z, of_z}
use mir.Facts.{to_z-of_z}
use borrow.Author.Rules.{rules}
use Rattle.std.proofs.Math.Facts.{sfits_to_z}
use Rattle.whole.proofs.Difference.{lt_nat, le_nat, eq_nat, nat_lt}
use Rattle.whole.proofs.Machine.{back, tests}
use Rattle.whole.proofs.Order.{le_lt_more}
use Rattle.geometry.specs.Bound.{Bounded}
use Rattle.geometry.proofs.Bound.{coord}
use Rattle.triangle.specs.declared.Sorted.{Sorted}
use Rattle.triangle.specs.Order.{sorted, Down}
use Rattle.triangle.proofs.Order.{All}
use Rattle.triangle.proofs.Refusals.{sorted_bounded}
use Rattle.triangle.proofs.Triangle.{upper, lower}
use Rattle.edges.specs.declared.Row.{Row}
use Rattle.edges.specs.Edges.{WalkAt, Rowed}
use Rattle.layout.specs.Figure.{span_figure}
use Rattle.windows.specs.Window.{in_window}
use Rattle.painting.specs.Brush.{Ready, brushed, on_top}
use Rattle.filling.specs.Figure.{triangle_figure}
use Rattle.filling.proofs.Fill.{solid, none_above_lem, none_below_lem, row_columns, past_fits, next_row}
use Rattle.painting.proofs.Rows.{brush_sound, few_pixels_lem, above, span_off, rows_start, rows_turn, rows_end}
use Rattle.filling.proofs.fill_triangle.Goals as goal
use Rattle.filling.proofs.fill_triangle.Goals.{After-sorted_yx-t, After-row-row, After-paint_more-seen}

-- the sorted vertices
module _ (c : After-sorted_yx-t) where
  bounded : All Bounded c.sorted_yx-t.result
  bounded = sorted_bounded c.args.v1 c.args.v2 c.args.v3 _ c.sorted_yx-t.ensures c.requires.1

  top_is : to_z w32 (of_z w32 c.sorted_yx-t.result.p1.1) ≡ (sorted c.args.v1 c.args.v2 c.args.v3).p1.1
  top_is = (back (coord bounded.first.y)).is ∙ ap (λ (t : Sorted). t.p1.1) c.sorted_yx-t.ensures

  bottom_is : to_z w32 (of_z w32 c.sorted_yx-t.result.p3.1) ≡ (sorted c.args.v1 c.args.v2 c.args.v3).p3.1
  bottom_is = (back (coord bounded.third.y)).is ∙ ap (λ (t : Sorted). t.p3.1) c.sorted_yx-t.ensures

pub new-walk-requires : goal.new-walk-requires
new-walk-requires c =
    let a = c.args in
    let all = bounded (goal.at.new-walk-requires c).After-sorted_yx-t in
    ((all.first, all.second, all.third), subst Down (sym c.sorted_yx-t.ensures) (record { upper = upper a.v1 a.v2 a.v3; lower = lower a.v1 a.v2 a.v3 }))

pub loop-y-init : goal.loop-y-init
loop-y-init c =
    let a = c.args in
    let top = top_is (goal.at.loop-y-init c).After-sorted_yx-t in (
      subst (λ (y : ℤ). WalkAt (sorted a.v1 a.v2 a.v3) (solid a.v1 a.v2 a.v3) y c.new-walk.result) (sym top)
          (subst₂ (λ (t : Sorted) (b : Bool). WalkAt t b t.p1.1 c.new-walk.result) c.sorted_yx-t.ensures c.is_solid.ensures c.new-walk.ensures),
      sym (rows_start a.brush (brush_sound c.requires.0) a.buf.now (triangle_figure a.v1 a.v2 a.v3) _
          (λ u v l. span_off (in_window a.brush.window (pos u) (pos v)) _ (none_above_lem a.v1 a.v2 a.v3 u v (subst (λ (z : ℤ). pos v <ℤ z) top l)))),
    )

pub row-row-requires : goal.row-row-requires
row-row-requires c = record { t = _; solid = _; y = _; at = c.loop-y.invariant.0 }

-- the row that is taken, and one past its last column
module _ (c : After-row-row) where
  abbrev row : Row
  row = c.row-row.result

  taken : Rowed (sorted c.args.v1 c.args.v2 c.args.v3) (solid c.args.v1 c.args.v2 c.args.v3) (to_z w32 c.loop-y.y-bits) row
  taken = c.row-row.ensures _ _ c.loop-y.invariant.0

  low_back : to_z w32 (of_z w32 row.low) ≡ row.low
  low_back = search rules

  high_back : to_z w32 (of_z w32 row.high) ≡ row.high
  high_back = search rules

  end_fits : SFits w32 (to_z w32 (of_z w32 row.high) +ℤ pos 1)
  end_fits =
      let h = c.requires.1 in
      subst (λ (z : ℤ). SFits w32 (z +ℤ pos 1)) (sym high_back) (past_fits c.args.v1 c.args.v2 c.args.v3 h.0 h.1 h.2 _ row taken)

  end_is : to_z w32 (of_z w32 (to_z w32 (of_z w32 row.high) +ℤ pos 1)) ≡ row.high +ℤ pos 1
  end_is = to_z-of_z end_fits ∙ ap (λ (z : ℤ). z +ℤ pos 1) high_back

pub overflow_add-row : goal.overflow_add-row
overflow_add-row c = end_fits (goal.at.overflow_add-row c).After-row-row

pub paint_more-seen-requires : goal.paint_more-seen-requires
paint_more-seen-requires c = (subst (Ready c.args.brush) (sym c.loop-y.auto.buf) c.requires.0, few_pixels_lem c.requires.0 _ (λ i. (c.loop-y.invariant.1 i).0))

-- after its span is painted, the rows above the next are
painted : (c : After-paint_more-seen) → (let a = c.args in
    (c.paint_more-seen.result, c.paint_more-seen.new.buf) ≡ brushed a.brush (above (triangle_figure a.v1 a.v2 a.v3) (to_z w32 c.loop-y.y-bits +ℤ pos 1)) a.buf.now)
painted c =
    let a = c.args in
    let r = (goal.at.After-paint_more-seen c).After-row-row in
    rows_turn a.brush (brush_sound c.requires.0) a.buf.now (triangle_figure a.v1 a.v2 a.v3) (to_z w32 c.loop-y.y-bits) (row r).low ((row r).high +ℤ pos 1)
    (λ u v hu hv e. row_columns a.v1 a.v2 a.v3 _ (row r) (taken r) u v (omega (arith, c.requires.0.drawable.accepted.described.width)) e)
    c.loop-y.invariant.1
    (c.paint_more-seen.ensures ∙ (λ i. on_top c.loop-y.seen (brushed a.brush (span_figure (to_z w32 c.loop-y.y-bits) (low_back r i) (end_is r i)) c.loop-y.buf)))

pub loop-y-preserved : goal.loop-y-preserved
loop-y-preserved c =
    let a = c.args in
    let all = bounded (goal.at.loop-y-preserved c).After-sorted_yx-t in
    let more : to_z w32 c.loop-y.y-bits <ℤ to_z w32 (of_z w32 c.sorted_yx-t.result.p3.1) = search tests in
    let next = to_z-of_z (next_row (sfits_to_z c.loop-y.auto.y-fits) all.third.y (subst (λ (z : ℤ). to_z w32 c.loop-y.y-bits <ℤ z) (back (coord all.third.y)).is more)) in
    subst
    (λ (v : ℤ).
    WalkAt (sorted a.v1 a.v2 a.v3) (solid a.v1 a.v2 a.v3) v c.row-row.result.walk
    × ((c.paint_more-seen.result, c.paint_more-seen.new.buf) ≡ brushed a.brush (above (triangle_figure a.v1 a.v2 a.v3) v) a.buf.now))
    (sym next) ((taken (goal.at.loop-y-preserved c).After-row-row).walk, painted (goal.at.loop-y-preserved c).After-paint_more-seen)

-- no row is left below the last
module _ (c : After-sorted_yx-t) where
  ended : {y : ℤ} → to_z w32 (of_z w32 c.sorted_yx-t.result.p3.1) <ℤ y
      → brushed c.args.brush (above (triangle_figure c.args.v1 c.args.v2 c.args.v3) y) c.args.buf.now ≡ brushed c.args.brush (triangle_figure c.args.v1 c.args.v2 c.args.v3) c.args.buf.now
  ended {y} past =
      let a = c.args in
      rows_end a.brush (brush_sound c.requires.0) a.buf.now (triangle_figure a.v1 a.v2 a.v3) y
      (λ u v k. span_off (in_window a.brush.window (pos u) (pos v)) _ (none_below_lem a.v1 a.v2 a.v3 u v (nat_lt (omega (arith, lt_nat past, le_nat k, eq_nat (bottom_is c))))))

pub returns : goal.returns
returns c =
    let past : to_z w32 (of_z w32 c.sorted_yx-t.result.p3.1) <ℤ to_z w32 c.loop-y.y-bits = search tests in
    c.loop-y.invariant.1 ∙ ended (goal.at.returns c).After-sorted_yx-t past

pub returns-2 : goal.returns-2
returns-2 c =
    let last : to_z w32 (of_z w32 c.sorted_yx-t.result.p3.1) ≤ℤ to_z w32 c.loop-y.y-bits = search tests in
    painted (goal.at.returns-2 c).After-paint_more-seen ∙ ended (goal.at.returns-2 c).After-sorted_yx-t (le_lt_more last)
