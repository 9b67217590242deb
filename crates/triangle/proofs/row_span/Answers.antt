-- `triangle::row_span` asks the sorted vertices. Assumes nothing.
use mathlib.Core.Path.{◌≡◌, sym, subst, ◌∙◌}
use mir.Facts.{to_z-of_z}
use Rattle.triangle.specs.Order.{sorted, Down}
use Rattle.triangle.specs.Triangle.{is_flat}
use Rattle.triangle.specs.Row.{hull, edge_columns, row_span}
use Rattle.triangle.proofs.Refusals.{sorted_bounded}
use Rattle.triangle.proofs.Triangle.{upper, lower, flat_sorted}
use Rattle.triangle.proofs.row_span.Goals as goal

pub scanline_intersection-requires : goal.scanline_intersection-requires
scanline_intersection-requires c =
    let g = c.args in
    let e = c.sorted_yx.ensures in
    let b = sorted_bounded g.v1 g.v2 g.v3 c.sorted_yx.result e c.in_ok-accept.ensures.accepted in
    ((b.first, b.second, b.third), subst Down (sym e) (record { upper = upper g.v1 g.v2 g.v3; lower = lower g.v1 g.v2 g.v3 }))

pub returns : goal.returns
unfolding row_span
returns c =
    let sorted_yx = c.sorted_yx in
    let g = c.args in
    let whole : c.scanline_intersection.result ≡ row_span g.v1 g.v2 g.v3 g.y =
    c.scanline_intersection.ensures
    ∙ (λ i. hull (edge_columns (is_flat (sorted_yx.ensures i).p1 (sorted_yx.ensures i).p2 (sorted_yx.ensures i).p3) (sorted_yx.ensures i) (to_z-of_z c.ranges.y i)))
    ∙ (λ i. hull (edge_columns (flat_sorted g.v1 g.v2 g.v3 i) (sorted g.v1 g.v2 g.v3) g.y))
    in
    simp (whole, ← c.in_ok-accept.ensures.number)
