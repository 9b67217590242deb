-- Which pixels a triangle contains (01, "Triangles"): v1, v2, v3 are its vertices as given, p1, p2, p3 are they sorted.
use Rattle.std.specs.Prelude.{Bool, cond, ◌&&◌, ◌||◌, ℤ, pos}
use Rattle.std.specs.Int.Signed.{le_z}
use Rattle.whole.specs.Equal.{eq_z}
use Rattle.geometry.specs.declared.Point.{Point}
use Rattle.geometry.specs.Place.{area_doubled}
use Rattle.line.specs.Line.{has_point}
use Rattle.triangle.specs.declared.Sorted.{Sorted}
use Rattle.triangle.specs.Order.{sorted}

-- a, b, c are all at least 0
unfoldable pub none_below : ℤ → ℤ → ℤ → Bool
none_below a b c = le_z (pos 0) a && (le_z (pos 0) b && le_z (pos 0) c)

-- all at most 0
unfoldable pub none_above : ℤ → ℤ → ℤ → Bool
none_above a b c = le_z a (pos 0) && (le_z b (pos 0) && le_z c (pos 0))

-- a point of one of the edges: p1 to p2, p1 to p3, p2 to p3
unfoldable pub on_edge : Point → Point → Point → Point → Bool
on_edge p1 p2 p3 p = has_point p1 p2 p || (has_point p1 p3 p || has_point p2 p3 p)

module _ (v1 v2 v3 : Point) where
  -- the area is zero
  unfoldable pub is_flat : Bool
  is_flat = eq_z (area_doubled v1 v2 v3) (pos 0)

  -- the doubled areas of (p, v1, v2), (p, v2, v3), (p, v3, v1) are all at least 0 or all at most 0
  unfoldable pub is_inside : Point → Bool
  is_inside p = none_below (area_doubled p v1 v2) (area_doubled p v2 v3) (area_doubled p v3 v1) || none_above (area_doubled p v1 v2) (area_doubled p v2 v3) (area_doubled p v3 v1)

  -- area not zero: such a pixel, or a point of an edge; area zero: a point of the line p1 to p3
  unfoldable pub contained : Point → Bool
  contained p =
      let t : Sorted = sorted v1 v2 v3 in
      cond is_flat (has_point t.p1 t.p3 p) (is_inside p || on_edge t.p1 t.p2 t.p3 p)
