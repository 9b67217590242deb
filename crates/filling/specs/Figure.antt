-- The figures that are filled: whether each contains a place, by its column and its row.
use Rattle.std.specs.Prelude.{Bool, ℕ, ℤ}
use Rattle.geometry.specs.declared.Point.{Point}
use Rattle.triangle.specs.Triangle as triangle
use Rattle.circle.specs.Circle as circle

-- 01, "Triangles": containment, not the rows that drawing visits
abbrev pub triangle_figure : Point → Point → Point → ℤ → ℤ → Bool
triangle_figure v1 v2 v3 x y = triangle.contained v1 v2 v3 (x, y)

-- 01, "Circles": containment
abbrev pub circle_figure : Point → ℕ → ℤ → ℤ → Bool
circle_figure c d x y = circle.contained c d (x, y)
