-- A triangle's rows, and the columns of a row (01, "Triangles").
use Rattle.std.specs.Prelude.{Bool, cond, List, [], ◌∷◌, ◌++◌, ℕ, zero, suc, ◌+◌, ℤ, pos, nat_abs, ◌+ℤ◌, ◌-ℤ◌}
use Rattle.whole.specs.Equal.{eq_z}
use Rattle.whole.specs.Interval.{between}
use Rattle.geometry.specs.declared.Point.{Point}
use Rattle.geometry.specs.Extreme.{lesser, greater}
use Rattle.line.specs.Line.{point_at, points}
use Rattle.triangle.specs.declared.Sorted.{Sorted}
use Rattle.geometry.specs.declared.Columns.{Columns}
use Rattle.triangle.specs.Order.{sorted}
use Rattle.triangle.specs.Triangle.{is_flat}

-- the span that takes in a and b: a span is its first column and one past its last, and empty if they are the same
unfoldable pub extended : Columns → Columns → Columns
extended a b = cond (eq_z a.0 a.1) b (cond (eq_z b.0 b.1) a (lesser a.0 b.0, greater a.1 b.1))

-- from the smallest to one past the largest; none: 0 to 0
unfoldable pub hull : List ℤ → Columns
hull [] = (pos 0, pos 0)
hull (x ∷ xs) = extended (x, x +ℤ pos 1) (hull xs)

-- the span has the column x
abbrev pub in_span : Columns → ℤ → Bool
in_span s x = between s.0 s.1 x

-- the columns of those points on row y that the steps below n lead to
abbrev pub columns_to : (ℕ → Point) → ℤ → ℕ → List ℤ
columns_to f y zero = []
columns_to f y (suc n) = cond (eq_z (f n).1 y) ((f n).0 ∷ columns_to f y n) (columns_to f y n)

-- the columns of a line's points on row y
unfoldable pub line_columns : Point → Point → ℤ → List ℤ
line_columns s e y = columns_to (point_at s e) y (points s e)

-- the columns of the edge points on row y; zero area: of the line p1 to p3 only
abbrev pub edge_columns : Bool → Sorted → ℤ → List ℤ
edge_columns flat t y = cond flat (line_columns t.p1 t.p3 y) (line_columns t.p1 t.p2 y ++ (line_columns t.p1 t.p3 y ++ line_columns t.p2 t.p3 y))

module _ (v1 v2 v3 : Point) where
  -- the span of row y
  unfoldable pub row_span : ℤ → Columns
  row_span y = hull (edge_columns (is_flat v1 v2 v3) (sorted v1 v2 v3) y)

  -- the first row, y1, and the number of rows, y3 - y1 + 1
  unfoldable pub first_row : ℤ
  first_row = (sorted v1 v2 v3).p1.1

  unfoldable pub row_count : ℕ
  row_count = nat_abs ((sorted v1 v2 v3).p3.1 -ℤ (sorted v1 v2 v3).p1.1) + 1
