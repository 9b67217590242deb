-- The figures that are walked: whether each contains a place, by its column and its row.
use Rattle.std.specs.Prelude.{Bool, cond, ◌||◌, ℤ}
use Rattle.geometry.specs.declared.Point.{Point}
use Rattle.geometry.specs.Place.{before}
use Rattle.line.specs.Line.{has_point}
use Rattle.connected.specs.Connected.{has_connected}
use Rattle.triangle.specs.declared.Sorted.{Sorted}
use Rattle.triangle.specs.Order.{sorted}

-- 01, "Lines": the points of the line from s to e
abbrev pub line_figure : Point → Point → ℤ → ℤ → Bool
line_figure s e x y = has_point s e (x, y)

-- 02, T-05: the points of the connected line from s to e, the normal ones and the extra ones
abbrev pub connected_figure : Point → Point → ℤ → ℤ → Bool
connected_figure s e x y = has_connected s e (x, y)

-- 02, T-04: an edge is the line from its smaller end, by y then x, to its larger one, whichever is named first
unfoldable pub edge_figure : Point → Point → ℤ → ℤ → Bool
edge_figure a b x y = cond (before a b) (line_figure a b x y) (line_figure b a x y)

-- the three edges of sorted vertices
abbrev pub sorted_figure : Sorted → ℤ → ℤ → Bool
sorted_figure t x y = (line_figure t.p1 t.p2 x y || line_figure t.p2 t.p3 x y) || line_figure t.p1 t.p3 x y

-- 02, T-04, amends 01's "Outline": "an outline now walks the three sorted edges that the fill uses, also at zero area"
unfoldable pub outline_figure : Point → Point → Point → ℤ → ℤ → Bool
outline_figure v1 v2 v3 = sorted_figure (sorted v1 v2 v3)
