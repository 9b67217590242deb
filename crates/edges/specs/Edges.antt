-- The three edges of a triangle of sorted vertices, walked together, row by row. `solid` says whether it has an area; without one only p1 to p3 is
-- walked (01, "Triangles").
use Rattle.std.specs.Prelude.{◌≡◌, Bool, cond, not, ◌⊎◌, ℕ, ◌+◌, ℤ, pos, negsuc, ◌+ℤ◌, ◌≤ℤ◌}
use Rattle.geometry.specs.declared.Point.{Point}
use Rattle.line.specs.Line.{points}
use Rattle.triangle.specs.declared.Sorted.{Sorted}
use Rattle.triangle.specs.Order.{Down}
use Rattle.triangle.specs.EdgePoint.{EdgePoint}
use Rattle.edges.specs.declared.Walk.{Walk}
use Rattle.edges.specs.declared.Row.{Row}
use Rattle.edges.specs.Side.{EdgeAt}

-- how many points of a line are walked: all of them, if it is asked for
abbrev pub asked_points : Bool → Point → Point → ℕ
asked_points asked s e = cond asked (points s e) 0

-- the walkers have handed out exactly the points above row y, and the count is of those
pub record WalkAt (t : Sorted) (solid : Bool) (y : ℤ) (w : Walk) : Type 0 where
  pub down : Down t
  pub a : EdgeAt t.p1 t.p2 (asked_points solid t.p1 t.p2) y w.a.walker w.a.left
  pub b : EdgeAt t.p1 t.p3 (points t.p1 t.p3) y w.b.walker w.b.left
  pub c : EdgeAt t.p2 t.p3 (asked_points solid t.p2 t.p3) y w.c.walker w.c.left
  pub count : w.count + (w.a.left + w.b.left + w.c.left) ≡ asked_points solid t.p1 t.p2 + points t.p1 t.p3 + asked_points solid t.p2 t.p3

-- the walks of some triangle, at some row
pub record Rowing (w : Walk) : Type 0 where
  pub t : Sorted
  pub solid : Bool
  pub y : ℤ
  pub at : WalkAt t solid y w

-- row y is taken: its first and last column, 131072 and -131073 where it has no edge point
pub record Rowed (t : Sorted) (solid : Bool) (y : ℤ) (r : Row) : Type 0 where
  pub walk : WalkAt t solid (y +ℤ pos 1) r.walk
  pub holds : (c : ℤ) → EdgePoint (not solid) t.p1 t.p2 t.p3 (c, y) → (r.low ≤ℤ c) × (c ≤ℤ r.high)
  pub low_is : (r.low ≡ pos 131072) ⊎ EdgePoint (not solid) t.p1 t.p2 t.p3 (r.low, y)
  pub high_is : (r.high ≡ negsuc 131072) ⊎ EdgePoint (not solid) t.p1 t.p2 t.p3 (r.high, y)
