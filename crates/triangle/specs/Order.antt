-- The vertices sorted by y, then x, to p1, p2, p3 (01, "Triangles").
use Rattle.std.specs.Prelude.{cond, ◌≤ℤ◌}
use Rattle.geometry.specs.declared.Point.{Point}
use Rattle.geometry.specs.Place.{before}
use Rattle.triangle.specs.declared.Sorted.{Sorted}

-- p1, p2, p3 in this order
abbrev pub three : Point → Point → Point → Sorted
three a b c = record { p1 = a; p2 = b; p3 = c }

-- c put into its place among a and b, which are sorted
abbrev pub placed : Point → Point → Point → Sorted
placed a b c = cond (before c a) (three c a b) (cond (before c b) (three a c b) (three a b c))

-- by y, then x
unfoldable pub sorted : Point → Point → Point → Sorted
sorted a b c = cond (before a b) (placed a b c) (placed b a c)

-- the rows of p1, p2, p3 are in order: what a span asks of sorted vertices
pub record Down (t : Sorted) : Type 0 where
  pub upper : t.p1.1 ≤ℤ t.p2.1
  pub lower : t.p2.1 ≤ℤ t.p3.1
