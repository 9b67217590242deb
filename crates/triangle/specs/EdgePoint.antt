-- The edge points of a triangle, as a statement: p1, p2, p3 are its sorted vertices, `flat` says whether its area is zero (01, "Triangles").
use Rattle.std.specs.Prelude.{Bool, true, false, ◌⊎◌}
use Rattle.geometry.specs.declared.Point.{Point}
use Rattle.line.specs.Line.{HasPoint}

-- a point of an edge; zero area: of the line p1 to p3 only
abbrev pub EdgePoint : Bool → Point → Point → Point → Point → Type 0
EdgePoint true p1 p2 p3 p = HasPoint p1 p3 p
EdgePoint false p1 p2 p3 p = HasPoint p1 p2 p ⊎ (HasPoint p1 p3 p ⊎ HasPoint p2 p3 p)
