-- The bounding box: a pixel is outside if it lies beyond all three vertices, on one side of them, by column or by row.
-- 01 has no box for triangles: proofs/Box.antt has that no pixel outside it is contained.
use Rattle.std.specs.Prelude.{Bool, ◌&&◌, ◌||◌, ℤ}
use Rattle.std.specs.Int.Signed.{lt_z}
use Rattle.geometry.specs.declared.Point.{Point}

-- x lies beyond a, b and c, on one side of all three
unfoldable pub is_beyond : ℤ → ℤ → ℤ → ℤ → Bool
is_beyond x a b c = (lt_z x a && (lt_z x b && lt_z x c)) || (lt_z a x && (lt_z b x && lt_z c x))

abbrev pub outside_box : Point → Point → Point → Point → Bool
outside_box v1 v2 v3 p = is_beyond p.0 v1.0 v2.0 v3.0 || is_beyond p.1 v1.1 v2.1 v3.1
