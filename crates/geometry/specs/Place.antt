-- Places of pixels: whether two are the same, their order by y, then x, a place moved by another, and twice the area between three.
use Rattle.std.specs.Prelude.{Bool, cond, ◌&&◌, ℤ, ◌+ℤ◌, ◌-ℤ◌, ◌*ℤ◌}
use Rattle.std.specs.Int.Signed.{le_z, lt_z}
use Rattle.std.specs.declared.cmp.Ordering.{Ordering}
use Rattle.std.specs.Ordering.{int_cmp, on, then_cmp}
use Rattle.whole.specs.Equal.{eq_z}
use Rattle.geometry.specs.declared.Point.{Point}

abbrev pub same_place : Point → Point → Bool
same_place p q = eq_z p.0 q.0 && eq_z p.1 q.1

-- p stands before q, or they are the same place
unfoldable pub before : Point → Point → Bool
before p q = cond (eq_z p.1 q.1) (le_z p.0 q.0) (lt_z p.1 q.1)

-- the same order, as std compares
abbrev pub by_row : Point → Point → Ordering
by_row = then_cmp (on (λ (p : Point). p.1) int_cmp) (on (λ (p : Point). p.0) int_cmp)

-- p, moved by v
abbrev pub moved : Point → Point → Point
moved v p = (p.0 +ℤ v.0, p.1 +ℤ v.1)

-- twice the signed area of a, b, c, whose sign decides sides (01, "Triangles"): above 0 if c is on the right of one who looks from a to b, rows being counted
-- down
unfoldable pub area_doubled : Point → Point → Point → ℤ
area_doubled a b c = ((b.0 -ℤ a.0) *ℤ (c.1 -ℤ a.1)) -ℤ ((c.0 -ℤ a.0) *ℤ (b.1 -ℤ a.1))
