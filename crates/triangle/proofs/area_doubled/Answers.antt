-- `triangle::area_doubled` takes the differences and products of the definition: a difference is at most 2^18, a product 2^36. Assumes nothing.
use mathlib.Core.Path.{◌≡◌, subst}
use native.Mathlib.Omega.{arith}
use lib.IntN.{ℤ, ◌-ℤ◌, ◌*ℤ◌}
use mir.Syntax.{w32, w64}
use mir.Val.{to_z, of_z}
use Rattle.whole.proofs.Difference.{as_mk, mks, mk_eq}
use Rattle.whole.proofs.Machine.{Has, minus, times, fits, back}
use Rattle.geometry.specs.Place.{area_doubled}
use Rattle.geometry.specs.Bound.{Coord}
use Rattle.geometry.proofs.Bound.{coord_wide}
use Rattle.triangle.proofs.area_doubled.Goals as goal
use Rattle.triangle.proofs.area_doubled.Goals.{After-struct_told-8-1}

-- a difference of two coordinates that were cast to `i64` and read back, and the same read back
abbrev less : ℤ → ℤ → ℤ
less x y = to_z w64 (of_z w64 (to_z w32 (of_z w32 x))) -ℤ to_z w64 (of_z w64 (to_z w32 (of_z w32 y)))

abbrev wide : ℤ → ℤ → ℤ
wide x y = to_z w64 (of_z w64 (less x y))

difference : {x y : ℤ} → Coord x → Coord y → Has w64 (less x y) (x -ℤ y) 262144
difference hx hy = minus (back (coord_wide hx)) (back (coord_wide hy)) tt

-- a product of two differences is that of the two turned round
turned : (x y u v : ℤ) → (y -ℤ x) *ℤ (v -ℤ u) ≡ (x -ℤ y) *ℤ (u -ℤ v)
turned x y u v = rw (as_mk x, as_mk y, as_mk u, as_mk v) (simp mks (mk_eq _ _ _ _ (omega arith)))

product : {x y u v : ℤ} → Coord x → Coord y → Coord u → Coord v → Has w64 (wide y x *ℤ wide v u) ((x -ℤ y) *ℤ (u -ℤ v)) 68719476736
product {x} {y} {u} {v} hx hy hu hv =
    let p = times (back (difference hy hx)) (back (difference hv hu)) tt in subst (λ (z : ℤ). Has w64 (wide y x *ℤ wide v u) z 68719476736) (turned x y u v) p

pub overflow_mul-result : goal.overflow_mul-result
overflow_mul-result c =
    let h = c.requires in
    fits (product h.1.x h.0.x h.2.y h.0.y)

pub overflow_mul-result-2 : goal.overflow_mul-result-2
overflow_mul-result-2 c =
    let h = c.requires in
    fits (product h.2.x h.0.x h.1.y h.0.y)

-- the area
area : (c : After-struct_told-8-1)
    → (let g = c.args in
    Has w64 (to_z w64 (of_z w64 (wide g.p.0 g.a.0 *ℤ wide g.p.1 g.b.1)) -ℤ to_z w64 (of_z w64 (wide g.p.0 g.b.0 *ℤ wide g.p.1 g.a.1)))
    (area_doubled g.p g.a g.b) 137438953472)
unfolding area_doubled
area c =
    let h = c.requires in
    minus (back (product h.1.x h.0.x h.2.y h.0.y)) (back (product h.2.x h.0.x h.1.y h.0.y)) tt

pub overflow_sub-result : goal.overflow_sub-result
overflow_sub-result c = fits (area (goal.at.overflow_sub-result c).After-struct_told-8-1)

pub returns : goal.returns
returns c = (back (area (goal.at.returns c).After-struct_told-8-1)).is
