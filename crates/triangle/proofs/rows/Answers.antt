-- `triangle::rows` takes the rows of the first and the last of the sorted vertices. Assumes nothing.
use mathlib.Core.Path.{◌≡◌, sym, subst, ◌∙◌}
use Prim.Native.Nat.{◌+◌}
use lib.IntN.{pos, nat_abs, ◌-ℤ◌}
use lib.Signed.{◌≤ℤ◌}
use mir.Syntax.{w32}
use mir.Val.{to_z, of_z}
use Rattle.whole.proofs.Machine.{Has, minus, fits, back, to_nat, nat_is, size_pos}
use Rattle.whole.proofs.Order.{le_sub}
use Rattle.geometry.specs.Bound.{Bounded}
use Rattle.geometry.proofs.Bound.{coord}
use Rattle.triangle.specs.declared.Sorted.{Sorted}
use Rattle.triangle.specs.Row.{first_row, row_count}
use Rattle.triangle.proofs.Refusals.{sorted_bounded}
use Rattle.triangle.proofs.Order.{All}
use Rattle.triangle.proofs.Triangle.{down}
use Rattle.triangle.proofs.rows.Goals as goal
use Rattle.triangle.proofs.rows.Goals.{After-sorted_yx-t}

-- ---- from the first row to the last
module _ (c : After-sorted_yx-t) where
  abbrev t : Sorted
  t = c.sorted_yx-t.result

  bounds : All Bounded t
  bounds =
      let g = c.args in
      sorted_bounded g.v1 g.v2 g.v3 t c.sorted_yx-t.ensures c.in_ok-accept.ensures.accepted

  top : Has w32 (to_z w32 (of_z w32 t.p1.1)) t.p1.1 131072
  top = back (coord bounds.first.y)

  bottom : Has w32 (to_z w32 (of_z w32 t.p3.1)) t.p3.1 131072
  bottom = back (coord bounds.third.y)

  -- the last is not above the first
  height : t.p3.1 -ℤ t.p1.1 ≡ pos (nat_abs (t.p3.1 -ℤ t.p1.1))
  height =
      let g = c.args in
      size_pos _ (le_sub t.p1.1 t.p3.1
      (subst (λ (s : Sorted). s.p1.1 ≤ℤ s.p3.1) (sym c.sorted_yx-t.ensures) (down g.v1 g.v2 g.v3)))

  steps : Has w32 (to_z w32 (of_z w32 t.p3.1) -ℤ to_z w32 (of_z w32 t.p1.1)) (pos (nat_abs (t.p3.1 -ℤ t.p1.1))) 262144
  steps = let d = minus bottom top tt in record { is = d.is ∙ height; size = d.size; room = d.room }

pub overflow_sub-result : goal.overflow_sub-result
overflow_sub-result c = fits (steps (goal.at.overflow_sub-result c).After-sorted_yx-t)

pub overflow_cast-result : goal.overflow_cast-result
overflow_cast-result c = to_nat w32 (steps (goal.at.overflow_cast-result c).After-sorted_yx-t) tt

pub returns : goal.returns
unfolding first_row row_count
returns c =
    (λ i. record { number = 0; first = (top (goal.at.returns c).After-sorted_yx-t).is i; count = nat_is (steps (goal.at.returns c).After-sorted_yx-t) i + 1 })
    ∙ simp (first_row, ← c.sorted_yx-t.ensures, ← c.in_ok-accept.ensures.number)
