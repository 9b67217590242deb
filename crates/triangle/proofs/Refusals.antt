-- What it says that a triangle is not refused. Assumes nothing.
use mathlib.Core.Path.{◌≡◌, sym, subst}
use mathlib.Core.Bool.{◌&&◌}
use borrow.Author.Tests.{not-false}
use Rattle.whole.proofs.Decides.{Decides, decides_and, decides_map}
use Rattle.refusals.specs.First.{first}
use Rattle.refusals.proofs.First.{fails_alone}
use Rattle.geometry.specs.declared.Point.{Point}
use Rattle.geometry.specs.Bound.{Bounded, in_bounds}
use Rattle.geometry.proofs.Bound.{bounded_decides}
use Rattle.triangle.specs.declared.Sorted.{Sorted}
use Rattle.triangle.specs.Order.{sorted}
use Rattle.triangle.proofs.Order.{All, sorted_all}
use Rattle.triangle.specs.Answer.{vertex_tests}

module _ (v1 v2 v3 : Point) where
  abbrev pub Accepted : Type 0
  Accepted = Bounded v1 × Bounded v2 × Bounded v3

  all : Decides (in_bounds v1 && (in_bounds v2 && in_bounds v3)) Accepted
  all =
      decides_map (decides_and (in_bounds v1) _ (bounded_decides v1) (decides_and (in_bounds v2) (in_bounds v3) (bounded_decides v2) (bounded_decides v3)))
      (λ h. (h.0, h.1.0, h.1.1)) (λ h. (h.0, (h.1, h.2)))

  pub is_accepted : first (vertex_tests v1 v2 v3) ≡ 0 → Accepted
  unfolding vertex_tests
  is_accepted z = all.yes (not-false _ (fails_alone _ _ z))

-- the sorted vertices of an accepted triangle are in bounds
pub sorted_bounded : (v1 v2 v3 : Point) (t : Sorted) → t ≡ sorted v1 v2 v3 → Accepted v1 v2 v3 → All Bounded t
sorted_bounded v1 v2 v3 t e h = subst (All Bounded) (sym e) (sorted_all Bounded v1 v2 v3 h.0 h.1 h.2)
