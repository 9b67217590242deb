-- What it says that a line is not refused. Assumes nothing.
use mathlib.Core.Path.{◌≡◌, refl}
use mathlib.Core.Bool.{true, ◌&&◌}
use borrow.Author.Tests.{not-false}
use Rattle.whole.proofs.Decides.{Decides, decides_and}
use Rattle.refusals.specs.First.{first, numbered}
use Rattle.refusals.proofs.First.{fails_alone}
use Rattle.geometry.specs.declared.Point.{Point}
use Rattle.geometry.specs.Bound.{Bounded, in_bounds}
use Rattle.geometry.proofs.Bound.{bounded_decides}
use Rattle.line.specs.Answer.{end_tests}

module _ (s e : Point) where
  both : Decides (in_bounds s && in_bounds e) (Bounded s × Bounded e)
  both = decides_and (in_bounds s) (in_bounds e) (bounded_decides s) (bounded_decides e)

  pub is_accepted : first (end_tests s e) ≡ 0 → Bounded s × Bounded e
  unfolding end_tests
  is_accepted z = both.yes (not-false _ (fails_alone _ _ z))

  -- no test of the ends has the number 0
  pub end_numbered : numbered (end_tests s e) ≡ true
  unfolding end_tests
  end_numbered = refl
