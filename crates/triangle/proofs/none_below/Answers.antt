-- `triangle::none_below` makes the three tests. Assumes nothing.
use native.Mathlib.Omega.{arith}
use Rattle.std.proofs.lemmas.Grind.{common_steps}
use Rattle.triangle.specs.Triangle.{none_below}
use Rattle.triangle.proofs.none_below.Goals as goal

pub returns-then-b-ge0 : goal.returns-then-b-ge0
unfolding none_below
returns-then-b-ge0 c = grind (arith, common_steps)

pub returns-else-b-ge0 : goal.returns-else-b-ge0
unfolding none_below
returns-else-b-ge0 c = grind (arith, common_steps)
