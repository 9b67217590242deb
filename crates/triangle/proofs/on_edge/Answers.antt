-- `triangle::on_edge` asks the three edges. Assumes nothing.
use native.Mathlib.Omega.{arith}
use Rattle.std.proofs.lemmas.Grind.{common_steps}
use Rattle.triangle.specs.Triangle.{on_edge}
use Rattle.triangle.proofs.on_edge.Goals as goal

pub returns-then-meets-2 : goal.returns-then-meets-2
unfolding on_edge
returns-then-meets-2 c = grind (arith, common_steps)

pub returns-else-meets-2 : goal.returns-else-meets-2
unfolding on_edge
returns-else-meets-2 c = grind (arith, common_steps)
