-- `triangle::beyond` asks both sides, as the definition does. Assumes nothing.
use native.Mathlib.Omega.{arith}
use Rattle.std.proofs.lemmas.Grind.{common_steps}
use Rattle.triangle.specs.Box.{is_beyond}
use Rattle.triangle.proofs.beyond.Goals as goal

pub returns-then-x-c : goal.returns-then-x-c
unfolding is_beyond
returns-then-x-c c = grind (arith, common_steps)

pub returns-then-b-x : goal.returns-then-b-x
unfolding is_beyond
returns-then-b-x c = grind (arith, common_steps)

pub returns-else-b-x : goal.returns-else-b-x
unfolding is_beyond
returns-else-b-x c = grind (arith, common_steps)
