-- `line::reach_of` divides as the definition does; its product is below 2^38. Assumes nothing.
use mathlib.Core.Path.{refl}
use Rattle.line.specs.Reach.{reach}
use Rattle.line.proofs.reach_of.Goals as goal

pub returns : goal.returns
unfolding reach
returns c = refl
