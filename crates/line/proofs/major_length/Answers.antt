-- `line::major_length` counts the steps and the start, which fit. Assumes nothing.
use native.Mathlib.Omega.{arith}
use Rattle.line.proofs.Lengths.{major_size}
use Rattle.line.proofs.major_length.Goals as goal

pub overflow_add-result : goal.overflow_add-result
overflow_add-result c = let ends = c.in_ok-accept.ensures.accepted in omega (arith, c.last_step.ensures, major_size ends.0 ends.1)
