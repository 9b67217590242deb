-- `connected::length` counts the indices, which fit. Assumes nothing.
use native.Mathlib.Omega.{arith}
use Rattle.connected.proofs.Indices.{last_size}
use Rattle.connected.proofs.length.Goals as goal

pub overflow_add-result : goal.overflow_add-result
overflow_add-result c = let ends = c.in_ok-accept.ensures.accepted in omega (arith, c.last_index.ensures, last_size ends.0 ends.1)
