-- `lights::lit_rows` has counted the rows above y after y turns. Assumes nothing.
use mathlib.Core.Path.{◌≡◌}
use Prim.Native.Nat.{◌*◌}
use Rattle.lights.proofs.Rows.{lit_up_to}
use Rattle.lights.proofs.lit_rows.Given as goal

abbrev pub invariant-loop-y : goal.invariant-loop-y
invariant-loop-y l = l.sum ≡ lit_up_to l.frame (l.y * l.frame.width) l.buf
