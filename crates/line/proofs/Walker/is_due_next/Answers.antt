-- `line::Walker::is_due_next` tests the error against the threshold less what a major move adds to it. Assumes nothing.
use mathlib.Core.Path.{◌∙◌}
use native.Mathlib.Omega.{arith}
use lib.IntN.{◌-ℤ◌}
use mir.Syntax.{w32}
use mir.Val.{to_z, of_z}
use Rattle.whole.proofs.Machine.{Has, back, minus, tests_lt}
use Rattle.line.specs.declared.Walker.{Walker}
use Rattle.line.specs.Walk.{Walking}
use Rattle.line.proofs.Walk.{threshold_read, up_read, error_read, due_next}
use Rattle.line.proofs.Walker.is_due_next.Goals as goal

-- both sides, as the code works them out
module _ {w : Walker} (h : Walking w) where
  before : Has w32 (to_z w32 (of_z w32 w.course.threshold) -ℤ to_z w32 (of_z w32 w.course.up)) (w.course.threshold -ℤ w.course.up) 786432
  before = let st = h.here.stands in minus (threshold_read st.course st.start st.end) (up_read st.course st.start st.end) tt

  error : Has w32 (to_z w32 (of_z w32 w.error)) w.error 786432
  error = error_read h.here.stands (omega (arith, h.here.near))

pub returns : goal.returns
returns c = let h = c.requires in λ s e k m st. tests_lt (back (before h)) (error h) ∙ due_next st
