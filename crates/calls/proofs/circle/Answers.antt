-- `calls::circle` hands on what the library answers and leaves, where the line ends behind the colour. Assumes nothing.
use Rattle.readers.proofs.Readings.{first_fails, second_fails, two_go_on, two_said}
use Rattle.calls.specs.Draw.{circle_call}
use Rattle.calls.proofs.Calls.{said_beside, is_drawn}
use Rattle.calls.proofs.circle.Goals as goal

pub returns-in_err-topleft : goal.returns-in_err-topleft
unfolding circle_call
returns-in_err-topleft c = first_fails _ _ _ _ (said_beside _ c.from_residual.ensures) c.in_err-topleft.ensures

pub returns-in_err-colour : goal.returns-in_err-colour
unfolding circle_call
returns-in_err-colour c = second_fails _ _ _ _ (said_beside _ c.from_residual-in_err-colour.ensures) c.in_ok-topleft.ensures c.in_err-colour.ensures

pub returns-in_err-line_end : goal.returns-in_err-line_end
unfolding circle_call
returns-in_err-line_end c = two_go_on _ _ _ _ (said_beside _ c.from_residual-in_err-line_end.ensures) c.in_ok-topleft.ensures c.in_ok-colour.ensures c.in_err-line_end.ensures

pub returns : goal.returns
unfolding circle_call
returns c = two_said _ _ _ _ c.in_ok-topleft.ensures c.in_ok-colour.ensures c.in_ok-line_end.ensures (is_drawn _ c.into.ensures c.draw_circle.ensures)
