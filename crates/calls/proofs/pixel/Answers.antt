-- `calls::pixel` hands on what the library answers and leaves, where the line ends behind the colour. Assumes nothing.
use Rattle.readers.proofs.Readings.{first_fails, second_fails, two_go_on, two_said}
use Rattle.calls.specs.Draw.{pixel_call}
use Rattle.calls.proofs.Calls.{said_beside, is_placed}
use Rattle.calls.proofs.pixel.Goals as goal

pub returns-in_err-p : goal.returns-in_err-p
unfolding pixel_call
returns-in_err-p c = first_fails _ _ _ _ (said_beside _ c.from_residual.ensures) c.in_err-p.ensures

pub returns-in_err-colour : goal.returns-in_err-colour
unfolding pixel_call
returns-in_err-colour c = second_fails _ _ _ _ (said_beside _ c.from_residual-in_err-colour.ensures) c.in_ok-p.ensures c.in_err-colour.ensures

pub returns-in_err-line_end : goal.returns-in_err-line_end
unfolding pixel_call
returns-in_err-line_end c = two_go_on _ _ _ _ (said_beside _ c.from_residual-in_err-line_end.ensures) c.in_ok-p.ensures c.in_ok-colour.ensures c.in_err-line_end.ensures

pub returns : goal.returns
unfolding pixel_call
returns c = two_said _ _ _ _ c.in_ok-p.ensures c.in_ok-colour.ensures c.in_ok-line_end.ensures (is_placed _ c.into.ensures c.set_pixel.ensures)
