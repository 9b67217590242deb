-- `calls::fill` hands on what the library answers and leaves, where the line ends behind the colour. Assumes nothing.
use Rattle.readers.proofs.Readings.{one_fails, one_goes_on, one_said}
use Rattle.calls.specs.Draw.{fill_call}
use Rattle.calls.proofs.Calls.{said_beside, is_drawn}
use Rattle.calls.proofs.fill.Goals as goal

pub returns-in_err-colour : goal.returns-in_err-colour
unfolding fill_call
returns-in_err-colour c = one_fails _ _ _ (said_beside _ c.from_residual.ensures) c.in_err-colour.ensures

pub returns-in_err-line_end : goal.returns-in_err-line_end
unfolding fill_call
returns-in_err-line_end c = one_goes_on _ _ _ (said_beside _ c.from_residual-in_err-line_end.ensures) c.in_ok-colour.ensures c.in_err-line_end.ensures

pub returns : goal.returns
unfolding fill_call
returns c = one_said _ _ _ c.in_ok-colour.ensures c.in_ok-line_end.ensures (is_drawn _ c.into.ensures c.fill.ensures)
