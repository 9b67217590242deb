-- `calls::outline` hands on what the library answers and leaves of what the line asks for. Assumes nothing.
use Rattle.readers.proofs.Readings.{unanswered, answered}
use Rattle.calls.specs.Draw.{corners_call}
use Rattle.calls.proofs.Calls.{said_beside, is_drawn}
use Rattle.calls.proofs.outline.Goals as goal

pub returns-in_err-t : goal.returns-in_err-t
unfolding corners_call
returns-in_err-t c = unanswered _ _ (said_beside _ c.from_residual.ensures) c.in_err-t.ensures

pub returns : goal.returns
unfolding corners_call
returns c = answered _ _ c.in_ok-t.ensures (is_drawn _ c.into.ensures c.draw_outline.ensures)
