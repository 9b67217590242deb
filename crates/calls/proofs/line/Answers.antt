-- `calls::line` hands on what the library answers and leaves of what the line asks for. Assumes nothing.
use Rattle.readers.proofs.Readings.{unanswered, answered}
use Rattle.calls.specs.Draw.{ends_call}
use Rattle.calls.proofs.Calls.{said_beside, is_drawn}
use Rattle.calls.proofs.line.Goals as goal

pub returns-in_err-start : goal.returns-in_err-start
unfolding ends_call
returns-in_err-start c = unanswered _ _ (said_beside _ c.from_residual.ensures) c.in_err-start.ensures

pub returns : goal.returns
unfolding ends_call
returns c = answered _ _ c.in_ok-start.ensures (is_drawn _ c.into.ensures c.draw_line.ensures)
