-- `drawing::connected_line_on` where it is not refused draws the one line within the rectangle. Assumes nothing.
use Rattle.painting.proofs.Brushes.{calls}
use Rattle.drawing.proofs.connected_line_on.Goals as goal

pub returns-in_err-accept_line : goal.returns-in_err-accept_line
returns-in_err-accept_line c = search (calls, c.in_err-accept_line.ensures.number)

pub draw_connected-requires : goal.draw_connected-requires
draw_connected-requires c = (search (calls, c.in_ok-accept_line.ensures.number), c.in_ok-accept_line.ensures.accepted)

pub returns : goal.returns
returns c = search (calls, c.in_ok-accept_line.ensures.number)
