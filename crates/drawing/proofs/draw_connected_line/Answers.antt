-- `drawing::draw_connected_line` judges its frame, and makes the call on it. Assumes nothing.
use Rattle.frames.proofs.Calls.{judging}
use Rattle.drawing.proofs.draw_connected_line.Goals as goal

pub connected_line_on-requires : goal.connected_line_on-requires
connected_line_on-requires c = search judging

pub returns : goal.returns
returns c = search judging
