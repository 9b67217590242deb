-- `drawing::draw_line` judges its frame, and makes the call on it. Assumes nothing.
use Rattle.frames.proofs.Calls.{judging}
use Rattle.drawing.proofs.draw_line.Goals as goal

pub line_on-requires : goal.line_on-requires
line_on-requires c = search judging

pub returns : goal.returns
returns c = search judging
