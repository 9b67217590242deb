-- `drawing::draw_circle` judges its frame, and makes the call on it. Assumes nothing.
use Rattle.frames.proofs.Calls.{judging}
use Rattle.drawing.proofs.draw_circle.Goals as goal

pub circle_on-requires : goal.circle_on-requires
circle_on-requires c = search judging

pub returns : goal.returns
returns c = search judging
