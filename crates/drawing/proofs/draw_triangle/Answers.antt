-- `drawing::draw_triangle` judges its frame, and makes the call on it. Assumes nothing.
use Rattle.frames.proofs.Calls.{judging}
use Rattle.drawing.proofs.draw_triangle.Goals as goal

pub triangle_on-requires : goal.triangle_on-requires
triangle_on-requires c = search judging

pub returns : goal.returns
returns c = search judging
