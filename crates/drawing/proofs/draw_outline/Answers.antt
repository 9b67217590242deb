-- `drawing::draw_outline` judges its frame, and makes the call on it. Assumes nothing.
use Rattle.frames.proofs.Calls.{judging}
use Rattle.drawing.proofs.draw_outline.Goals as goal

pub outline_on-requires : goal.outline_on-requires
outline_on-requires c = search judging

pub returns : goal.returns
returns c = search judging
