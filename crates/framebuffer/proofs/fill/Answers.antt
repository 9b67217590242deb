-- `framebuffer::fill` judges its frame, and makes the call on it. Assumes nothing.
use Rattle.frames.proofs.Calls.{judging}
use Rattle.framebuffer.proofs.fill.Goals as goal

pub fill_on-requires : goal.fill_on-requires
fill_on-requires c = search judging

pub returns : goal.returns
returns c = search judging
