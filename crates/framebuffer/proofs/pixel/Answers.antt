-- `framebuffer::pixel` judges its frame, and reads on it. Assumes nothing.
use Rattle.frames.proofs.Calls.{judging}
use Rattle.framebuffer.proofs.pixel.Goals as goal

pub pixel_on-requires : goal.pixel_on-requires
pixel_on-requires c = search judging

pub returns : goal.returns
returns c = search judging
