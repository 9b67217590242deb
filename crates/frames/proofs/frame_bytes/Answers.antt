-- `frames::frame_bytes` multiplies the distance of rows by their number. Assumes nothing.
use mathlib.Core.Path.{refl}
use Rattle.frames.specs.Description.{size}
use Rattle.frames.proofs.frame_bytes.Goals as goal

pub returns : goal.returns
unfolding size
returns c = refl
