-- The contract of a description determines it, with its distance and without a gap. Assumes nothing.
use Rattle.whole.proofs.Determined.{One, same}
use Rattle.frames.proofs.Frame.new.Reads as new
use Rattle.frames.proofs.Frame.packed.Reads as packed

pub new_one : One new.Post
new_one κs args r q s t = same

pub packed_one : One packed.Post
packed_one κs args r q s t = same
