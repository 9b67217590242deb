-- Each public contract determines its answer: any two results that it allows of the same arguments are equal. `Post` is the contract as the
-- source states it. Assumes nothing.
use Rattle.whole.proofs.Determined.{One, same}
use Rattle.geometry.proofs.Answer.{same_verdict}
use Rattle.line.proofs.Determined.{same_length, same_step}
use Rattle.connected.proofs.length.Reads as length
use Rattle.connected.proofs.point.Reads as point
use Rattle.connected.proofs.has_point.Reads as has_point

pub length_one : One length.Post
length_one κs args r q s t h k = same_length (same h k)

pub point_one : One point.Post
point_one κs args r q s t h k = same_step (same h k)

pub has_point_one : One has_point.Post
has_point_one κs args r q s t h k = same_verdict (same h k)
