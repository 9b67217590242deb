-- Each public contract of this crate determines its answer, and the bytes afterwards: any two results that it allows of the same arguments are equal.
-- `Post` is the contract as the source states it. Assumes nothing.
use Rattle.whole.proofs.Determined.{One, OneBuffer, same}
use Rattle.charts.proofs.picture.frame.Reads as frame
use Rattle.charts.proofs.day.draw_day.Reads as draw_day

pub frame_one : One frame.Post
frame_one κs args r q s t = same

pub draw_day_one : OneBuffer draw_day.Post
draw_day_one κs args r q s t = same
