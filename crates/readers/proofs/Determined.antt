-- Each public contract of this crate determines its answer: any two results that it allows of the same arguments are equal.
-- `Post` is the contract as the source states it. Assumes nothing.
use Rattle.whole.proofs.Determined.{One, same}
use Rattle.readers.proofs.words.is_word.Reads as is_word
use Rattle.readers.proofs.figures.read_point.Reads as read_point
use Rattle.readers.proofs.figures.read_corners.Reads as read_corners
use Rattle.readers.proofs.figures.first_corners.Reads as first_corners
use Rattle.readers.proofs.figures.line_end.Reads as line_end
use Rattle.readers.proofs.figures.last_u32.Reads as last_u32
use Rattle.readers.proofs.figures.next_point.Reads as next_point
use Rattle.readers.proofs.figures.next_ends.Reads as next_ends
use Rattle.readers.proofs.figures.next_corners.Reads as next_corners
use Rattle.readers.proofs.figures.next_circle.Reads as next_circle

pub is_word_one : One is_word.Post
is_word_one κs args r q s t = same

pub line_end_one : One line_end.Post
line_end_one κs args r q s t = same

pub last_u32_one : One last_u32.Post
last_u32_one κs args r q s t = same

pub next_point_one : One next_point.Post
next_point_one κs args r q s t = same

pub next_ends_one : One next_ends.Post
next_ends_one κs args r q s t = same

pub next_corners_one : One next_corners.Post
next_corners_one κs args r q s t = same

pub next_circle_one : One next_circle.Post
next_circle_one κs args r q s t = same

pub read_point_one : One read_point.Post
read_point_one κs args r q s t = same

pub read_corners_one : One read_corners.Post
read_corners_one κs args r q s t = same

pub first_corners_one : One first_corners.Post
first_corners_one κs args r q s t = same
