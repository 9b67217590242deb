-- Each public contract determines its answer: any two results that it allows of the same arguments are equal. `Post` is the contract as the
-- source states it. Assumes nothing.
use Rattle.whole.proofs.Determined.{One, same}
use Rattle.geometry.proofs.Answer.{same_verdict, same_span}
use Rattle.circle.proofs.contains.Reads as contains
use Rattle.circle.proofs.row_span.Reads as row_span

pub contains_one : One contains.Post
contains_one κs args r q s t h k = same_verdict (same h k)

pub row_span_one : One row_span.Post
row_span_one κs args r q s t h k = same_span (same h k)
