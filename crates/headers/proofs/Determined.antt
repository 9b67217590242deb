-- Each contract that other crates use determines its answer: any two answers that it allows of the same arguments are equal. `Post` is the contract as the
-- source states it. Assumes nothing.
use Rattle.whole.proofs.Determined.{One, same}
use Rattle.headers.proofs.kind_of.Reads as kind_of
use Rattle.headers.proofs.read_header.Reads as read_header

pub kind_of_one : One kind_of.Post
kind_of_one κs args r q s t = same

pub read_header_one : One read_header.Post
read_header_one κs args r q s t = same
