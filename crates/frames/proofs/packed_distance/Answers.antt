-- `frames::packed_distance` works out the bytes of a row in 64 bits, which hold them for any numbers. Assumes nothing.
use borrow.Author.Tests.{le-leb, lt-leb}
use Rattle.layout.specs.Packed.{row_bytes}
use Rattle.frames.specs.Description.{packed_distance}
use Rattle.frames.proofs.packed_distance.Goals as goal

pub returns-then-bytes-le4294967295 : goal.returns-then-bytes-le4294967295
unfolding packed_distance row_bytes
returns-then-bytes-le4294967295 c = simp (le-leb _ _ c.if-bytes-le4294967295.true)

pub returns : goal.returns
unfolding packed_distance row_bytes
returns c = simp (lt-leb _ _ c.if-bytes-le4294967295.false)
