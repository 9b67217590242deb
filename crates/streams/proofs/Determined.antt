-- Each public contract of this crate determines its answer, but for what a read brings and whether a write fails, which are left open. Any two results
-- that it allows of the same arguments are equal: `flush` and `empty`, if both writes went alike; `refill`, if a line was left, so that it did not read.
-- `Post` is the contract as the source states it. Assumes nothing.
use mathlib.Core.Path.{◌≡◌, sym, ap, ◌∙◌}
use mathlib.Core.Bool.{true}
use Rattle.whole.proofs.Determined.{One, same}
use Rattle.streams.specs.State.{written, emptied}
use Rattle.streams.specs.Refill.{whole}
use Rattle.streams.proofs.State.start.Reads as start
use Rattle.streams.proofs.State.goes_on.Reads as goes_on
use Rattle.streams.proofs.State.stands_at.Reads as stands_at
use Rattle.streams.proofs.State.has_line.Reads as has_line
use Rattle.streams.proofs.State.has_last.Reads as has_last
use Rattle.streams.proofs.State.flush.Reads as flush
use Rattle.streams.proofs.State.empty.Reads as empty
use Rattle.streams.proofs.State.refill.Reads as refill

pub start_one : One start.Post
start_one κs args r q s t = same

pub goes_on_one : One goes_on.Post
goes_on_one κs args r q s t = same

pub stands_at_one : One stands_at.Post
stands_at_one κs args r q s t = same

pub has_line_one : One has_line.Post
has_line_one κs args r q s t = same

pub has_last_one : One has_last.Post
has_last_one κs args r q s t = same

-- ---- a write
pub flush_one : (κs : _) (args : _) (r q : _) (s t : _) → flush.Post κs args r s → flush.Post κs args q t → r.unwritten ≡ q.unwritten → r ≡ q
flush_one κs args r q s t h k e = h ∙ ap (written args.0) e ∙ sym k

pub empty_one : (κs : _) (args : _) (r q : _) (s t : _) → empty.Post κs args r s → empty.Post κs args q t → r.unwritten ≡ q.unwritten → r ≡ q
empty_one κs args r q s t h k e = h ∙ ap (emptied args.0) e ∙ sym k

-- ---- a read
pub refill_one : (κs : _) (args : _) (r q : _) (s t : _) → refill.Post κs args r s → refill.Post κs args q t → whole args.1.1.0.now args.0 ≡ true
    → (r ≡ q) × (s.1.1.0.now ≡ t.1.1.0.now)
refill_one κs args r q s t h k e = (same (h.stays e).0 (k.stays e).0, same (h.stays e).1 (k.stays e).1)
