-- The contract of `held`, which is told by its ends, determines its answer. Assumes nothing.
use Rattle.whole.proofs.Determined.{One}
use Rattle.windows.proofs.held.Reads as held
use Rattle.windows.proofs.Interval.{held_one}

pub held_answer_one : One held.Post
held_answer_one κs args r q s t = held_one
