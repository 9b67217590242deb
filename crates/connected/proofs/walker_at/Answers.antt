-- `connected::walker_at` is the line's own walker at that step. Assumes nothing.
use Rattle.connected.proofs.Walk.{normal_next}
use Rattle.connected.proofs.walker_at.Goals as goal

pub returns : goal.returns
returns c = normal_next c.at.ensures c.requires.1
