-- `line::coordinate` is the sum that it says, of small numbers. Assumes nothing.
use lib.IntN.{◌*ℤ◌}
use mir.Syntax.{w32}
use mir.Val.{to_z, of_z}
use Rattle.whole.proofs.Machine.{Has, read, plus, times, fits, back}
use Rattle.geometry.proofs.Bound.{coord}
use Rattle.line.proofs.coordinate.Goals as goal
use Rattle.line.proofs.coordinate.Goals.{Start}

-- the sum, part by part, as the code works it out
module _ (c : Start) where
  along : Has w32 (to_z w32 (of_z w32 c.args.major) *ℤ to_z w32 (of_z w32 c.args.along)) (c.args.major *ℤ c.args.along) 262144
  along = times (read c.args.major c.requires.one tt) (read c.args.along c.requires.many tt) tt

  across : Has w32 (to_z w32 (of_z w32 c.args.minor) *ℤ to_z w32 (of_z w32 c.args.across)) (c.args.minor *ℤ c.args.across) 262144
  across = times (read c.args.minor c.requires.other tt) (read c.args.across c.requires.few tt) tt

pub overflow_add-result-2 : goal.overflow_add-result-2
overflow_add-result-2 c = fits (plus (back (plus (back (coord c.requires.from)) (back (along (goal.at.overflow_add-result-2 c).Start)) tt)) (back (across (goal.at.overflow_add-result-2 c).Start)) tt)

pub returns : goal.returns
returns c = (back (plus (back (plus (back (coord c.requires.from)) (back (along (goal.at.returns c).Start)) tt)) (back (across (goal.at.returns c).Start)) tt)).is
