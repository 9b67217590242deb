-- `line::minor_moves` takes the lengths from the line's course. Assumes nothing.
use Prim.Native.Nat.{◌*◌}
use native.Mathlib.Omega.{arith}
use lib.IntN.{pos}
use mir.Syntax.{w32}
use Rattle.whole.proofs.Machine.{Has, nat_is}
use Rattle.line.specs.Line.{major, minor}
use Rattle.line.proofs.Lengths.{narrow, major_size}
use Rattle.line.proofs.Walk.{threshold_of_lem, up_of}
use Rattle.line.proofs.minor_moves.Goals as goal
use Rattle.line.proofs.minor_moves.Goals.{After-course_of-c}

-- the lengths, as the course has them
module _ (c : After-course_of-c) where
  last : Has w32 c.course_of-c.result.threshold (pos (major c.args.start c.args.end)) 262144
  last = threshold_of_lem c.course_of-c.ensures c.requires.0.0 c.requires.0.1

  rise : Has w32 c.course_of-c.result.up (pos (2 * minor c.args.start c.args.end)) 524288
  rise = up_of c.course_of-c.ensures c.requires.0.0 c.requires.0.1

pub moves_at-requires : goal.moves_at-requires
moves_at-requires c =
    omega (arith, nat_is (last (goal.at.moves_at-requires c).After-course_of-c), nat_is (rise (goal.at.moves_at-requires c).After-course_of-c), c.requires.1, narrow c.args.start c.args.end, major_size c.requires.0.0 c.requires.0.1)
