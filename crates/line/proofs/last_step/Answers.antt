-- `line::last_step` is the major length, which a course has as its threshold. Assumes nothing.
use lib.IntN.{pos}
use mir.Syntax.{w32}
use borrow.Author.Rules.{rules}
use Rattle.whole.proofs.Machine.{Has, to_nat, nat_is}
use Rattle.line.specs.Line.{major}
use Rattle.line.proofs.Walk.{threshold_of_lem}
use Rattle.line.proofs.last_step.Goals as goal
use Rattle.line.proofs.last_step.Goals.{After-course_of-c}

pub course_of-c-requires : goal.course_of-c-requires
course_of-c-requires c = search rules

last : (c : After-course_of-c) → Has w32 c.course_of-c.result.threshold (pos (major c.args.start c.args.end)) 262144
last c = threshold_of_lem c.course_of-c.ensures c.requires.0 c.requires.1

pub overflow_cast-result : goal.overflow_cast-result
overflow_cast-result c = to_nat w32 (last (goal.at.overflow_cast-result c).After-course_of-c) tt

pub returns : goal.returns
returns c = nat_is (last (goal.at.returns c).After-course_of-c)
