-- `questions::discspan` hands on what the library answers, where the line ends behind the last number. Assumes nothing.
use mathlib.Core.Path.{ap}
use Rattle.std.specs.Prelude.{Some}
use Rattle.readers.proofs.Readings.{first_fails, second_fails, two_go_on, two_said}
use Rattle.questions.specs.Ask.{discspan_reply}
use Rattle.questions.proofs.Questions.{questions}
use Rattle.questions.proofs.discspan.Goals as goal

pub returns-in_err-topleft : goal.returns-in_err-topleft
unfolding discspan_reply
returns-in_err-topleft c = first_fails _ _ _ _ c.from_residual.ensures c.in_err-topleft.ensures

pub returns-in_err-y : goal.returns-in_err-y
unfolding discspan_reply
returns-in_err-y c = second_fails _ _ _ _ c.from_residual-in_err-y.ensures c.in_ok-topleft.ensures c.in_err-y.ensures

pub returns-in_err-line_end : goal.returns-in_err-line_end
unfolding discspan_reply
returns-in_err-line_end c = two_go_on _ _ _ _ c.from_residual-in_err-line_end.ensures c.in_ok-topleft.ensures c.in_ok-y.ensures c.in_err-line_end.ensures

pub returns : goal.returns
unfolding discspan_reply
returns c = two_said _ _ _ _ c.in_ok-topleft.ensures c.in_ok-y.ensures c.in_ok-line_end.ensures (ap Some (search questions))
