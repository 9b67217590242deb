-- `questions::span` hands on what the library answers, where the line ends behind the last number. Assumes nothing.
use mathlib.Core.Path.{ap}
use Rattle.std.specs.Prelude.{Some}
use Rattle.readers.proofs.Readings.{first_fails, second_fails, two_go_on, two_said}
use Rattle.questions.specs.Ask.{span_reply}
use Rattle.questions.proofs.Questions.{questions}
use Rattle.questions.proofs.span.Goals as goal

pub returns-in_err-t : goal.returns-in_err-t
unfolding span_reply
returns-in_err-t c = first_fails _ _ _ _ c.from_residual.ensures c.in_err-t.ensures

pub returns-in_err-y : goal.returns-in_err-y
unfolding span_reply
returns-in_err-y c = second_fails _ _ _ _ c.from_residual-in_err-y.ensures c.in_ok-t.ensures c.in_err-y.ensures

pub returns-in_err-line_end : goal.returns-in_err-line_end
unfolding span_reply
returns-in_err-line_end c = two_go_on _ _ _ _ c.from_residual-in_err-line_end.ensures c.in_ok-t.ensures c.in_ok-y.ensures c.in_err-line_end.ensures

pub returns : goal.returns
unfolding span_reply
returns c = two_said _ _ _ _ c.in_ok-t.ensures c.in_ok-y.ensures c.in_ok-line_end.ensures (ap Some (search questions))
