-- `questions::inside` hands on what the library answers, where the line ends behind the last number. Assumes nothing.
use mathlib.Core.Path.{ap}
use Rattle.std.specs.Prelude.{Some}
use Rattle.readers.proofs.Readings.{first_fails, second_fails, two_go_on, two_said}
use Rattle.questions.specs.Ask.{inside_reply}
use Rattle.questions.proofs.Questions.{questions}
use Rattle.questions.proofs.inside.Goals as goal

pub returns-in_err-t : goal.returns-in_err-t
unfolding inside_reply
returns-in_err-t c = first_fails _ _ _ _ c.from_residual.ensures c.in_err-t.ensures

pub returns-in_err-p : goal.returns-in_err-p
unfolding inside_reply
returns-in_err-p c = second_fails _ _ _ _ c.from_residual-in_err-p.ensures c.in_ok-t.ensures c.in_err-p.ensures

pub returns-in_err-line_end : goal.returns-in_err-line_end
unfolding inside_reply
returns-in_err-line_end c = two_go_on _ _ _ _ c.from_residual-in_err-line_end.ensures c.in_ok-t.ensures c.in_ok-p.ensures c.in_err-line_end.ensures

pub returns : goal.returns
unfolding inside_reply
returns c = two_said _ _ _ _ c.in_ok-t.ensures c.in_ok-p.ensures c.in_ok-line_end.ensures (ap Some (search questions))
