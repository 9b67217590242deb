-- `questions::rows` hands on what the library answers, where the line ends behind the figure. Assumes nothing.
use mathlib.Core.Path.{ap}
use Rattle.std.specs.Prelude.{Some}
use Rattle.readers.proofs.Readings.{one_fails, one_goes_on, one_said}
use Rattle.questions.specs.Ask.{rows_reply}
use Rattle.questions.proofs.Questions.{questions}
use Rattle.questions.proofs.rows.Goals as goal

pub returns-in_err-t : goal.returns-in_err-t
unfolding rows_reply
returns-in_err-t c = one_fails _ _ _ c.from_residual.ensures c.in_err-t.ensures

pub returns-in_err-line_end : goal.returns-in_err-line_end
unfolding rows_reply
returns-in_err-line_end c = one_goes_on _ _ _ c.from_residual-in_err-line_end.ensures c.in_ok-t.ensures c.in_err-line_end.ensures

pub returns : goal.returns
unfolding rows_reply
returns c = one_said _ _ _ c.in_ok-t.ensures c.in_ok-line_end.ensures (ap Some (search questions))
