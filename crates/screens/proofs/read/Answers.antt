-- `screens::read` hands on what the library answers, where the line ends behind the place. Assumes nothing.
use mathlib.Core.Path.{ap}
use Rattle.std.specs.Prelude.{Some}
use Rattle.readers.proofs.Readings.{one_fails, one_goes_on, one_said}
use Rattle.screens.specs.Screen.{read_reply}
use Rattle.screens.proofs.Turns.{read_said_lem}
use Rattle.screens.proofs.read.Goals as goal

pub returns-in_err-p : goal.returns-in_err-p
unfolding read_reply
returns-in_err-p c = one_fails _ _ _ c.from_residual.ensures c.in_err-p.ensures

pub returns-in_err-line_end : goal.returns-in_err-line_end
unfolding read_reply
returns-in_err-line_end c = one_goes_on _ _ _ c.from_residual-in_err-line_end.ensures c.in_ok-p.ensures c.in_err-line_end.ensures

pub returns : goal.returns
unfolding read_reply
returns c = one_said _ _ _ c.in_ok-p.ensures c.in_ok-line_end.ensures (ap Some (read_said_lem _ c.into.ensures c.pixel.ensures))
