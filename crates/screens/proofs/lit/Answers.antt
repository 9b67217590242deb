-- `screens::lit` hands on what the library answers, where the line is its word alone. Assumes nothing.
use mathlib.Core.Path.{ap}
use Rattle.std.specs.Prelude.{Some}
use Rattle.readers.proofs.Readings.{unanswered, answered}
use Rattle.screens.specs.Screen.{lit_reply}
use Rattle.screens.proofs.Turns.{lit_said_lem}
use Rattle.screens.proofs.lit.Goals as goal

pub returns-in_err-line_end : goal.returns-in_err-line_end
unfolding lit_reply
returns-in_err-line_end c = unanswered _ _ c.from_residual.ensures c.in_err-line_end.ensures

pub returns : goal.returns
unfolding lit_reply
returns c = answered _ _ c.in_ok-line_end.ensures (ap Some (lit_said_lem _ c.into.ensures c.lit.ensures))
