-- `screens::frame` clears the buffer and answers the size, where the line is a description. Assumes nothing.
use mathlib.Core.Path.{refl}
use Rattle.readers.proofs.Readings.{unanswered, answered}
use Rattle.screens.specs.Screen.{frame_turn}
use Rattle.screens.proofs.Turns.{size_said_lem}
use Rattle.screens.proofs.frame.Goals as goal

pub returns-in_default : goal.returns-in_default
unfolding frame_turn
returns-in_default c = unanswered _ _ refl c.in_default.ensures

pub returns : goal.returns
unfolding frame_turn
returns c = answered _ _ c.in-Some.ensures (size_said_lem _ c.into.ensures _ c.buffer_size_bpp.ensures c.set_all.ensures)
