-- `calls::corners_and_colour` reads the figure, and the colour behind it, and looks whether the line ends there. Assumes nothing.
use mathlib.Core.Path.{refl}
use Rattle.readers.proofs.Readings.{none_first, none_behind, both_read, none_read, goes_on, ends_there}
use Rattle.calls.specs.Draw.{corners_and_colour}
use Rattle.calls.proofs.corners_and_colour.Goals as goal

pub returns-in_err-corners : goal.returns-in_err-corners
unfolding corners_and_colour
returns-in_err-corners c = none_read _ c.from_residual.ensures (none_first _ _ refl c.in_err-corners.ensures)

pub returns-in_err-colour : goal.returns-in_err-colour
unfolding corners_and_colour
returns-in_err-colour c = none_read _ c.from_residual-in_err-colour.ensures (none_behind _ _ refl c.in_ok-corners.ensures c.in_err-colour.ensures)

pub returns-in_err-line_end : goal.returns-in_err-line_end
unfolding corners_and_colour
returns-in_err-line_end c = goes_on _ c.from_residual-in_err-line_end.ensures (both_read _ _ c.in_ok-corners.ensures c.in_ok-colour.ensures refl) c.in_err-line_end.ensures

pub returns : goal.returns
unfolding corners_and_colour
returns c = ends_there _ (both_read _ _ c.in_ok-corners.ensures c.in_ok-colour.ensures refl) c.in_ok-line_end.ensures refl
