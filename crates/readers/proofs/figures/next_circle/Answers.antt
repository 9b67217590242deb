-- `readers::figures::next_circle` reads a place, and the diameter behind it. Assumes nothing.
use mathlib.Core.Path.{refl}
use Rattle.readers.specs.Figures.{next_circle}
use Rattle.readers.proofs.Readings.{both_read, none_behind, none_first}
use Rattle.readers.proofs.figures.next_circle.Goals as goal

pub returns-in_err-topleft : goal.returns-in_err-topleft
unfolding next_circle
returns-in_err-topleft c = none_first _ _ c.from_residual.ensures c.in_err-topleft.ensures

pub returns-in_err-diameter : goal.returns-in_err-diameter
unfolding next_circle
returns-in_err-diameter c = none_behind _ _ c.from_residual-in_err-diameter.ensures c.in_ok-topleft.ensures c.in_err-diameter.ensures

pub returns : goal.returns
unfolding next_circle
returns c = both_read _ _ c.in_ok-topleft.ensures c.in_ok-diameter.ensures refl
