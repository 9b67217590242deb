-- `readers::figures::next_corners` reads two places, and a third behind them. Assumes nothing.
use mathlib.Core.Path.{refl}
use Rattle.readers.specs.Figures.{next_corners}
use Rattle.readers.proofs.Readings.{both_read, none_behind, none_first}
use Rattle.readers.proofs.figures.next_corners.Goals as goal

pub returns-in_err-a : goal.returns-in_err-a
unfolding next_corners
returns-in_err-a c = none_first _ _ c.from_residual.ensures c.in_err-a.ensures

pub returns-in_err-c : goal.returns-in_err-c
unfolding next_corners
returns-in_err-c c = none_behind _ _ c.from_residual-in_err-c.ensures c.in_ok-a.ensures c.in_err-c.ensures

pub returns : goal.returns
unfolding next_corners
returns c = both_read _ _ c.in_ok-a.ensures c.in_ok-c.ensures refl
