-- `readers::figures::next_ends` reads two places, one behind the other. Assumes nothing.
use mathlib.Core.Path.{refl}
use Rattle.readers.specs.Figures.{next_ends}
use Rattle.readers.proofs.Readings.{both_read, none_behind, none_first}
use Rattle.readers.proofs.figures.next_ends.Goals as goal

pub returns-in_err-start : goal.returns-in_err-start
unfolding next_ends
returns-in_err-start c = none_first _ _ c.from_residual.ensures c.in_err-start.ensures

pub returns-in_err-end : goal.returns-in_err-end
unfolding next_ends
returns-in_err-end c = none_behind _ _ c.from_residual-in_err-end.ensures c.in_ok-start.ensures c.in_err-end.ensures

pub returns : goal.returns
unfolding next_ends
returns c = both_read _ _ c.in_ok-start.ensures c.in_ok-end.ensures refl
