-- `readers::figures::last_u32` reads a number, and looks whether the line ends there. Assumes nothing.
use mathlib.Core.Path.{refl}
use Rattle.readers.specs.Figures.{last_u32}
use Rattle.readers.proofs.Readings.{ends_there, goes_on, none_of, none_read, some_of}
use Rattle.readers.proofs.figures.last_u32.Goals as goal

pub returns-in_err-value : goal.returns-in_err-value
unfolding last_u32
returns-in_err-value c = none_of _ c.from_residual.ensures (none_read _ refl c.in_err-value.ensures)

pub returns-in_err-line_end : goal.returns-in_err-line_end
unfolding last_u32
returns-in_err-line_end c = none_of _ c.from_residual-in_err-line_end.ensures (goes_on _ refl c.in_ok-value.ensures c.in_err-line_end.ensures)

pub returns : goal.returns
unfolding last_u32
returns c = some_of _ (ends_there _ c.in_ok-value.ensures c.in_ok-line_end.ensures refl) c.then_some.ensures
