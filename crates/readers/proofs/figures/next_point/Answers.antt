-- `readers::figures::next_point` reads two coordinates, one behind the other. Assumes nothing.
use mathlib.Core.Path.{sym, ap₂}
use lib.IntN.{ℤ}
use Rattle.std.specs.Prelude.{Some}
use Rattle.text.proofs.Numbers.{read_back}
use Rattle.readers.specs.Figures.{next_point}
use Rattle.readers.proofs.Readings.{both_read, none_behind, none_first}
use Rattle.readers.proofs.figures.next_point.Goals as goal

pub returns-in_err-x : goal.returns-in_err-x
unfolding next_point
returns-in_err-x c = none_first _ _ c.from_residual.ensures c.in_err-x.ensures

pub returns-in_err-y : goal.returns-in_err-y
unfolding next_point
returns-in_err-y c = none_behind _ _ c.from_residual-in_err-y.ensures c.in_ok-x.ensures c.in_err-y.ensures

pub returns : goal.returns
unfolding next_point
returns c = both_read _ _ c.in_ok-x.ensures c.in_ok-y.ensures
    (ap₂ (λ (x y : ℤ). Some ((x, y), c.in_ok-y.at)) (read_back c.args.said.now c.args.at c.in_ok-x.x c.in_ok-x.at (sym c.in_ok-x.ensures))
    (read_back c.args.said.now c.in_ok-x.at c.in_ok-y.y c.in_ok-y.at (sym c.in_ok-y.ensures)))
