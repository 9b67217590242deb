-- `netpbm::turn_row` has turned the first p pixels after p turns. Assumes nothing.
use mathlib.Core.Path.{◌≡◌}
use Rattle.netpbm.specs.Words.{turned_row}
use Rattle.netpbm.proofs.turn_row.Given as goal

abbrev pub invariant-loop-p : goal.invariant-loop-p
invariant-loop-p l = l.to ≡ turned_row l.from 0 0 l.p l.initial.to
