-- `reports::spans::write_rows` writes a row a turn; what is still to be written is at each turn what was at the start. Assumes nothing.
use Prim.Native.Nat.{◌-◌}
use Rattle.reports.proofs.Rows.{Writing}
use Rattle.reports.proofs.spans.write_rows.Given as goal

abbrev pub invariant-loop : goal.invariant-loop
invariant-loop l = Writing l.initial.out l.at l.t l.first l.count l.out l.filled l.y (l.count - l.counter)
