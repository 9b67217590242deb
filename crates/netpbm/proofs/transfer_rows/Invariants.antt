-- `netpbm::transfer_rows` copies the rows as one run where it may, else has taken the first y rows over after y turns. Assumes nothing.
use mathlib.Core.Path.{◌≡◌}
use Rattle.netpbm.proofs.Rows.{rows}
use Rattle.netpbm.proofs.transfer_rows.Given as goal

abbrev pub invariant-loop-y : goal.invariant-loop-y
invariant-loop-y l = l.to ≡ rows l.source l.from l.target l.kept l.initial.to l.y
