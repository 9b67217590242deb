-- `spans::hand_over` hands over no byte beyond the report's end, so their number fits. Assumes nothing.
use native.Mathlib.Omega.{arith}
use Rattle.reports.proofs.Within.{report_short}
use Rattle.spans.proofs.hand_over.Goals as goal

pub overflow_add-result : goal.overflow_add-result
overflow_add-result c = omega (arith, c.requires.within, report_short c.args.v)
