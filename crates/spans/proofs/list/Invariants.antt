-- `spans::list` hands over a part a turn; what was handed over and what is left are at each turn the report. Assumes nothing.
use mathlib.Core.Path.{◌≡◌}
use lib.ListN.{length}
use Rattle.reports.proofs.Parts.{Handed}
use Rattle.spans.proofs.list.Given as goal

abbrev pub invariant-loop-part : goal.invariant-loop-part
invariant-loop-part l = (length l.out ≡ 65536) × Handed l.v l.part l.told

abbrev pub decreases-loop-part : goal.decreases-loop-part
decreases-loop-part l = l.part.left
