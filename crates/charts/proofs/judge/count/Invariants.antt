-- `charts::judge::count` counts a line a turn. Assumes nothing.
use mathlib.Core.Path.{◌≡◌}
use Rattle.text.specs.Fields.{lines}
use Rattle.text.specs.Lines.{each}
use Rattle.reports.specs.Minutes.{Few, count_of, fresh, take_line}
use Rattle.charts.proofs.judge.count.Given as goal

abbrev pub invariant-loop-line : goal.invariant-loop-line
invariant-loop-line l = Few (count_of l.tally) × (each take_line l.tally (lines l.line-iterator.0.now) ≡ each take_line fresh (lines l.input))
