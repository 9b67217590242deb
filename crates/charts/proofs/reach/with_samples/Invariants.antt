-- `charts::reach::with_samples` takes a line a turn. Assumes nothing.
use mathlib.Core.Path.{◌≡◌}
use Rattle.text.specs.Fields.{lines}
use Rattle.text.specs.Lines.{each}
use Rattle.charts.specs.Scale.{with_sample}
use Rattle.charts.proofs.reach.with_samples.Given as goal

abbrev pub invariant-loop-line : goal.invariant-loop-line
invariant-loop-line l = each with_sample l.reach (lines l.line-iterator.0.now) ≡ each with_sample l.initial.reach (lines l.fn.samples.0.now)
