-- `charts::day::draw_samples` draws the sample of a line a turn. Assumes nothing.
use mathlib.Core.Path.{◌≡◌}
use lib.ListN.{length}
use Rattle.text.specs.Fields.{lines}
use Rattle.text.specs.Lines.{each}
use Rattle.charts.proofs.Drawn.{sampled}
use Rattle.charts.proofs.day.draw_samples.Given as goal

abbrev pub invariant-loop-line : goal.invariant-loop-line
invariant-loop-line l =
    (length l.pane ≡ length l.initial.pane)
    × (each (sampled l.canvas.frame l.e l.t) l.pane (lines l.line-iterator.0.now) ≡ each (sampled l.canvas.frame l.e l.t) l.initial.pane (lines l.fn.samples.0.now))
