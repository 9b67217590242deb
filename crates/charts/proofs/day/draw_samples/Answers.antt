-- `charts::day::draw_samples` draws the sample of a line a turn. Assumes nothing.
use mathlib.Core.Path.{sym, ap, ◌∙◌}
use Rattle.text.specs.Fields.{lines}
use Rattle.text.specs.Lines.{each}
use Rattle.charts.proofs.Drawn.{sampled, discs_each}
use Rattle.charts.proofs.day.draw_samples.Goals as goal

pub returns : goal.returns
returns c =
    let l = c.loop-line in
    let a = c.args in
    sym (ap (each (sampled a.canvas.frame a.e a.t) l.pane) c.in-None.ensures.steps.0) ∙ l.invariant.1
    ∙ discs_each a.canvas.frame a.e a.t (lines a.samples.0.now) a.pane.now
