-- `charts::day::draw_day` makes the test of `charted`. Assumes nothing.
use mathlib.Core.Path.{sym, ap, ◌∙◌}
use mathlib.Core.Bool.{Bool, cond}
use Rattle.reports.specs.Minutes.{counting}
use Rattle.charts.specs.Picture.{picture}
use Rattle.charts.specs.Day.{leaves, day, charted}
use Rattle.charts.proofs.day.draw_day.Goals as goal

pub returns-then-is_ok : goal.returns-then-is_ok
unfolding charted
returns-then-is_ok c =
    let a = c.args in
    let k = c.count-k.ensures in
    let good = ap counting (sym k) ∙ sym c.is_ok.ensures.value ∙ c.if-is_ok.true in
    let after = c.draw_good.ensures ∙ sym (ap (λ (t : Bool). cond t (leaves picture (day a.input.now) a.pane.now) a.pane.now) good) in
    λ i. (k i, after i)

pub returns-else-is_ok : goal.returns-else-is_ok
unfolding charted
returns-else-is_ok c =
    let a = c.args in
    let k = c.count-k.ensures in
    let bad = ap counting (sym k) ∙ sym c.is_ok.ensures.value ∙ c.if-is_ok.false in
    let after = sym (ap (λ (t : Bool). cond t (leaves picture (day a.input.now) a.pane.now) a.pane.now) bad) in
    λ i. (k i, after i)
