-- `charts::day::draw_good` reads the wedge and how far the axes reach, and draws one list of calls behind the other. Assumes nothing.
use mathlib.Core.Path.{◌≡◌, sym, ap, subst, ◌∙◌}
use Rattle.frames.proofs.Refusals.{judged}
use Rattle.text.specs.Fields.{lines}
use Rattle.text.specs.Lines.{each}
use Rattle.readers.specs.Figures.{corners_or_zero}
use Rattle.reports.specs.Minutes.{wedge, behind_first}
use Rattle.charts.specs.Scale.{of_wedge, with_sample, extent}
use Rattle.charts.specs.Picture.{picture}
use Rattle.charts.specs.Day.{leaves, under, discs, day}
use Rattle.charts.proofs.Drawn.{leaves_append}
use Rattle.charts.proofs.Scaling.{Long, wedge_long, samples_long}
use Rattle.charts.proofs.Taking.{first_taken}
use Rattle.charts.proofs.day.draw_good.Goals as goal
use Rattle.charts.proofs.day.draw_good.Goals.{After-with_samples-e}

long : (c : After-with_samples-e) → Long c.with_samples-e.result
long c =
    subst Long (sym c.with_samples-e.ensures)
    (samples_long (lines c.next.new.self.0.now) (subst Long (sym c.of_wedge.ensures) (wedge_long c.unwrap_or-wedge.result)))

pub draw_under-requires : goal.draw_under-requires
draw_under-requires c = long (goal.at.draw_under-requires c).After-with_samples-e

pub draw_samples-requires : goal.draw_samples-requires
draw_samples-requires c =
    let e = long (goal.at.draw_samples-requires c).After-with_samples-e in
    (judged _ _ c.over.ensures, e.0, e.1)

pub returns : goal.returns
unfolding day
returns c =
    let a = c.args in
    let s = a.input.now in
    let f = c.frame-f.ensures in
    let t = c.unwrap_or-wedge.ensures ∙ ap corners_or_zero c.first_corners.ensures in
    let samples : lines c.next.new.self.0.now ≡ lines (behind_first s) = first_taken s c.next.new.self.0.now c.next.result c.next.ensures.steps in
    let e = c.with_samples-e.ensures ∙ (λ i. each with_sample ((c.of_wedge.ensures ∙ ap of_wedge t) i) (samples i)) in
    let below = c.draw_under.ensures ∙ (λ i. leaves (f i) (under (e i) (t i)) a.pane.now) in
    c.draw_samples.ensures
    ∙ (λ i. leaves ((c.over.ensures.frame ∙ f) i) (discs (e i) (t i) (samples i)) (below i))
    ∙ sym (leaves_append picture (under (extent s) (wedge s)) (discs (extent s) (wedge s) (lines (behind_first s))) a.pane.now)
