-- `charts::day::draw_sample` draws the disc of a sample that is on the picture. Assumes nothing.
use mathlib.Core.Path.{sym, ap, ◌∙◌}
use lib.IntN.{pos, ◌-ℤ◌}
use lib.ListN.{length}
use mir.Syntax.{w32}
use Rattle.whole.proofs.Machine.{fits, read, lit, back, minus}
use Rattle.geometry.specs.declared.Point.{Point}
use Rattle.frames.specs.Drawing.{outcome}
use Rattle.frames.proofs.Calls.{is_judged, judged_outcome}
use Rattle.drawing.specs.Drawing.{circle_drawing}
use Rattle.charts.proofs.Drawn.{bytes_of, shown, hidden, no_sample}
use Rattle.charts.proofs.Scaling.{spot_near}
use Rattle.charts.proofs.day.draw_sample.Goals as goal

pub overflow_sub-s : goal.overflow_sub-s
overflow_sub-s c =
    fits (minus (read c.spot-s.result.0 (spot_near _ _ c.spot-s.ensures).0 tt) (lit 1 tt) tt)

pub overflow_sub-s-then-is_shown : goal.overflow_sub-s-then-is_shown
overflow_sub-s-then-is_shown c =
    fits (minus (read c.spot-s.result.1 (spot_near _ _ c.spot-s.ensures).1 tt) (lit 1 tt) tt)

pub circle_on-requires : goal.circle_on-requires
circle_on-requires c =
    is_judged c.args.canvas.frame (length c.args.pane.now) c.requires.0

pub returns-then-is_shown : goal.returns-then-is_shown
returns-then-is_shown c =
    let a = c.args in
    let p = c.in-Some.sample in
    let x = (back {w = w32} (minus (read c.spot-s.result.0 (spot_near _ _ c.spot-s.ensures).0 tt) (lit 1 tt) tt)).is ∙ ap (λ (p : Point). p.0 -ℤ pos 1) c.spot-s.ensures in
    let y = (back {w = w32} (minus (read c.spot-s.result.1 (spot_near _ _ c.spot-s.ensures).1 tt) (lit 1 tt) tt)).is ∙ ap (λ (p : Point). p.1 -ℤ pos 1) c.spot-s.ensures in
    bytes_of (judged_outcome a.canvas.frame _ a.pane.now c.requires.0 c.circle_on.ensures)
    ∙ (λ i. (outcome a.canvas.frame (circle_drawing (x i, y i) 3 (c.disc_colour-colour.ensures i)) a.pane.now).1)
    ∙ rw c.in-Some.is (shown a.canvas.frame a.e a.t p a.pane.now (sym c.is_shown.ensures ∙ c.if-is_shown.true))

pub returns-else-is_shown : goal.returns-else-is_shown
returns-else-is_shown c =
    let a = c.args in
    rw c.in-Some.is (hidden a.canvas.frame a.e a.t c.in-Some.sample a.pane.now (sym c.is_shown.ensures ∙ c.if-is_shown.false))

pub returns-in_default : goal.returns-in_default
returns-in_default c = let a = c.args in rw c.in_default.is (no_sample a.canvas.frame a.e a.t a.pane.now)
