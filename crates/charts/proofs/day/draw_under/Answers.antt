-- `charts::day::draw_under` draws call after call. Assumes nothing.
use mathlib.Core.Path.{ap, ◌∙◌}
use mathlib.Core.List.{[], ◌∷◌}
use lib.IntN.{pos}
use Rattle.frames.specs.Drawing.{outcome}
use Rattle.drawing.specs.Drawing.{line_drawing, triangle_drawing}
use Rattle.charts.specs.Picture.{ground, filling, ink}
use Rattle.charts.specs.Day.{leaves, box, under}
use Rattle.charts.proofs.Drawn.{bytes_of}
use Rattle.charts.proofs.day.draw_under.Goals as goal

pub returns : goal.returns
unfolding under
returns c =
    let a = c.args in
    let filled = bytes_of c.fill.ensures in
    let wedge = bytes_of c.draw_triangle.ensures
    ∙ (λ i. (outcome a.f (triangle_drawing (c.spot-a.ensures i) (c.spot-b.ensures i) (c.spot-c.ensures i) filling) (filled i)).1) in
    let side = c.draw_box.ensures ∙ ap (leaves a.f (box (pos 0, pos 0) (pos 23, pos 359) ground)) wedge in
    let foot = c.draw_box-2.ensures ∙ ap (leaves a.f (box (pos 0, pos 336) (pos 639, pos 359) ground)) side in
    let seconds = bytes_of c.draw_line.ensures ∙ ap (leaves a.f (line_drawing (pos 24, pos 335) (pos 624, pos 335) ink ∷ [])) foot in
    bytes_of c.draw_line-2.ensures ∙ ap (leaves a.f (line_drawing (pos 24, pos 335) (pos 24, pos 15) ink ∷ [])) seconds
