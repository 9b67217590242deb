-- `framebuffer::set_at_depth` judges the frame of this depth, and sets the pixel on it. Assumes nothing.
use mathlib.Core.Path.{◌∙◌}
use mir.Facts.{to_z-of_z}
use Rattle.frames.specs.Drawing.{pixel_outcome}
use Rattle.frames.proofs.Calls.{judging, judged_placed}
use Rattle.framebuffer.proofs.set_at_depth.Goals as goal

pub set_pixel_on-requires : goal.set_pixel_on-requires
set_pixel_on-requires g c = search judging

pub returns : goal.returns
returns g c =
    let a = c.args in
    judged_placed c.at_depth-known.result _ a.colour a.buf.now c.over.ensures c.set_pixel_on.ensures
    ∙ (λ i. pixel_outcome (c.at_depth-known.ensures i) (to_z-of_z c.ranges.x i, to_z-of_z c.ranges.y i) a.colour a.buf.now)
