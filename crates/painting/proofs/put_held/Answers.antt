-- `painting::put_held` puts the pixel at the place, whose coordinates are a column and a row since the rectangle holds it. Assumes nothing.
use mathlib.Core.Path.{ap₂, ◌∙◌}
use lib.IntN.{ℤ, nat_abs}
use mir.Facts.{to_z-of_z}
use Rattle.layout.specs.Layout.{put_pixel}
use Rattle.frames.specs.Description.{raster}
use Rattle.frames.proofs.Refusals.{sound}
use Rattle.windows.proofs.Windows.{point_put}
use Rattle.painting.proofs.put_held.Goals as goal

pub returns : goal.returns
returns c =
    let a = c.args in
    c.put_at.ensures
    ∙ ap₂ (λ (x y : ℤ). put_pixel (raster a.frame) (nat_abs x) (nat_abs y) a.colour a.buf.now) (to_z-of_z c.ranges.x) (to_z-of_z c.ranges.y)
    ∙ point_put a.window a.x a.y (raster a.frame) (sound a.frame c.requires.0.accepted.described) a.colour a.buf.now c.requires.1 c.requires.2
