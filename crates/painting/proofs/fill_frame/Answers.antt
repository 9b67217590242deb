-- `painting::fill_frame` paints the frame as one run or row by row, and not at all where rows have no pixel. Assumes nothing.
use mathlib.Core.Path.{sym}
use native.Mathlib.Omega.{arith}
use Rattle.layout.specs.Figure.{everywhere}
use Rattle.layout.proofs.Painted.{painted_none}
use Rattle.frames.specs.Description.{raster}
use Rattle.frames.proofs.Refusals.{sound}
use Rattle.painting.proofs.fill_frame.Goals as goal

pub returns-else-frame-gt0 : goal.returns-else-frame-gt0
returns-else-frame-gt0 c =
    let a = c.args in
    let D = c.requires.accepted.described in
    sym (painted_none (raster a.frame) (sound a.frame D) a.colour a.buf.now everywhere (λ x y hx hy. absurd (let w = c.if-frame-gt0.false in omega arith)))
