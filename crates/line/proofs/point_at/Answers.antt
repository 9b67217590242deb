-- `line::point_at` is where the walker of that step stands. Assumes nothing.
use mathlib.Core.Path.{◌∙◌}
use mir.Syntax.{w32}
use Rattle.whole.proofs.Machine.{field_back}
use Rattle.line.proofs.Walk.{stands_x, stands_y}
use Rattle.line.proofs.point_at.Goals as goal

pub returns : goal.returns
returns c =
    let walked = c.requires.1 in
    let x = field_back w32 c.at-w.result.x c.struct_told-1.given.0.1 ∙ stands_x c.at-w.ensures walked in
    let y = field_back w32 c.at-w.result.y c.struct_told-1.given.1.0.1 ∙ stands_y c.at-w.ensures walked in
    λ i. (x i, y i)
