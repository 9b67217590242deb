-- `line::Walker::new` makes the walker that has not moved. Assumes nothing.
use mathlib.Core.Path.{refl}
use mir.Syntax.{w32}
use mir.Facts.{to_z-of_z}
use Rattle.geometry.proofs.Bound.{coord_fits}
use Rattle.line.proofs.Walk.{begins}
use Rattle.line.proofs.Walker.new.Goals as goal

pub returns : goal.returns
returns c =
    begins _ _ _ c.requires.0 c.requires.1 c.course_of-c.ensures (to_z-of_z {w = w32} (coord_fits c.requires.0.x)) (to_z-of_z {w = w32} (coord_fits c.requires.0.y))
    refl
