-- `line::Walker::minor_move` adds the minor move to the place and takes the error down by it. Assumes nothing.
use mathlib.Core.Path.{refl}
use lib.IntN.{◌+ℤ◌, ◌-ℤ◌}
use mir.Syntax.{w32}
use mir.Val.{to_z, of_z}
use Rattle.whole.proofs.Machine.{Has, plus, minus, fits, back}
use Rattle.line.specs.declared.Walker.{Walker}
use Rattle.line.specs.Walk.{Moving}
use Rattle.line.proofs.Walk.{x_read, y_read, error_read, xminor_read, yminor_read, down_read, settles}
use Rattle.line.proofs.Walker.minor_move.Goals as goal

-- the move, as the code works it out
module _ {w : Walker} (h : Moving w) where
  X : Has w32 (to_z w32 (of_z w32 w.x) +ℤ to_z w32 (of_z w32 w.course.xminor)) (w.x +ℤ w.course.xminor) 655363
  X = plus (x_read h.here.stands h.more) (xminor_read h.here.stands.course) tt

  Y : Has w32 (to_z w32 (of_z w32 w.y) +ℤ to_z w32 (of_z w32 w.course.yminor)) (w.y +ℤ w.course.yminor) 655363
  Y = plus (y_read h.here.stands h.more) (yminor_read h.here.stands.course) tt

  E : Has w32 (to_z w32 (of_z w32 w.error) -ℤ to_z w32 (of_z w32 w.course.down)) (w.error -ℤ w.course.down) 1310720
  E = minus (error_read h.here.stands h.here.due) (down_read h.here.stands.course h.here.stands.start h.here.stands.end) tt

pub overflow_add-result : goal.overflow_add-result
overflow_add-result c = fits (X c.requires)

pub overflow_add-result-2 : goal.overflow_add-result-2
overflow_add-result-2 c = fits (Y c.requires)

pub overflow_sub-result : goal.overflow_sub-result
overflow_sub-result c = fits (E c.requires)

pub returns : goal.returns
returns c =
    let h = c.requires in
    λ s e k m st due. settles st refl due (back (X h)).is (back (Y h)).is (back (E h)).is
