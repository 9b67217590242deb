-- `line::Walker::major_move` adds the major move to the place and takes the error up by it. Assumes nothing.
use mathlib.Core.Path.{refl}
use Prim.Native.Nat.{◌+◌, ◌≤◌}
use native.Mathlib.Omega.{arith}
use lib.IntN.{◌+ℤ◌}
use mir.Syntax.{w32}
use mir.Val.{to_z, of_z}
use Rattle.whole.proofs.Machine.{Has, plus, fits, back}
use Rattle.line.specs.declared.Walker.{Walker}
use Rattle.line.specs.Line.{major}
use Rattle.line.specs.Walk.{Walking}
use Rattle.line.proofs.Walk.{x_read, y_read, error_read, xmajor_read, ymajor_read, up_read, advances}
use Rattle.line.proofs.Walker.major_move.Goals as goal

-- the move, as the code works it out
module _ {w : Walker} (h : Walking w) where
  within : h.k ≤ major h.s h.e + 1
  within = omega (arith, h.more)

  X : Has w32 (to_z w32 (of_z w32 w.x) +ℤ to_z w32 (of_z w32 w.course.xmajor)) (w.x +ℤ w.course.xmajor) 655363
  X = plus (x_read h.here.stands within) (xmajor_read h.here.stands.course) tt

  Y : Has w32 (to_z w32 (of_z w32 w.y) +ℤ to_z w32 (of_z w32 w.course.ymajor)) (w.y +ℤ w.course.ymajor) 655363
  Y = plus (y_read h.here.stands within) (ymajor_read h.here.stands.course) tt

  E : Has w32 (to_z w32 (of_z w32 w.error) +ℤ to_z w32 (of_z w32 w.course.up)) (w.error +ℤ w.course.up) 1310720
  E = plus (error_read h.here.stands (omega (arith, h.here.near))) (up_read h.here.stands.course h.here.stands.start h.here.stands.end) tt

pub overflow_add-result : goal.overflow_add-result
overflow_add-result c = fits (X c.requires)

pub overflow_add-result-2 : goal.overflow_add-result-2
overflow_add-result-2 c = fits (Y c.requires)

pub overflow_add-result-3 : goal.overflow_add-result-3
overflow_add-result-3 c = fits (E c.requires)

pub returns : goal.returns
returns c =
    let h = c.requires in
    λ s e k m st. advances st refl (back (X h)).is (back (Y h)).is (back (E h)).is
