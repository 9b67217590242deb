-- `painting::fill_each_row` has painted the rows above y. Assumes nothing.
use mathlib.Core.Path.{◌≡◌}
use lib.IntN.{pos}
use lib.Signed.{lt_z}
use Rattle.layout.specs.Layout.{painted}
use Rattle.frames.specs.Description.{raster}
use Rattle.painting.proofs.fill_each_row.Given as goal

abbrev pub invariant-loop-y : goal.invariant-loop-y
invariant-loop-y l = l.buf ≡ painted (raster l.frame) (λ u v. lt_z v (pos l.y)) l.colour l.initial.buf
