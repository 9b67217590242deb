-- `text::write::write_field` writes the number and then the byte. Assumes nothing.
use mathlib.Core.Path.{subst}
use mathlib.Core.List.{[], ◌∷◌}
use lib.IntN.{ℤ}
use mir.Facts.{to_z-of_z}
use Rattle.text.specs.Show.{shown_signed}
use Rattle.text.proofs.Writing.{Wrote, wrote_then}
use Rattle.text.proofs.write.write_field.Goals as goal
use Rattle.text.proofs.write.write_field.Goals.{After-write_i32-end}

-- what `write_i32` did, at the number itself
number : (c : After-write_i32-end)
    → Wrote c.args.buf.now c.args.at (shown_signed c.args.v) c.write_i32-end.result
    c.write_i32-end.new.buf
number c =
    let a = c.args in
    subst (λ (z : ℤ). Wrote a.buf.now a.at (shown_signed z) c.write_i32-end.result c.write_i32-end.new.buf) (to_z-of_z c.ranges.v) c.write_i32-end.ensures

pub returns : goal.returns
returns c =
    let a = c.args in
    wrote_then a.buf.now a.at (shown_signed a.v) (a.stop ∷ []) (number (goal.at.returns c).After-write_i32-end) c.write_byte.ensures
