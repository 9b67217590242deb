-- `text::write::write_number` writes the number and the byte behind it. Assumes nothing.
use mathlib.Core.List.{[], ◌∷◌}
use Rattle.text.specs.Show.{shown}
use Rattle.text.proofs.Writing.{wrote_then}
use Rattle.text.proofs.write.write_number.Goals as goal

pub returns : goal.returns
returns c =
    let g = c.args in
    wrote_then g.buf.now g.at (shown g.n) (g.stop ∷ []) c.write_u64-end.ensures
    c.write_byte.ensures
