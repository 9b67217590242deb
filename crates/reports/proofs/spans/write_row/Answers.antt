-- `reports::spans::write_row` writes the row and the two columns of its span. Assumes nothing.
use native.Mathlib.Omega.{arith}
use mir.Syntax.{w32}
use mir.Facts.{to_z-of_z}
use Rattle.whole.proofs.Machine.{field_back}
use Rattle.text.proofs.Showing.{triple_short}
use Rattle.reports.proofs.spans.write_row.Goals as goal

pub write_triple-requires : goal.write_triple-requires
write_triple-requires c =
    let r = c.row_of-s.result in
    let first = c.struct_told-1.given.1.0.1 in
    let past = c.struct_told-2-1.given.1.1.0.1 in
    rw (to_z-of_z c.ranges.y, field_back w32 r.start first, field_back w32 r.end past)
    (omega (arith, c.requires, triple_short c.args.y r.start r.end 10 c.ranges.y (record { sfits = first }) (record { sfits = past })))
