-- `text::write::write_triple` writes three numbers, each with the byte behind it. Assumes nothing.
use mathlib.Core.List.{◌++◌}
use mir.Facts.{to_z-of_z}
use Rattle.text.specs.Show.{number_field}
use Rattle.text.proofs.Writing.{Wrote, at_field, wrote_then}
use Rattle.text.proofs.write.write_triple.Goals as goal
use Rattle.text.proofs.write.write_triple.Goals.{After-write_field-second, After-write_field-third}

one : (c : After-write_field-second)
    → Wrote c.args.buf.now c.args.at (number_field c.args.a 9) c.write_field-second.result
    c.write_field-second.new.buf
one c = at_field _ _ _ 9 (to_z-of_z c.ranges.a) c.write_field-second.ensures

two : (c : After-write_field-third)
    → Wrote c.write_field-second.new.buf c.write_field-second.result
    (number_field c.args.b 9) c.write_field-third.result c.write_field-third.new.buf
two c = at_field _ _ _ 9 (to_z-of_z c.ranges.b) c.write_field-third.ensures

pub returns : goal.returns
returns c =
    let w = one (goal.at.returns c).After-write_field-second in
    let x = two (goal.at.returns c).After-write_field-third in
    let y = at_field _ _ _ c.args.stop (to_z-of_z c.ranges.c) c.write_field.ensures in
    wrote_then c.args.buf.now c.args.at (number_field c.args.a 9) (number_field c.args.b 9 ++ number_field c.args.c c.args.stop) w
    (wrote_then _ _ (number_field c.args.b 9) (number_field c.args.c c.args.stop) x y)
