-- The known small answers 1 to 12 of 01, one table under one claim: the definitions compute to what 01 says. Assumes nothing.
use mathlib.Core.Path.{◌≡◌, refl}
use mathlib.Core.Bool.{true}
use Rattle.line.specs.Line.{moves, wide, high, major, minor, x_moves, y_moves, point_at, has_point}
use Rattle.geometry.specs.Place.{before, area_doubled}
use Rattle.triangle.specs.Order.{sorted}
use Rattle.triangle.specs.Row.{extended, hull, line_columns, row_span, first_row, row_count}
use Rattle.triangle.specs.Triangle.{none_below, none_above, on_edge, is_flat, is_inside, contained}
use Rattle.layout.specs.Layout.{rendered}
use Rattle.layout.specs.Packed.{row_bytes, field, parts, per, byte_of, slot_of}
use Rattle.frames.specs.Description.{packed_distance, size, description_tests, frame_tests}
use Rattle.picture.specs.Known.{table, all_hold}

pub known : all_hold table ≡ true
unfolding rendered description_tests frame_tests moves wide high major minor x_moves y_moves point_at has_point before sorted extended hull line_columns row_span first_row row_count area_doubled none_below none_above on_edge is_flat is_inside contained packed_distance row_bytes field parts per byte_of slot_of size
known = refl
