-- Examples of the reports, computed: 01's own of `spans`, and inputs of `minutes` that go wrong. Assumes nothing.
use mathlib.Core.Path.{◌≡◌, refl}
use mathlib.Core.List.{List, [], ◌∷◌, ◌++◌}
use Prim.Native.Nat.{ℕ}
use Rattle.triangle.specs.Answer.{vertex_tests}
use Rattle.text.specs.Read.{read_digits, read_signed}
use Rattle.text.specs.Fields.{read_numbers, bad_field}
use Rattle.text.specs.Show.{shown}
use Rattle.line.specs.Line.{moves, wide, high, major, minor, x_moves, y_moves, point_at, has_point}
use Rattle.geometry.specs.Place.{before, area_doubled}
use Rattle.triangle.specs.Order.{sorted}
use Rattle.triangle.specs.Row.{extended, hull, line_columns, row_span, first_row, row_count}
use Rattle.triangle.specs.Triangle.{is_flat}
use Rattle.reports.specs.Spans.{rows_of, heading, row_of, spans}
use Rattle.reports.specs.Minutes.{bad_at, with_line, minutes}

-- the wedge `0 0 9 0 0 9` by tabs, LF
abbrev wedge : List ℕ
wedge = 48 ∷ 9 ∷ 48 ∷ 9 ∷ 57 ∷ 9 ∷ 48 ∷ 9 ∷ 48 ∷ 9 ∷ 57 ∷ 10 ∷ []

-- `1 1` with a space for the tab, and LF
spaces : minutes (wedge ++ (49 ∷ 32 ∷ 49 ∷ 10 ∷ [])) ≡ bad_at 2 0
unfolding minutes with_line read_numbers bad_field read_signed read_digits vertex_tests
spaces = refl

-- CR before LF
carriage : minutes (wedge ++ (49 ∷ 9 ∷ 49 ∷ 13 ∷ 10 ∷ [])) ≡ bad_at 2 2
unfolding minutes with_line read_numbers bad_field read_signed read_digits vertex_tests
carriage = refl

-- an empty line
empty : minutes (wedge ++ (10 ∷ [])) ≡ bad_at 2 0
unfolding minutes with_line read_numbers bad_field read_signed read_digits vertex_tests
empty = refl

-- a load that no 32 bits hold, 9999999999
load : minutes (wedge ++ (49 ∷ 9 ∷ 57 ∷ 57 ∷ 57 ∷ 57 ∷ 57 ∷ 57 ∷ 57 ∷ 57 ∷ 57 ∷ 57 ∷ 10 ∷ [])) ≡ bad_at 2 2
unfolding minutes with_line read_numbers bad_field read_signed read_digits vertex_tests
load = refl

-- ---- 01's own example of `spans`: the input `0 0 4 0 0 4` by tabs, and the six lines of its output
abbrev line : List ℕ
line = 48 ∷ 9 ∷ 48 ∷ 9 ∷ 52 ∷ 9 ∷ 48 ∷ 9 ∷ 48 ∷ 9 ∷ 52 ∷ 10 ∷ []

abbrev output : List ℕ
output =
    114 ∷ 111 ∷ 119 ∷ 115 ∷ 9 ∷ 53 ∷ 10
    ∷ 48 ∷ 9 ∷ 48 ∷ 9 ∷ 53 ∷ 10
    ∷ 49 ∷ 9 ∷ 48 ∷ 9 ∷ 52 ∷ 10
    ∷ 50 ∷ 9 ∷ 48 ∷ 9 ∷ 51 ∷ 10
    ∷ 51 ∷ 9 ∷ 48 ∷ 9 ∷ 50 ∷ 10
    ∷ 52 ∷ 9 ∷ 48 ∷ 9 ∷ 49 ∷ 10 ∷ []

pub own_example : spans line ≡ output
unfolding read_numbers read_signed read_digits vertex_tests rows_of heading row_of shown moves wide high major minor x_moves y_moves point_at has_point before sorted extended hull line_columns row_span first_row row_count area_doubled is_flat
own_example = refl
