-- What `spans` says of a line (01, the end of "Known small answers").
use Rattle.std.specs.Prelude.{◌≡◌, Bool, cond, List, [], ◌++◌, ℕ, zero, suc, ◌+◌, ◌-◌, ◌≤◌, min, eqb, ℤ, pos, ◌+ℤ◌, length, take, drop, Option, Result}
use Rattle.std.specs.Option.{is_some, option_map_or}
use Rattle.refusals.specs.declared.Refusal.{Refusal}
use Rattle.geometry.specs.declared.Span.{Span}
use Rattle.geometry.specs.Answer.{span}
use Rattle.triangle.specs.declared.RowRange.{RowRange}
use Rattle.triangle.specs.declared.RowRun.{RowRun}
use Rattle.triangle.specs.Answer.{rows_answer, as_rows}
use Rattle.triangle.specs.Row.{row_span, first_row, row_count}
use Rattle.text.specs.Show.{triple}
use Rattle.text.specs.Words.{bad_line, counted}
use Rattle.readers.specs.declared.figures.Corners.{Corners}
use Rattle.readers.specs.Figures.{corners_or_zero}
use Rattle.reports.specs.declared.Part.{Part}
use Rattle.reports.specs.Words.{refused, rows}
use Rattle.reports.specs.Corners.{first_corners, corners_refusal}

-- the rows of the triangle; none where the line is another
abbrev pub all_rows : Corners → RowRange
all_rows t = rows_answer (corners_refusal t) (first_row t.a t.b t.c) (row_count t.a t.b t.c)

-- what was asked for and found, by its number
abbrev pub found : Option (Result RowRun Refusal) → RowRange
found f = option_map_or as_rows f (rows_answer 0 (pos 0) 0)

unfoldable pub rows_of : Option Corners → RowRange
rows_of v = option_map_or all_rows v (rows_answer 0 (pos 0) 0)

-- the first line: `bad line`, or `refused` and the number, or `rows` and how many
unfoldable pub heading : Bool → RowRange → List ℕ
heading ok r = cond ok (cond (eqb r.number 0) (counted rows r.count) (counted refused r.number)) bad_line

-- a row's line: the row, its first column, one past the last
unfoldable pub row_of : Corners → ℤ → Span
row_of t y = span (corners_refusal t) (row_span t.a t.b t.c y).0 (row_span t.a t.b t.c y).1

abbrev pub row_line : Corners → ℤ → List ℕ
row_line t y = triple y (row_of t y).start (row_of t y).end 10

-- the lines of so many rows from y on
abbrev pub row_lines : Corners → ℤ → ℕ → List ℕ
row_lines t y zero = []
row_lines t y (suc n) = row_line t y ++ row_lines t (y +ℤ pos 1) n

-- all that is said of six coordinates, and of the first line of an input
abbrev pub report : Option Corners → List ℕ
report v = heading (is_some v) (rows_of v) ++ row_lines (corners_or_zero v) (rows_of v).first (rows_of v).count

abbrev pub spans : List ℕ → List ℕ
spans input = report (first_corners input)

-- ---- the same in parts: the first line, and then the lines of at most 1,024 rows at once
abbrev pub first_part : Option Corners → Part
first_part v = record { end = length (heading (is_some v) (rows_of v)); first = (rows_of v).first; left = (rows_of v).count }

-- what follows a part
abbrev pub part_text : Option Corners → Part → List ℕ
part_text v p = row_lines (corners_or_zero v) p.first (min p.left 1024)

abbrev pub next_part : Option Corners → Part → Part
next_part v p = record { end = length (part_text v p); first = p.first +ℤ pos (min p.left 1024); left = p.left - min p.left 1024 }

-- so many parts behind one, one after the other
abbrev pub parts : Option Corners → ℕ → Part → List ℕ
parts v zero p = []
parts v (suc n) p = part_text v p ++ parts v n (next_part v p)

-- after so many bytes of the report the first `end` of a buffer are those that follow
pub record Next (v : Option Corners) (told end : ℕ) (out : List ℕ) : Type 0 where
  pub room : end ≤ length out
  pub within : told + end ≤ length (report v)
  pub same : take end out ≡ take end (drop told (report v))
