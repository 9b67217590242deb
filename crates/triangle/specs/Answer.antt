-- What the questions on a triangle are answered, and the test that refuses them (01, "Numbers an operation may answer").
use Rattle.std.specs.Prelude.{not, ◌&&◌, [], ◌∷◌, ℕ, ℤ, pos, Result, Ok, Err}
use Rattle.refusals.specs.First.{Tests}
use Rattle.refusals.specs.Answer.{if_done}
use Rattle.refusals.specs.Refusal.{number}
use Rattle.refusals.specs.declared.Refusal.{Refusal}
use Rattle.geometry.specs.declared.Point.{Point}
use Rattle.geometry.specs.Bound.{in_bounds}
use Rattle.triangle.specs.declared.RowRange.{RowRange}
use Rattle.triangle.specs.declared.RowRun.{RowRun}

-- "Other questions on a triangle: 5": a vertex has a coordinate out of bounds
unfoldable pub vertex_tests : Point → Point → Point → Tests
vertex_tests v1 v2 v3 = (5, not (in_bounds v1 && (in_bounds v2 && in_bounds v3))) ∷ []

abbrev pub rows_answer : ℕ → ℤ → ℕ → RowRange
rows_answer r y n = record { number = r; first = if_done r y (pos 0); count = if_done r n 0 }

-- what the library answers, by its number
abbrev pub as_rows : Result RowRun Refusal → RowRange
as_rows (Ok r) = record { number = 0; first = r.first; count = r.count }
as_rows (Err r) = record { number = number r; first = pos 0; count = 0 }
