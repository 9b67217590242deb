-- What the questions on a line are answered, and the tests that refuse them (01, "Numbers an operation may answer").
use Rattle.std.specs.Prelude.{not, ◌&&◌, [], ◌∷◌, ◌++◌, ℕ, ltb, pos, Result, Ok, Err}
use Rattle.refusals.specs.First.{Tests}
use Rattle.refusals.specs.Answer.{if_done}
use Rattle.refusals.specs.Refusal.{number}
use Rattle.refusals.specs.declared.Refusal.{Refusal}
use Rattle.geometry.specs.declared.Point.{Point}
use Rattle.geometry.specs.Bound.{in_bounds}
use Rattle.line.specs.declared.Length.{Length}
use Rattle.line.specs.Line.{major}

-- "Other questions on a line: 5": a line end has a coordinate out of bounds
unfoldable pub end_tests : Point → Point → Tests
end_tests s e = (5, not (in_bounds s && in_bounds e)) ∷ []

-- "A point of a line: 5, 7": then a step past the last
unfoldable pub step_tests : Point → Point → ℕ → Tests
step_tests s e k = end_tests s e ++ ((7, ltb (major s e) k) ∷ [])

-- ---- the answers
abbrev pub length_answer : ℕ → ℕ → Length
length_answer r n = record { number = r; points = if_done r n 0 }

-- a point beside its number
pub record Step : Type 0 where
  pub number : ℕ
  pub point : Point

abbrev pub step_answer : ℕ → Point → Step
step_answer r p = record { number = r; point = if_done r p (pos 0, pos 0) }

-- what the library answers, by its number
abbrev pub as_length : Result ℕ Refusal → Length
as_length (Ok n) = record { number = 0; points = n }
as_length (Err r) = record { number = number r; points = 0 }

abbrev pub as_step : Result Point Refusal → Step
as_step (Ok p) = record { number = 0; point = p }
as_step (Err r) = record { number = number r; point = (pos 0, pos 0) }
