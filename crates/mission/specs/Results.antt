-- What a function of the library answers, read as 01 has it: done is 0, a refusal its number in the table, and "with a refusal every returned number is 0, every yes or no is no".
use Rattle.std.specs.Prelude.{Bool, false, ℕ, pos, Result, Ok, Err}
use Rattle.refusals.specs.declared.Refusal.{Refusal}
use Rattle.refusals.specs.declared.Refusal.TheVariants.{BadDepth, TooLarge, ShortBuffer, BadColour, OutOfBounds, CircleTooFar, PastLastStep, OutsideFrame, ShortOutput, UnfitFrame, BadHeader, ShortFile, OtherSize, BadDistance, Other}
use Rattle.geometry.specs.declared.Point.{Point}
use Rattle.geometry.specs.declared.Columns.{Columns}
use Rattle.geometry.specs.declared.Span.{Span}
use Rattle.triangle.specs.declared.RowRun.{RowRun}
use Rattle.triangle.specs.declared.RowRange.{RowRange}
use Rattle.line.specs.declared.Length.{Length}
use Rattle.geometry.specs.declared.Verdict.{Verdict}
use Rattle.frames.specs.declared.Size.{Size}
use Rattle.frames.specs.declared.Read.{Read}
use Rattle.frames.specs.declared.Placed.{Placed}
use Rattle.frames.specs.declared.Drawn.{Drawn}
use Rattle.lights.specs.declared.Lights.{Lights}

-- "Numbers an operation may answer"
abbrev pub number : Refusal → ℕ
number BadDepth = 1
number TooLarge = 2
number ShortBuffer = 3
number BadColour = 4
number OutOfBounds = 5
number CircleTooFar = 6
number PastLastStep = 7
number OutsideFrame = 8
number ShortOutput = 9
number UnfitFrame = 10
number BadHeader = 11
number ShortFile = 12
number OtherSize = 13
number BadDistance = 14
-- of a canvas that is judged by other tests than 01's
number (Other o) = o.number

abbrev pub as_number : {A : Type 0} → Result A Refusal → ℕ
as_number (Ok v) = 0
as_number (Err r) = number r

-- the value, or with a refusal `none`
abbrev pub value_or : {A : Type 0} → A → Result A Refusal → A
value_or none (Ok v) = v
value_or none (Err r) = none

-- ---- an answer's number with what stands beside it
abbrev pub as_length : Result ℕ Refusal → Length
as_length r = record { number = as_number r; points = value_or 0 r }

abbrev pub as_verdict : Result Bool Refusal → Verdict
as_verdict r = record { number = as_number r; yes = value_or false r }

abbrev pub as_size : Result ℕ Refusal → Size
as_size r = record { number = as_number r; bytes = value_or 0 r }

abbrev pub as_read : Result ℕ Refusal → Read
as_read r = record { number = as_number r; colour = value_or 0 r }

abbrev pub as_placed : Result Bool Refusal → Placed
as_placed r = record { number = as_number r; inside = value_or false r }

abbrev pub as_drawn : Result ℕ Refusal → Drawn
as_drawn r = record { number = as_number r; count = value_or 0 r }

abbrev pub as_lights : Result ℕ Refusal → Lights
as_lights r = record { number = as_number r; count = value_or 0 r }

abbrev pub as_span : Result Columns Refusal → Span
as_span r = let c = value_or (pos 0, pos 0) r in record { number = as_number r; start = c.0; end = c.1 }

abbrev pub as_rows : Result RowRun Refusal → RowRange
as_rows r = let c = value_or (record { first = pos 0; count = 0 }) r in record { number = as_number r; first = c.first; count = c.count }

abbrev pub point_of : Result Point Refusal → Point
point_of r = value_or (pos 0, pos 0) r
