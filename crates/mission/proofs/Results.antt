-- The library's own reading of an answer is that of specs/Results. Assumes nothing.
use mathlib.Core.Path.{◌≡◌, refl}
use mathlib.Core.Bool.{Bool, false}
use Prim.Native.Nat.{ℕ}
use lib.IntN.{pos}
use Rattle.std.specs.Prelude.{Result, Ok, Err}
use Rattle.refusals.specs.declared.Refusal.{Refusal}
use Rattle.refusals.specs.declared.Refusal.TheVariants.{BadDepth, TooLarge, ShortBuffer, BadColour, OutOfBounds, CircleTooFar, PastLastStep, OutsideFrame, ShortOutput, UnfitFrame, BadHeader, ShortFile, OtherSize, BadDistance, Other}
use Rattle.refusals.specs.Refusal as refusals
use Rattle.geometry.specs.declared.Point.{Point}
use Rattle.geometry.specs.declared.Columns.{Columns}
use Rattle.geometry.specs.Answer as geometry
use Rattle.line.specs.Answer as line
use Rattle.triangle.specs.declared.RowRun.{RowRun}
use Rattle.triangle.specs.Answer as triangle
use Rattle.frames.specs.Answer as frames
use Rattle.lights.specs.Answer as lights
use Rattle.mission.specs.Results.{number, as_number, as_length, as_verdict, as_size, as_read, as_placed, as_drawn, as_lights, as_span, as_rows, point_of}

-- the numbers of the table
same_number : (r : Refusal) → number r ≡ refusals.number r
same_number BadDepth = refl
same_number TooLarge = refl
same_number ShortBuffer = refl
same_number BadColour = refl
same_number OutOfBounds = refl
same_number CircleTooFar = refl
same_number PastLastStep = refl
same_number OutsideFrame = refl
same_number ShortOutput = refl
same_number UnfitFrame = refl
same_number BadHeader = refl
same_number ShortFile = refl
same_number OtherSize = refl
same_number BadDistance = refl
same_number (Other o) = refl

pub done_is : {A : Type 0} (r : Result A Refusal) → as_number r ≡ refusals.as_number r
done_is (Ok v) = refl
done_is (Err r) = same_number r

pub length_is : (r : Result ℕ Refusal) → as_length r ≡ line.as_length r
length_is (Ok v) = refl
length_is (Err r) = λ i. record { number = same_number r i; points = 0 }

pub verdict_is : (r : Result Bool Refusal) → as_verdict r ≡ geometry.as_verdict r
verdict_is (Ok v) = refl
verdict_is (Err r) = λ i. record { number = same_number r i; yes = false }

pub size_is : (r : Result ℕ Refusal) → as_size r ≡ frames.as_size r
size_is (Ok v) = refl
size_is (Err r) = λ i. record { number = same_number r i; bytes = 0 }

pub read_is : (r : Result ℕ Refusal) → as_read r ≡ frames.as_read r
read_is (Ok v) = refl
read_is (Err r) = λ i. record { number = same_number r i; colour = 0 }

pub placed_is : (r : Result Bool Refusal) → as_placed r ≡ frames.as_placed r
placed_is (Ok v) = refl
placed_is (Err r) = λ i. record { number = same_number r i; inside = false }

pub drawn_is : (r : Result ℕ Refusal) → as_drawn r ≡ frames.as_drawn r
drawn_is (Ok v) = refl
drawn_is (Err r) = λ i. record { number = same_number r i; count = 0 }

pub lights_is : (r : Result ℕ Refusal) → as_lights r ≡ lights.as_lights r
lights_is (Ok v) = refl
lights_is (Err r) = λ i. record { number = same_number r i; count = 0 }

pub span_is : (r : Result Columns Refusal) → as_span r ≡ geometry.as_span r
span_is (Ok c) = refl
span_is (Err r) = λ i. record { number = same_number r i; start = pos 0; end = pos 0 }

pub rows_are : (r : Result RowRun Refusal) → as_rows r ≡ triangle.as_rows r
rows_are (Ok c) = refl
rows_are (Err r) = λ i. record { number = same_number r i; first = pos 0; count = 0 }

pub step_is : (r : Result Point Refusal) → ◌≡◌ {A = line.Step} (record { number = as_number r; point = point_of r }) (line.as_step r)
step_is (Ok p) = refl
step_is (Err r) = λ i. record { number = same_number r i; point = (pos 0, pos 0) }
