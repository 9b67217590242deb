-- The numbers of the refusals (01, "Numbers an operation may answer"), and the number that an answer stands for: 0, done, or that of its refusal.
use Rattle.std.specs.Prelude.{ℕ, Result, Ok, Err}
use Rattle.refusals.specs.declared.Refusal.{Refusal}
use Rattle.refusals.specs.declared.Refusal.TheVariants.{BadDepth, TooLarge, ShortBuffer, BadColour, OutOfBounds, CircleTooFar, PastLastStep, OutsideFrame, ShortOutput, UnfitFrame, BadHeader, ShortFile, OtherSize, BadDistance, Other}

abbrev pub number : Refusal → ℕ
number BadDepth = 1
number TooLarge = 2
number ShortBuffer = 3
number BadColour = 4
number OutOfBounds = 5
number CircleTooFar = 6
number PastLastStep = 7
number OutsideFrame = 8
number ShortOutput = 9
number UnfitFrame = 10
number BadHeader = 11
number ShortFile = 12
number OtherSize = 13
number BadDistance = 14
-- none of 01's, but one beyond its table, of whoever judges a canvas by other tests
number (Other o) = o.number

abbrev pub as_number : {A : Type 0} → Result A Refusal → ℕ
as_number (Ok v) = 0
as_number (Err r) = number r
