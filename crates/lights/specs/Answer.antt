-- 02, T-02: when the lit pixels of a frame are counted, and what the count answers.
use Rattle.std.specs.Prelude.{Bool, not, [], ◌∷◌, ◌++◌, ℕ, eqb, Result, Ok, Err}
use Rattle.refusals.specs.Answer.{if_done}
use Rattle.refusals.specs.First.{Tests}
use Rattle.refusals.specs.Refusal.{number}
use Rattle.refusals.specs.declared.Refusal.{Refusal}
use Rattle.frames.specs.declared.Frame.{Frame}
use Rattle.frames.specs.Description.{frame_tests}
use Rattle.lights.specs.declared.Lights.{Lights}

-- 10: "another depth"
abbrev pub not_one_bit : Frame → Bool
not_one_bit f = not (eqb f.depth 1)

-- a frame over len bytes: "1 to 3, then 10 for another depth", and 14 behind 2 (02, T-07)
unfoldable pub lit_tests : Frame → ℕ → Tests
lit_tests f len = frame_tests f len ++ ((10, not_one_bit f) ∷ [])

-- the answer by its number
abbrev pub lights : ℕ → ℕ → Lights
lights n k = record { number = n; count = if_done n k 0 }

-- what the library answers, by its number
abbrev pub as_lights : Result ℕ Refusal → Lights
as_lights (Ok k) = record { number = 0; count = k }
as_lights (Err r) = record { number = number r; count = 0 }
