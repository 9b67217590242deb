-- What a call that draws answers and leaves: one value, for every call.
use Rattle.std.specs.Prelude.{Bool, List, [], ◌∷◌, ◌++◌, ℕ, ℤ, length}
use Rattle.refusals.specs.First.{Tests, first}
use Rattle.refusals.specs.Answer.{if_done}
use Rattle.geometry.specs.declared.Point.{Point}
use Rattle.layout.specs.Figure.{single, everywhere}
use Rattle.layout.specs.Count.{marked}
use Rattle.layout.specs.Layout.{Layout}
use Rattle.frames.specs.declared.Frame.{Frame}
use Rattle.frames.specs.declared.Drawn.{Drawn}
use Rattle.frames.specs.declared.Placed.{Placed}
use Rattle.frames.specs.Answer.{drawn, was_inside}
use Rattle.frames.specs.Description.{raster, no_colour, frame_tests, whole_window}
use Rattle.windows.specs.Window.{in_window}

-- what a call draws: its figure, its colour, and the tests of its own, which come behind those of its frame and its colour
pub record Drawing : Type 0 where
  pub figure : ℤ → ℤ → Bool
  pub colour : ℕ
  pub own : Tests

-- setting a pixel; filling the frame
abbrev pub pixel_drawing : Point → ℕ → Drawing
pixel_drawing p colour = record { figure = single p.0 p.1; colour = colour; own = [] }

abbrev pub fill_drawing : ℕ → Drawing
fill_drawing colour = record { figure = everywhere; colour = colour; own = [] }

-- its tests where those before it are ts, whoever asks them: 4 for its colour, then its own
abbrev pub behind_those : Tests → Frame → Drawing → Tests
behind_those ts f d = ts ++ ((4, no_colour f d.colour) ∷ d.own)

-- on a frame over len bytes: "Setting a pixel, filling the frame: 1 to 4", and 14 behind 2
abbrev pub call_tests : Frame → ℕ → Drawing → Tests
call_tests f len d = behind_those (frame_tests f len) f d

-- the answer, and the bytes, by a number: with a refusal those before it, else every pixel of the frame that the figure contains gets the colour, and is counted
abbrev pub made_of : ℕ → Layout → (ℤ → ℤ → Bool) → ℕ → List ℕ → Drawn × List ℕ
made_of n l figure colour b = let m = marked l figure colour b in (drawn n m.0, if_done n m.1 b)

unfoldable pub outcome : Frame → Drawing → List ℕ → Drawn × List ℕ
outcome f d b = made_of (first (call_tests f (length b) d)) (raster f) d.figure d.colour b

-- of setting a pixel: whether the frame has it, in the place of a count
unfoldable pub pixel_outcome : Frame → Point → ℕ → List ℕ → Placed × List ℕ
pixel_outcome f p colour b =
    let d = pixel_drawing p colour in
    (was_inside (first (call_tests f (length b) d)) (in_window (whole_window f) p.0 p.1), (outcome f d b).1)
