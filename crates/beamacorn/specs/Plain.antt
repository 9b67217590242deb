-- The plain numbers of this crate's functions, which `beamacorn_c` exports: a description's order, and the answer that holds a point.
use Rattle.std.specs.Prelude.{not, List, ℕ, eqb, length}
use Rattle.refusals.specs.First.{first}
use Rattle.geometry.specs.declared.Point.{Point}
use Rattle.line.specs.Answer as line
use Rattle.frames.specs.declared.Frame.{Frame}
use Rattle.frames.specs.declared.Drawn.{Drawn}
use Rattle.frames.specs.declared.Placed.{Placed}
use Rattle.frames.specs.declared.Read.{Read}
use Rattle.frames.specs.Answer.{read}
use Rattle.frames.specs.Description.{described, raster, read_tests, colour_at}
use Rattle.frames.specs.Drawing.{Drawing, outcome, pixel_outcome}
use Rattle.layout.specs.Count.{lit_in}
use Rattle.lights.specs.declared.Lights.{Lights}
use Rattle.lights.specs.Answer.{lit_tests, lights}
use Rattle.beamacorn.specs.declared.Step.{Step}

-- 01, "Packed frames", "little or big end first as the description says": 0 is little, anything else big
abbrev pub frame_of : ℕ → ℕ → ℕ → ℕ → ℕ → Frame
frame_of width height depth order distance = described width height depth (not (eqb order 0)) distance

-- what a call that draws on the whole of that frame answers and leaves
abbrev pub outcome_on : ℕ → ℕ → ℕ → ℕ → ℕ → Drawing → List ℕ → Drawn × List ℕ
outcome_on width height depth order distance d b = let f = frame_of width height depth order distance in outcome f d b

-- what setting a pixel of it answers and leaves
abbrev pub placed_on : ℕ → ℕ → ℕ → ℕ → ℕ → Point → ℕ → List ℕ → Placed × List ℕ
placed_on width height depth order distance p colour b = let f = frame_of width height depth order distance in pixel_outcome f p colour b

-- what counting its lit pixels answers
abbrev pub lit_on : ℕ → ℕ → ℕ → ℕ → ℕ → List ℕ → Lights
lit_on width height depth order distance b = let f = frame_of width height depth order distance in lights (first (lit_tests f (length b))) (lit_in (raster f) b)

-- what reading a pixel of it answers
abbrev pub pixel_on : ℕ → ℕ → ℕ → ℕ → ℕ → Point → List ℕ → Read
pixel_on width height depth order distance p b = let f = frame_of width height depth order distance in read (first (read_tests f (length b) p)) (colour_at f p b)

-- the point's coordinates beside its number
abbrev pub plain_step : line.Step → Step
plain_step s = record { number = s.number; x = s.point.0; y = s.point.1 }
