-- The calls of the theorem are the library's: what each public drawing call promises, as its source states it, is the number and the bytes of its
-- case. Assumes nothing.
use mathlib.Core.Path.{◌≡◌, refl, ap, ◌∙◌}
use mathlib.Core.List.{List}
use Prim.Native.Nat.{ℕ, zero, suc}
use lib.ListN.{length}
use Rattle.refusals.specs.Answer.{if_done}
use Rattle.refusals.specs.First.{first}
use Rattle.geometry.specs.declared.Point.{Point}
use Rattle.layout.specs.Layout.{painted, shown, coloured, rendered}
use Rattle.layout.proofs.Pictures.{painted_rendered}
use Rattle.frames.specs.declared.Frame.{Frame}
use Rattle.frames.specs.declared.Drawn.{Drawn}
use Rattle.frames.specs.declared.Placed.{Placed}
use Rattle.frames.specs.Description.{raster}
use Rattle.frames.specs.Drawing.{Drawing, call_tests, outcome, pixel_outcome}
use Rattle.frames.proofs.Calls.{drawable}
use Rattle.frames.proofs.Refusals.{sound}
use Rattle.netpbm.specs.Reading.{load_tests, loaded}
use Rattle.drawing.specs.declared.Figure.{Figure}
use Rattle.drawing.specs.declared.Figure.TheVariants.{Pixel}
use Rattle.drawing.specs.Drawing.{in_figure, figure_drawing}
use Rattle.picture.specs.Calls.{Call, draw, read_image, number_of, after_call}

-- what a call o on the frame f is to do: its answer's number, and the bytes afterwards
pub record Does (f : Frame) (o : Call) (before : List ℕ) (n : ℕ) (after : List ℕ) : Type 0 where
  pub number : n ≡ number_of f (length before) o
  pub bytes : after ≡ after_call f o before

-- ---- a call that draws
module _ (f : Frame) (g : Figure) (colour : ℕ) (b : List ℕ) where
  abbrev d : Drawing
  d = figure_drawing g colour

  bytes_are : (n : ℕ) → first (call_tests f (length b) d) ≡ n
      → if_done n (painted (raster f) (in_figure g) colour b) b ≡ if_done n (rendered (raster f) (coloured (in_figure g) colour (shown (raster f) b)) b) b
  bytes_are zero e = painted_rendered (raster f) (sound f (drawable f (length b) d refl e).accepted.described) (in_figure g) colour b
  bytes_are (suc n) e = refl

  draws_does : {n : ℕ} {after : List ℕ} → n ≡ first (call_tests f (length b) d) → after ≡ (outcome f d b).1 → Does f (draw g colour) b n after
  unfolding outcome
  draws_does h k = record { number = h; bytes = k ∙ bytes_are (first (call_tests f (length b) d)) refl }

  -- with a count
  pub counts_does : {r : Drawn} {after : List ℕ} → ◌≡◌ {A = Drawn × List ℕ} (r, after) (outcome f d b) → Does f (draw g colour) b r.number after
  unfolding outcome
  counts_does h = draws_does (ap (λ (p : Drawn × List ℕ). p.0.number) h) (ap (λ (p : Drawn × List ℕ). p.1) h)

-- a pixel set
pub places_does : (f : Frame) (p : Point) (colour : ℕ) (b : List ℕ) {r : Placed} {after : List ℕ} → ◌≡◌ {A = Placed × List ℕ} (r, after) (pixel_outcome f p colour b)
    → Does f (draw (Pixel p) colour) b r.number after
unfolding pixel_outcome
places_does f p colour b h =
    draws_does f (Pixel p) colour b (ap (λ (q : Placed × List ℕ). q.0.number) h) (ap (λ (q : Placed × List ℕ). q.1) h)

-- a read, which is such a change by its definition
pub loads_does : (f : Frame) (s b : List ℕ) {n : ℕ} {after : List ℕ} → ◌≡◌ {A = ℕ × List ℕ} (n, after) (loaded f s b) → Does f (read_image s) b n after
unfolding load_tests loaded
loads_does f s b h = record { number = ap (λ (p : ℕ × List ℕ). p.0) h; bytes = ap (λ (p : ℕ × List ℕ). p.1) h }
