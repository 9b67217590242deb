-- What painters are given beside the bytes, and what they make of a figure.
use Rattle.std.specs.Prelude.{Bool, List, ℕ, ◌+◌, ℤ}
use Rattle.layout.specs.Layout.{Layout}
use Rattle.layout.specs.Count.{marked}
use Rattle.frames.specs.declared.Canvas.{Canvas}
use Rattle.painting.specs.declared.Brush.{Brush}
use Rattle.frames.specs.Description.{raster}
use Rattle.windows.specs.Window.{held_by, Within}
use Rattle.frames.specs.Judged.{Drawable}

-- a brush that may paint on a buffer of len bytes
pub record Ready (q : Brush) (len : ℕ) : Type 0 where
  pub drawable : Drawable q.frame len q.colour
  pub within : Within q.window q.frame.width q.frame.height

-- the brush for the rectangle of a canvas
abbrev pub brush_of : Canvas → ℕ → Brush
brush_of c colour = record { frame = c.frame; window = c.window; colour = colour }

-- where its frame keeps the pixels
abbrev pub ground : Brush → Layout
ground q = raster q.frame

-- what it makes of a figure, as far as its rectangle holds it: how many pixels that has, and a buffer with them in the colour
abbrev pub brushed : Brush → (ℤ → ℤ → Bool) → List ℕ → ℕ × List ℕ
brushed q figure b = marked (ground q) (held_by q.window figure) q.colour b

-- counted on top of n pixels
abbrev pub on_top : ℕ → ℕ × List ℕ → ℕ × List ℕ
on_top n p = (n + p.0, p.1)
