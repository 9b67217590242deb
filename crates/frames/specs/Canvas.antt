-- What a call on a canvas answers and leaves, wherever the canvas keeps its pixels, whichever rectangle it has and whatever it was judged by.
use Rattle.std.specs.Prelude.{Bool, not, ◌&&◌, List, [], ◌∷◌, ℕ, eqb, nat_abs}
use Rattle.refusals.specs.First.{Tests, first}
use Rattle.refusals.specs.Answer.{if_done}
use Rattle.refusals.specs.Refusal.{as_number}
use Rattle.geometry.specs.declared.Point.{Point}
use Rattle.layout.specs.Layout.{Layout, shown}
use Rattle.frames.specs.declared.Canvas.{Canvas}
use Rattle.frames.specs.declared.Drawn.{Drawn}
use Rattle.frames.specs.declared.Placed.{Placed}
use Rattle.frames.specs.declared.Read.{Read}
use Rattle.frames.specs.Answer.{was_inside, read}
use Rattle.frames.specs.Description.{raster, no_colour}
use Rattle.frames.specs.Drawing.{Drawing, pixel_drawing, made_of}
use Rattle.windows.specs.Window.{in_window, held_by}

-- where it keeps its pixels
abbrev pub keeps : Canvas → Layout
keeps c = raster c.frame

-- a number, or where that is 0 the first of further tests
abbrev pub behind : ℕ → Tests → ℕ
behind n ts = if_done n (first ts) n

-- of a call that draws: the canvas's, the colour's, and those of its own
abbrev pub number_on : Canvas → ℕ → Tests → ℕ
number_on c colour own = behind (as_number c.judged) ((4, no_colour c.frame colour) ∷ own)

unfoldable pub on_canvas : Canvas → Drawing → List ℕ → Drawn × List ℕ
on_canvas c d b = made_of (number_on c d.colour d.own) (keeps c) (held_by c.window d.figure) d.colour b

-- of setting a pixel: whether the rectangle holds it, in the place of a count
unfoldable pub pixel_on : Canvas → Point → ℕ → List ℕ → Placed × List ℕ
pixel_on c p colour b = (was_inside (number_on c colour []) (in_window c.window p.0 p.1), (on_canvas c (pixel_drawing p colour) b).1)

-- of reading: 8 where the rectangle does not hold the pixel
unfoldable pub read_on : Canvas → Point → List ℕ → Read
read_on c p b = read (behind (as_number c.judged) ((8, not (in_window c.window p.0 p.1)) ∷ [])) (shown (keeps c) b (nat_abs p.0) (nat_abs p.1))

-- whether the rectangle is that of the whole frame
abbrev pub has_all : Canvas → Bool
has_all c = (eqb c.window.left 0 && eqb c.window.top 0) && (eqb c.window.right c.frame.width && eqb c.window.bottom c.frame.height)
