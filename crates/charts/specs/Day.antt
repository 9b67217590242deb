-- What is drawn of an input, as a list of calls: the ground, the wedge, the margins over what lies below 0, the axes, and a disc for each sample, in the order
-- of the lines. Its colour is asked of the numbers as they came, and not of the picture.
use Rattle.std.specs.Prelude.{Bool, cond, ◌&&◌, not, List, [], ◌∷◌, ◌++◌, ℕ, pos, ◌-ℤ◌, Option}
use Rattle.std.specs.Option.{option_map_or}
use Rattle.std.specs.Int.Signed.{lt_z}
use Rattle.geometry.specs.declared.Point.{Point}
use Rattle.frames.specs.declared.Frame.{Frame}
use Rattle.frames.specs.Drawing.{Drawing, fill_drawing, outcome}
use Rattle.drawing.specs.Drawing.{line_drawing, triangle_drawing, circle_drawing}
use Rattle.text.specs.Fields.{lines}
use Rattle.readers.specs.declared.figures.Corners.{Corners}
use Rattle.readers.specs.Figures.{read_point}
use Rattle.reports.specs.Minutes.{Count, wedge, behind_first, is_inside, counting, minutes}
use Rattle.charts.specs.declared.Extent.{Extent}
use Rattle.charts.specs.Scale.{extent}
use Rattle.charts.specs.Picture.{picture, ground, filling, ink, inside, outside, spot}

-- ---- what calls leave of a frame's bytes, one after the other
abbrev pub leaves : Frame → List Drawing → List ℕ → List ℕ
leaves f [] b = b
leaves f (d ∷ ds) b = leaves f ds (outcome f d b).1

-- ---- the calls
-- a rectangle from one corner to another, as two triangles
abbrev pub box : Point → Point → ℕ → List Drawing
box p q colour = triangle_drawing p (q.0, p.1) q colour ∷ triangle_drawing p (p.0, q.1) q colour ∷ []

abbrev pub wedge_drawing : Extent → Corners → Drawing
wedge_drawing e t = triangle_drawing (spot e t.a) (spot e t.b) (spot e t.c) filling

-- what lies below 0 is off the picture
abbrev pub margins : List Drawing
margins = box (pos 0, pos 0) (pos 23, pos 359) ground ++ box (pos 0, pos 336) (pos 639, pos 359) ground

abbrev pub axes : List Drawing
axes = line_drawing (pos 24, pos 335) (pos 624, pos 335) ink ∷ line_drawing (pos 24, pos 335) (pos 24, pos 15) ink ∷ []

unfoldable pub under : Extent → Corners → List Drawing
under e t = fill_drawing ground ∷ wedge_drawing e t ∷ (margins ++ axes)

-- a sample: a disc of three pixels about its place, if that is on the picture
abbrev pub is_shown : Point → Bool
is_shown p = not (lt_z p.0 (pos 0)) && not (lt_z p.1 (pos 0))

abbrev pub disc_corner : Extent → Point → Point
disc_corner e p = ((spot e p).0 -ℤ pos 1, (spot e p).1 -ℤ pos 1)

abbrev pub disc_colour : Corners → Point → ℕ
disc_colour t p = cond (is_inside t p) inside outside

abbrev pub disc_at : Extent → Corners → Point → List Drawing
disc_at e t p = cond (is_shown p) (circle_drawing (disc_corner e p) 3 (disc_colour t p) ∷ []) []

unfoldable pub disc : Extent → Corners → Option Point → List Drawing
disc e t p = option_map_or (disc_at e t) p []

abbrev pub discs : Extent → Corners → List (List ℕ) → List Drawing
discs e t [] = []
discs e t (l ∷ ls) = disc e t (read_point l) ++ discs e t ls

-- ---- the day
abbrev pub day_over : Extent → Corners → List ℕ → List Drawing
day_over e t s = under e t ++ discs e t (lines (behind_first s))

unfoldable pub day : List ℕ → List Drawing
day s = day_over (extent s) (wedge s) s

-- what is answered, and left of the bytes: what `minutes` counts, and the day, if there is nothing wrong with it
unfoldable pub charted : List ℕ → List ℕ → Count × List ℕ
charted s b = (minutes s, cond (counting (minutes s)) (leaves picture (day s) b) b)
