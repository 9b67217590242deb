-- T-04's sentences on outlines. Assumes nothing.
use mathlib.Core.Path.{◌∙◌}
use Rattle.whole.proofs.Decides.{decides_yes}
use Rattle.geometry.specs.declared.Point.{Point}
use Rattle.tracing.specs.Figure.{outline_figure, sorted_figure}
use Rattle.drawing.proofs.Outline.{outline_contained}
use Rattle.mission.specs.Figures.{Arranged, OnOutline, InTriangle}
use Rattle.mission.proofs.Triangles.{arranged_sorted, outline_decides, triangle_decides}

-- "Any vertex order then gives the same outline"
pub any_order : {v1 v2 v3 u1 u2 u3 : Point} → Arranged v1 v2 v3 u1 u2 u3 → (p : Point) → OnOutline v1 v2 v3 p → OnOutline u1 u2 u3 p
unfolding outline_figure
any_order {v1} {v2} {v3} {u1} {u2} {u3} a p h =
    (outline_decides u1 u2 u3 p).yes ((λ i. sorted_figure (arranged_sorted a i) p.0 p.1) ∙ decides_yes (outline_decides v1 v2 v3 p) h)

-- "every outline pixel is contained in the filled triangle"
pub outline_in_fill : (v1 v2 v3 p : Point) → OnOutline v1 v2 v3 p → InTriangle v1 v2 v3 p
outline_in_fill v1 v2 v3 p h = (triangle_decides v1 v2 v3 p).yes (outline_contained v1 v2 v3 p.0 p.1 (decides_yes (outline_decides v1 v2 v3 p) h))
