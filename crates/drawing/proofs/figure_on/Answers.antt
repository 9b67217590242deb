-- `drawing::figure_on` makes the figure's call. Assumes nothing.
use mathlib.Core.Path.{◌≡◌, sym, ap, ◌∙◌}
use mathlib.Core.List.{List}
use Prim.Native.Nat.{ℕ}
use Rattle.frames.specs.declared.Canvas.{Canvas}
use Rattle.frames.specs.declared.Drawn.{Drawn}
use Rattle.frames.specs.Canvas.{on_canvas}
use Rattle.drawing.specs.declared.Figure.{Figure}
use Rattle.drawing.specs.Drawing.{figure_drawing}
use Rattle.drawing.proofs.figure_on.Goals as goal

-- what an arm makes of its figure
made : (c : Canvas) (colour : ℕ) (b : List ℕ) (g h : Figure) {o : Drawn × List ℕ} → g ≡ h → o ≡ on_canvas c (figure_drawing h colour) b → o ≡ on_canvas c (figure_drawing g colour) b
made c colour b g h e p = p ∙ ap (λ (g : Figure). on_canvas c (figure_drawing g colour) b) (sym e)

pub returns-in-Fill : goal.returns-in-Fill
returns-in-Fill c = search made

pub returns-in-Pixel : goal.returns-in-Pixel
returns-in-Pixel c = search made

pub returns-in-Line : goal.returns-in-Line
returns-in-Line c = search made

pub returns-in-Connected : goal.returns-in-Connected
returns-in-Connected c = search made

pub returns-in-Triangle : goal.returns-in-Triangle
returns-in-Triangle c = search made

pub returns-in-Outline : goal.returns-in-Outline
returns-in-Outline c = search made

pub returns-in-Circle : goal.returns-in-Circle
returns-in-Circle c = search made
