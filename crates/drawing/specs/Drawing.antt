-- What the drawing calls draw: figure, colour and tests of their own (01, "Numbers an operation may answer").
use Rattle.std.specs.Prelude.{Bool, [], ℕ, ℤ}
use Rattle.refusals.specs.First.{Tests}
use Rattle.geometry.specs.declared.Point.{Point}
use Rattle.line.specs.Answer.{end_tests}
use Rattle.triangle.specs.Answer.{vertex_tests}
use Rattle.circle.specs.Refusal.{circle_tests}
use Rattle.layout.specs.Figure.{single, everywhere}
use Rattle.frames.specs.Drawing.{Drawing}
use Rattle.drawing.specs.declared.Figure.{Figure}
use Rattle.drawing.specs.declared.Figure.TheVariants.{Fill, Pixel, Line, Connected, Triangle, Outline, Circle}
use Rattle.tracing.specs.Figure.{line_figure, connected_figure, outline_figure}
use Rattle.filling.specs.Figure.{triangle_figure, circle_figure}

-- "Drawing a line, a triangle, an outline: 1 to 5", and 14 behind 2 (02, T-07)
abbrev pub line_drawing : Point → Point → ℕ → Drawing
line_drawing s e colour = record { figure = line_figure s e; colour = colour; own = end_tests s e }

abbrev pub triangle_drawing : Point → Point → Point → ℕ → Drawing
triangle_drawing v1 v2 v3 colour = record { figure = triangle_figure v1 v2 v3; colour = colour; own = vertex_tests v1 v2 v3 }

abbrev pub outline_drawing : Point → Point → Point → ℕ → Drawing
outline_drawing v1 v2 v3 colour = record { figure = outline_figure v1 v2 v3; colour = colour; own = vertex_tests v1 v2 v3 }

-- "a circle: 1 to 6", and 14 behind 2
abbrev pub circle_drawing : Point → ℕ → ℕ → Drawing
circle_drawing c d colour = record { figure = circle_figure c d; colour = colour; own = circle_tests c d }

-- 02, T-05, a connected line: "Refusals as for a line"
abbrev pub connected_drawing : Point → Point → ℕ → Drawing
connected_drawing s e colour = record { figure = connected_figure s e; colour = colour; own = end_tests s e }

-- ---- any of them, `fillDrawing` and `pixelDrawing`: what it contains, its own tests, and the drawing of it
abbrev pub in_figure : Figure → ℤ → ℤ → Bool
in_figure Fill = everywhere
in_figure (Pixel p) = single p.0 p.1
in_figure (Line s e) = line_figure s e
in_figure (Connected s e) = connected_figure s e
in_figure (Triangle v1 v2 v3) = triangle_figure v1 v2 v3
in_figure (Outline v1 v2 v3) = outline_figure v1 v2 v3
in_figure (Circle c d) = circle_figure c d

abbrev pub own_tests : Figure → Tests
own_tests Fill = []
own_tests (Pixel p) = []
own_tests (Line s e) = end_tests s e
own_tests (Connected s e) = end_tests s e
own_tests (Triangle v1 v2 v3) = vertex_tests v1 v2 v3
own_tests (Outline v1 v2 v3) = vertex_tests v1 v2 v3
own_tests (Circle c d) = circle_tests c d

abbrev pub figure_drawing : Figure → ℕ → Drawing
figure_drawing g colour = record { figure = in_figure g; colour = colour; own = own_tests g }
