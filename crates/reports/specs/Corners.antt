-- The triangle of an input's first line, and the number of a triangle's refusal.
use Rattle.std.specs.Prelude.{List, ℕ, Option}
use Rattle.refusals.specs.First.{first}
use Rattle.triangle.specs.Answer.{vertex_tests}
use Rattle.text.specs.Lines.{first_line}
use Rattle.readers.specs.declared.figures.Corners.{Corners}
use Rattle.readers.specs.Figures.{read_corners}

abbrev pub first_corners : List ℕ → Option Corners
first_corners input = read_corners (first_line input)

abbrev pub corners_refusal : Corners → ℕ
corners_refusal t = first (vertex_tests t.a t.b t.c)
