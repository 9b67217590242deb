-- The table of known connected lines under one claim, and that the plain line leaks where the connected one does not. Assumes nothing.
use mathlib.Core.Path.{◌≡◌, refl}
use mathlib.Core.Bool.{Bool, true, false}
use mathlib.Core.List.{List, [], ◌∷◌, map}
use Rattle.whole.specs.Listed.{up_from}
use Rattle.geometry.specs.declared.Point.{Point}
use Rattle.line.specs.Line.{wide, high, major, minor, moves, x_moves, y_moves, point_at, has_point}
use Rattle.connected.specs.Connected.{index_of, connected_points, step_of, is_extra, extra_at, connected_at, has_connected}
use Rattle.connected.specs.Known.{Case, at, table}

abbrev asked : Case → List (Bool × Point)
asked c = up_from (λ i. (is_extra c.start c.end i, connected_at c.start c.end i)) 0 (connected_points c.start c.end)

abbrev answered : Case → List (Bool × Point)
answered c = c.points

pub known : map asked table ≡ map answered table
unfolding moves wide high major minor x_moves y_moves point_at index_of step_of is_extra extra_at connected_at
known = refl

-- (0,0) and (1,1), which are points of the line between them and diagonal neighbours, and the two pixels that touch both: (0,1) and (1,0)
abbrev four : List Point
four = at 0 0 ∷ at 1 1 ∷ at 0 1 ∷ at 1 0 ∷ []

-- the plain line leaks: neither is a point of it
pub line_leaks : map (has_point (at 0 0) (at 1 1)) four ≡ true ∷ true ∷ false ∷ false ∷ []
unfolding moves wide high major minor x_moves y_moves point_at has_point
line_leaks = refl

-- the connected line does not
pub connected_holds : map (has_connected (at 0 0) (at 1 1)) four ≡ true ∷ true ∷ true ∷ false ∷ []
unfolding moves wide high major minor x_moves y_moves point_at index_of step_of is_extra extra_at connected_at has_connected
connected_holds = refl
