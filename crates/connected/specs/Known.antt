-- Small connected lines, as a table: the ends, and what `next_all` of the Rust hands out from the first to the last normal point. A line of one point, two that have
-- no minor move, the eight directions, two diagonals, and 01's known lines 2 to 4.
use Rattle.std.specs.Prelude.{Bool, true, false, List, [], ◌∷◌, ℕ, pos}
use Rattle.geometry.specs.declared.Point.{Point}

pub record Case : Type 0 where
  pub start : Point
  pub end : Point
  pub points : List (Bool × Point)

abbrev case : Point → Point → List (Bool × Point) → Case
case s e ps = record { start = s; end = e; points = ps }

abbrev pub at : ℕ → ℕ → Point
at x y = (pos x, pos y)

abbrev normal : ℕ → ℕ → Bool × Point
normal x y = (false, at x y)

abbrev extra : ℕ → ℕ → Bool × Point
extra x y = (true, at x y)

abbrev pub table : List Case
table =
    case (at 0 0) (at 0 0) (normal 0 0 ∷ [])
    ∷ case (at 0 0) (at 2 0) (normal 0 0 ∷ normal 1 0 ∷ normal 2 0 ∷ [])
    ∷ case (at 0 2) (at 0 0) (normal 0 2 ∷ normal 0 1 ∷ normal 0 0 ∷ [])
    ∷ case (at 3 3) (at 6 4) (normal 3 3 ∷ normal 4 3 ∷ extra 4 4 ∷ normal 5 4 ∷ normal 6 4 ∷ [])
    ∷ case (at 3 3) (at 4 6) (normal 3 3 ∷ normal 3 4 ∷ extra 3 5 ∷ normal 4 5 ∷ normal 4 6 ∷ [])
    ∷ case (at 3 3) (at 2 6) (normal 3 3 ∷ normal 3 4 ∷ extra 2 4 ∷ normal 2 5 ∷ normal 2 6 ∷ [])
    ∷ case (at 3 3) (at 0 4) (normal 3 3 ∷ normal 2 3 ∷ extra 1 3 ∷ normal 1 4 ∷ normal 0 4 ∷ [])
    ∷ case (at 3 3) (at 0 2) (normal 3 3 ∷ normal 2 3 ∷ extra 2 2 ∷ normal 1 2 ∷ normal 0 2 ∷ [])
    ∷ case (at 3 3) (at 2 0) (normal 3 3 ∷ normal 3 2 ∷ extra 3 1 ∷ normal 2 1 ∷ normal 2 0 ∷ [])
    ∷ case (at 3 3) (at 4 0) (normal 3 3 ∷ normal 3 2 ∷ extra 4 2 ∷ normal 4 1 ∷ normal 4 0 ∷ [])
    ∷ case (at 3 3) (at 6 2) (normal 3 3 ∷ normal 4 3 ∷ extra 5 3 ∷ normal 5 2 ∷ normal 6 2 ∷ [])
    ∷ case (at 0 0) (at 2 2) (normal 0 0 ∷ extra 0 1 ∷ normal 1 1 ∷ extra 1 2 ∷ normal 2 2 ∷ [])
    ∷ case (at 2 0) (at 0 2) (normal 2 0 ∷ extra 1 0 ∷ normal 1 1 ∷ extra 0 1 ∷ normal 0 2 ∷ [])
    ∷ case (at 0 0) (at 2 1) (normal 0 0 ∷ normal 1 0 ∷ extra 1 1 ∷ normal 2 1 ∷ [])
    ∷ case (at 2 1) (at 0 0) (normal 2 1 ∷ normal 1 1 ∷ extra 1 0 ∷ normal 0 0 ∷ [])
    ∷ case (at 0 0) (at 5 2) (normal 0 0 ∷ normal 1 0 ∷ extra 1 1 ∷ normal 2 1 ∷ normal 3 1 ∷ extra 3 2 ∷ normal 4 2 ∷ normal 5 2 ∷ [])
    ∷ []
