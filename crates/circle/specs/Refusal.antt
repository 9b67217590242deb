-- Refusals 5 and 6 of 01's "Numbers an operation may answer", for a circle.
use Rattle.std.specs.Prelude.{not, ◌||◌, [], ◌∷◌, ℕ, pos, ◌+ℤ◌, ◌≤ℤ◌}
use Rattle.std.specs.Int.Signed.{lt_z}
use Rattle.refusals.specs.First.{Tests}
use Rattle.geometry.specs.declared.Point.{Point}
use Rattle.geometry.specs.Bound.{Bounded, in_bounds}

-- "on a circle: 5, 6": the top-left has a coordinate out of bounds; "left + diameter or top + diameter is above 131,072"
unfoldable pub circle_tests : Point → ℕ → Tests
circle_tests c d = (5, not (in_bounds c)) ∷ (6, lt_z (pos 131072) (c.0 +ℤ pos d) || lt_z (pos 131072) (c.1 +ℤ pos d)) ∷ []

-- an accepted circle, as a statement
pub record Fits (c : Point) (d : ℕ) : Type 0 where
  pub corner : Bounded c
  pub right : (c.0 +ℤ pos d) ≤ℤ pos 131072
  pub bottom : (c.1 +ℤ pos d) ≤ℤ pos 131072
