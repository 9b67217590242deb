-- The bound on coordinates: refusal 5 of 01's "Numbers an operation may answer".
use Rattle.std.specs.Prelude.{Bool, ◌&&◌, ℤ, pos, negsuc, ◌≤ℤ◌}
use Rattle.std.specs.Int.Signed.{le_z}
use Rattle.geometry.specs.declared.Point.{Point}

-- -131,072 to 131,071
abbrev pub is_coord : ℤ → Bool
is_coord x = le_z (negsuc 131071) x && le_z x (pos 131071)

-- both coordinates of a vertex, a line end or a circle's top-left
abbrev pub in_bounds : Point → Bool
in_bounds p = is_coord p.0 && is_coord p.1

-- the same as statements
pub record Coord (x : ℤ) : Type 0 where
  pub low : negsuc 131071 ≤ℤ x
  pub high : x ≤ℤ pos 131071

pub record Bounded (p : Point) : Type 0 where
  pub x : Coord p.0
  pub y : Coord p.1
