-- What it is to lie between: between two of some columns, and between two edge points of a row. Assumes nothing.
use mathlib.Core.Bool.{Bool}
use lib.IntN.{ℤ}
use lib.Signed.{◌≤ℤ◌}
use Rattle.geometry.specs.declared.Point.{Point}
use Rattle.triangle.specs.EdgePoint.{EdgePoint}

-- x lies between two of the columns E
pub record Enclosed (E : ℤ → Type 0) (x : ℤ) : Type 0 where
  pub first : ℤ
  pub last : ℤ
  pub from : first ≤ℤ x
  pub to : x ≤ℤ last
  pub at_first : E first
  pub at_last : E last

-- p lies between two edge points of its row
abbrev pub InRow : Bool → Point → Point → Point → Point → Type 0
InRow flat p1 p2 p3 p = Enclosed (λ x. EdgePoint flat p1 p2 p3 (x, p.1)) p.0
