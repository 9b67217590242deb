-- Coordinates that are put into a point, and those of a point that is answered. Assumes nothing.
use mathlib.Core.Path.{◌≡◌, ap, ◌∙◌}
use lib.IntN.{ℤ}
use mir.Syntax.{w32}
use mir.Val.{SFits, to_z, of_z}
use mir.Facts.{to_z-of_z}
use Rattle.geometry.specs.declared.Point.{Point}
use Rattle.line.specs.Answer as line
use Rattle.beamacorn.specs.declared.Step.{Step}
use Rattle.beamacorn.specs.Plain.{plain_step}

-- a point holds its coordinates' bits, from which they are read back
pub place : {x y : ℤ} → SFits w32 x → SFits w32 y → ◌≡◌ {A = Point} (to_z w32 (of_z w32 x), to_z w32 (of_z w32 y)) (x, y)
place h k i = (to_z-of_z h i, to_z-of_z k i)

-- what is said of the points that two or three places are put into is said of the places
pub two_places : {A : Type 0} (F : Point → Point → A) {x1 y1 x2 y2 : ℤ} → SFits w32 x1 → SFits w32 y1 → SFits w32 x2 → SFits w32 y2
    → F (to_z w32 (of_z w32 x1), to_z w32 (of_z w32 y1)) (to_z w32 (of_z w32 x2), to_z w32 (of_z w32 y2)) ≡ F (x1, y1) (x2, y2)
two_places F h1 k1 h2 k2 i = F (place h1 k1 i) (place h2 k2 i)

pub three_places : {A : Type 0} (F : Point → Point → Point → A) {x1 y1 x2 y2 x3 y3 : ℤ}
    → SFits w32 x1 → SFits w32 y1 → SFits w32 x2 → SFits w32 y2 → SFits w32 x3 → SFits w32 y3
    → F (to_z w32 (of_z w32 x1), to_z w32 (of_z w32 y1)) (to_z w32 (of_z w32 x2), to_z w32 (of_z w32 y2)) (to_z w32 (of_z w32 x3), to_z w32 (of_z w32 y3)) ≡ F (x1, y1) (x2, y2) (x3, y3)
three_places F h1 k1 h2 k2 h3 k3 i = F (place h1 k1 i) (place h2 k2 i) (place h3 k3 i)

-- a point that is answered, with its coordinates beside the number
pub point_handed_on : (F : Point → Point → line.Step) {x1 y1 x2 y2 : ℤ} {p : line.Step} {r : Step} → SFits w32 x1 → SFits w32 y1 → SFits w32 x2 → SFits w32 y2
    → p ≡ F (to_z w32 (of_z w32 x1), to_z w32 (of_z w32 y1)) (to_z w32 (of_z w32 x2), to_z w32 (of_z w32 y2)) → r ≡ plain_step p → r ≡ plain_step (F (x1, y1) (x2, y2))
point_handed_on F h1 k1 h2 k2 said plain = plain ∙ ap plain_step (said ∙ two_places F h1 k1 h2 k2)
