-- A call that draws, handed on. Assumes nothing.
use mathlib.Core.Path.{◌≡◌, ◌∙◌}
use mathlib.Core.List.{List}
use Prim.Native.Nat.{ℕ}
use lib.IntN.{ℤ}
use mir.Syntax.{w32}
use mir.Val.{SFits, to_z, of_z}
use Rattle.frames.specs.declared.Frame.{Frame}
use Rattle.frames.specs.declared.Drawn.{Drawn}
use Rattle.frames.specs.declared.Placed.{Placed}
use Rattle.frames.specs.Drawing.{Drawing, outcome, pixel_outcome}
use Rattle.geometry.specs.declared.Point.{Point}
use Rattle.beamacorn.proofs.Places.{two_places, three_places}

-- what is said of the frame and the drawing that are handed on is said of those that were given
pub handed_on : {f f' : Frame} {d d' : Drawing} {r : Drawn} {a : List ℕ} (b : List ℕ)
    → f ≡ f' → d ≡ d' → ◌≡◌ {A = Drawn × List ℕ} (r, a) (outcome f d b) → ◌≡◌ {A = Drawn × List ℕ} (r, a) (outcome f' d' b)
handed_on b f d said = said ∙ (λ i. outcome (f i) (d i) b)

-- of a pixel set, too
pub handed_on_pixel : {f f' : Frame} {p p' : Point} {r : Placed} {a : List ℕ} (colour : ℕ) (b : List ℕ) → f ≡ f' → p ≡ p'
    → ◌≡◌ {A = Placed × List ℕ} (r, a) (pixel_outcome f p colour b) → ◌≡◌ {A = Placed × List ℕ} (r, a) (pixel_outcome f' p' colour b)
handed_on_pixel colour b f p said = said ∙ (λ i. pixel_outcome (f i) (p i) colour b)

-- a drawing of two ends or three corners, whose coordinates are put into points
pub handed_on_two : (D : Point → Point → ℕ → Drawing) (colour : ℕ) {f f' : Frame} {x1 y1 x2 y2 : ℤ} {r : Drawn} {a : List ℕ} (b : List ℕ)
    → f ≡ f' → SFits w32 x1 → SFits w32 y1 → SFits w32 x2 → SFits w32 y2
    → ◌≡◌ {A = Drawn × List ℕ} (r, a) (outcome f (D (to_z w32 (of_z w32 x1), to_z w32 (of_z w32 y1)) (to_z w32 (of_z w32 x2), to_z w32 (of_z w32 y2)) colour) b)
    → ◌≡◌ {A = Drawn × List ℕ} (r, a) (outcome f' (D (x1, y1) (x2, y2) colour) b)
handed_on_two D colour b f h1 k1 h2 k2 said = handed_on b f (two_places (λ s e. D s e colour) h1 k1 h2 k2) said

pub handed_on_three : (D : Point → Point → Point → ℕ → Drawing) (colour : ℕ) {f f' : Frame} {x1 y1 x2 y2 x3 y3 : ℤ} {r : Drawn} {a : List ℕ} (b : List ℕ)
    → f ≡ f' → SFits w32 x1 → SFits w32 y1 → SFits w32 x2 → SFits w32 y2 → SFits w32 x3 → SFits w32 y3
    → ◌≡◌ {A = Drawn × List ℕ} (r, a)
    (outcome f (D (to_z w32 (of_z w32 x1), to_z w32 (of_z w32 y1)) (to_z w32 (of_z w32 x2), to_z w32 (of_z w32 y2)) (to_z w32 (of_z w32 x3), to_z w32 (of_z w32 y3)) colour) b)
    → ◌≡◌ {A = Drawn × List ℕ} (r, a) (outcome f' (D (x1, y1) (x2, y2) (x3, y3) colour) b)
handed_on_three D colour b f h1 k1 h2 k2 h3 k3 said = handed_on b f (three_places (λ v1 v2 v3. D v1 v2 v3 colour) h1 k1 h2 k2 h3 k3) said
