-- Laws of what calls leave: one list of calls behind another, and discs line by line. Assumes nothing.
use mathlib.Core.Path.{◌≡◌, refl, sym, ap, ap₂, ◌∙◌}
use mathlib.Core.Bool.{Bool, true, false, cond, ◌&&◌}
use mathlib.Core.List.{List, [], ◌∷◌, ◌++◌}
use Prim.Native.Nat.{ℕ}
use Rattle.frames.specs.declared.Frame.{Frame}
use Rattle.frames.specs.declared.Drawn.{Drawn}
use Rattle.frames.specs.Drawing.{Drawing, outcome}
use Rattle.drawing.specs.Drawing.{circle_drawing}
use Rattle.std.specs.Prelude.{Some, None}
use Rattle.geometry.specs.declared.Point.{Point}
use Rattle.text.specs.Lines.{each}
use Rattle.readers.specs.declared.figures.Corners.{Corners}
use Rattle.readers.specs.Figures.{read_point}
use Rattle.charts.specs.declared.Extent.{Extent}
use Rattle.charts.specs.Day.{leaves, is_shown, disc_corner, disc_colour, disc, discs}

-- what a call ensures, of the bytes alone
pub bytes_of : {r : Drawn} {b : List ℕ} {p : Drawn × List ℕ} → ◌≡◌ {A = Drawn × List ℕ} (r, b) p → b ≡ p.1
bytes_of e = ap (λ (q : Drawn × List ℕ). q.1) e

module _ (f : Frame) where
  pub leaves_append : (ds es : List Drawing) (b : List ℕ) → leaves f (ds ++ es) b ≡ leaves f es (leaves f ds b)
  leaves_append [] es b = refl
  leaves_append (d ∷ ds) es b = leaves_append ds es (outcome f d b).1

  -- a line's disc
  abbrev pub sampled : Extent → Corners → List ℕ → List ℕ → List ℕ
  sampled e t b line = leaves f (disc e t (read_point line)) b

  pub discs_each : (e : Extent) (t : Corners) (ls : List (List ℕ)) (b : List ℕ) → each (sampled e t) b ls ≡ leaves f (discs e t ls) b
  discs_each e t [] b = refl
  discs_each e t (l ∷ ls) b =
      discs_each e t ls (sampled e t b l) ∙ sym (leaves_append (disc e t (read_point l)) (discs e t ls) b)

  -- a sample's disc, where it is on the picture and where not; and a line that is no sample has none
  module _ (e : Extent) (t : Corners) (p : Point) (b : List ℕ) where
    pub shown : is_shown p ≡ true → (outcome f (circle_drawing (disc_corner e p) 3 (disc_colour t p)) b).1 ≡ leaves f (disc e t (Some p)) b
    unfolding disc
    shown h = sym (ap (λ (x : Bool). leaves f (cond x (circle_drawing (disc_corner e p) 3 (disc_colour t p) ∷ []) []) b) h)

    pub hidden : is_shown p ≡ false → b ≡ leaves f (disc e t (Some p)) b
    unfolding disc
    hidden h = sym (ap (λ (x : Bool). leaves f (cond x (circle_drawing (disc_corner e p) 3 (disc_colour t p) ∷ []) []) b) h)

  pub no_sample : (e : Extent) (t : Corners) (b : List ℕ) → b ≡ leaves f (disc e t None) b
  unfolding disc
  no_sample e t b = refl

-- ---- three tests, asked one after the other
module _ (a b c : Bool) where
  pub last_asked : a ≡ true → b ≡ true → c ≡ (a && (b && c))
  last_asked p q = sym (ap₂ (λ (x y : Bool). x && (y && c)) p q)

  pub second_fails : a ≡ true → b ≡ false → b ≡ (a && (b && c))
  second_fails p q = q ∙ sym (ap₂ (λ (x y : Bool). x && (y && c)) p q)

  pub first_fails : a ≡ false → a ≡ (a && (b && c))
  first_fails p = p ∙ sym (ap (λ (x : Bool). x && (b && c)) p)
