-- What is proved of an edge (02, T-04): it has one figure from either end. Over ℤ, so for ends out of bounds too. Assumes nothing.
use mathlib.Core.Path.{◌≡◌, refl, sym, ap₂}
use mathlib.Core.Bool.{Bool, true, false, cond}
use lib.IntN.{ℤ}
use Rattle.whole.proofs.Decides.{decides_yes}
use Rattle.geometry.specs.declared.Point.{Point}
use Rattle.geometry.specs.Place.{before}
use Rattle.geometry.proofs.Place.{Before, before_antisym, before_decides, before_yes, before_no}
use Rattle.tracing.specs.Figure.{line_figure, edge_figure}

-- ---- an edge
-- of ends in order: the line
pub edge_line : (a b : Point) → Before a b → edge_figure a b ≡ line_figure a b
unfolding edge_figure
edge_line a b h = λ i x y. cond (decides_yes (before_decides a b) h i) (line_figure a b x y) (line_figure b a x y)

-- EITHER END FIRST
pub edge_swap : (a b : Point) → edge_figure b a ≡ edge_figure a b
unfolding edge_figure
edge_swap a b = λ i x y. by x y (before b a) (before a b) (before_yes b a) (before_no b a) (before_yes a b) (before_no a b) i
  where
    -- each before the other: they are one place
    one : (x y : ℤ) → Before a b → Before b a → line_figure b a x y ≡ line_figure a b x y
    one x y h k = let e = before_antisym a b h k in ap₂ (λ (s e : Point). line_figure s e x y) (sym e) e

    by : (x y : ℤ) (s t : Bool) → (s ≡ true → Before b a) → (s ≡ false → Before a b) → (t ≡ true → Before a b) → (t ≡ false → Before b a)
        → cond s (line_figure b a x y) (line_figure a b x y) ≡ cond t (line_figure a b x y) (line_figure b a x y)
    by x y true true f g h k = one x y (h refl) (f refl)
    by x y true false f g h k = refl
    by x y false true f g h k = refl
    by x y false false f g h k = sym (one x y (g refl) (k refl))
