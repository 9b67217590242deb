-- The edges of an outline that are drawn already, so that a pixel of two edges counts once (02, T-02: "distinct frame pixels").
use Rattle.std.specs.Prelude.{Bool, not, ◌&&◌, ◌||◌, ℤ}
use Rattle.geometry.specs.Bound.{Bounded}
use Rattle.tracing.specs.declared.Earlier.{Earlier}
use Rattle.tracing.specs.declared.Earlier.TheVariants.{One, Two}
use Rattle.tracing.specs.Figure.{line_figure}

-- their ends are accepted
abbrev pub Ends : Earlier → Type 0
Ends (One a b) = Bounded a × Bounded b
Ends (Two a b c) = Bounded a × Bounded b × Bounded c

-- the line a to b, and of two the line b to c too
abbrev pub earlier_figure : Earlier → ℤ → ℤ → Bool
earlier_figure (One a b) x y = line_figure a b x y
earlier_figure (Two a b c) x y = line_figure a b x y || line_figure b c x y

-- what of a figure is not in an earlier one
abbrev pub new_in : (ℤ → ℤ → Bool) → (ℤ → ℤ → Bool) → ℤ → ℤ → Bool
new_in before figure x y = figure x y && not (before x y)
