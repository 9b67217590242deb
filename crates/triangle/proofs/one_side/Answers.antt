-- `triangle::one_side` asks whether none is below 0, and then whether one is not 0: their sum is then not 0. Assumes nothing.
use mathlib.Core.Path.{◌≡◌, sym, ap, ◌∙◌}
use mathlib.Core.Bool.{Bool, not, ◌&&◌, ◌||◌}
use lib.IntN.{pos, ◌+ℤ◌}
use mir.Facts.{to_z-of_z}
use Rattle.whole.specs.Equal.{eq_z}
use Rattle.whole.proofs.Machine.{zero_test}
use Rattle.triangle.specs.Triangle.{none_below}
use Rattle.triangle.proofs.Sides.{sum_zero}
use Rattle.triangle.proofs.one_side.Goals as goal
use Rattle.triangle.proofs.one_side.Goals.{After-none_below}

-- what the call says
below : (c : After-none_below) → (let a = c.args in none_below a.a a.b a.c ≡ c.none_below.result)
below c = let f = c.ranges in sym (c.none_below.ensures ∙ (λ i. none_below (to_z-of_z f.a i) (to_z-of_z f.b i) (to_z-of_z f.c i)))

pub returns-then-none_below : goal.returns-then-none_below
returns-then-none_below c =
    let a = c.args in
    let f = c.ranges in
    let yes = below (goal.at.returns-then-none_below c).After-none_below ∙ c.if-none_below.true in
    (λ i. not (zero_test f.a i) || (not (zero_test f.b i) || not (zero_test f.c i)))
    ∙ sum_zero a.a a.b a.c yes
    ∙ sym (ap (λ (t : Bool). t && not (eq_z ((a.a +ℤ a.b) +ℤ a.c) (pos 0))) yes)
