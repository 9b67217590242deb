-- `triangle::same_side` asks one side of the numbers, and then of their negatives. Assumes nothing.
use mathlib.Core.Path.{◌≡◌, sym, ap₂, ◌∙◌}
use mathlib.Core.Bool.{Bool, not, ◌&&◌, ◌||◌, and-or_distrib_right}
use lib.IntN.{pos, ◌+ℤ◌}
use mir.Syntax.{w64}
use Rattle.whole.specs.Equal.{eq_z}
use Rattle.whole.proofs.Machine.{Has, one, minus_of, back}
use Rattle.triangle.specs.Triangle.{none_below, none_above}
use Rattle.triangle.proofs.Sides.{none_above_lem, neg_zero}
use Rattle.triangle.proofs.same_side.Goals as goal
use Rattle.triangle.proofs.same_side.Goals.{After-one_side, After-one_side-else-one_side, Start}

module _ (s : Start) where
  A : Has w64 s.args.a s.args.a 549755813888
  A = one s.args.a s.requires.0 tt

  B : Has w64 s.args.b s.args.b 549755813888
  B = one s.args.b s.requires.1 tt

  C : Has w64 s.args.c s.args.c 549755813888
  C = one s.args.c s.requires.2 tt

  -- the sum is not 0
  abbrev some : Bool
  some = not (eq_z ((s.args.a +ℤ s.args.b) +ℤ s.args.c) (pos 0))

  abbrev below : Bool
  below = none_below s.args.a s.args.b s.args.c

  abbrev above : Bool
  above = none_above s.args.a s.args.b s.args.c

-- what the two calls say
first : (c : After-one_side) → below (goal.at.After-one_side c).Start && some (goal.at.After-one_side c).Start ≡ c.one_side.result
first c =
    let a = (back (A (goal.at.After-one_side c).Start)).is in
    let b = (back (B (goal.at.After-one_side c).Start)).is in
    let d = (back (C (goal.at.After-one_side c).Start)).is in
    sym (c.one_side.ensures ∙ (λ i. none_below (a i) (b i) (d i) && not (eq_z ((a i +ℤ b i) +ℤ d i) (pos 0))))

second : (c : After-one_side-else-one_side) → above (goal.at.After-one_side-else-one_side c).Start && some (goal.at.After-one_side-else-one_side c).Start ≡ c.one_side-else-one_side.result
second c =
    let a = (back (minus_of (back (A (goal.at.After-one_side-else-one_side c).Start)))).is in
    let b = (back (minus_of (back (B (goal.at.After-one_side-else-one_side c).Start)))).is in
    let d = (back (minus_of (back (C (goal.at.After-one_side-else-one_side c).Start)))).is in
    sym (c.one_side-else-one_side.ensures
    ∙ (λ i. none_below (a i) (b i) (d i) && not (eq_z ((a i +ℤ b i) +ℤ d i) (pos 0)))
    ∙ ap₂ (λ (t u : Bool). t && not u) (none_above_lem c.args.a c.args.b c.args.c) (neg_zero c.args.a c.args.b c.args.c))

pub returns-else-one_side : goal.returns-else-one_side
returns-else-one_side c =
    sym (and-or_distrib_right (below (goal.at.returns-else-one_side c).Start) (above (goal.at.returns-else-one_side c).Start) (some (goal.at.returns-else-one_side c).Start) ∙ ap₂ (λ (t u : Bool). t || u) (first (goal.at.returns-else-one_side c).After-one_side ∙ c.if-one_side.false) (second (goal.at.returns-else-one_side c).After-one_side-else-one_side))
