-- `triangle::is_solid` tests the doubled area. Assumes nothing.
use mathlib.Core.Path.{ap, ◌∙◌}
use mathlib.Core.Bool.{not}
use lib.IntN.{ℤ, pos}
use mir.Syntax.{w64}
use mir.Val.{SFits}
use borrow.Author.Rules.{rules}
use Rattle.whole.specs.Equal.{eq_z}
use Rattle.whole.proofs.Machine.{zero_test}
use Rattle.triangle.specs.Triangle.{is_flat}
use Rattle.triangle.proofs.is_solid.Goals as goal

pub returns : goal.returns
unfolding is_flat
returns c =
    let f : SFits w64 c.area_doubled.result = search rules in
    ap not (zero_test f ∙ ap (λ (z : ℤ). eq_z z (pos 0)) c.area_doubled.ensures)
