-- `charts::reach::of_wedge` takes the corners one after the other. Assumes nothing.
use mathlib.Core.Path.{ap, ◌∙◌}
use Rattle.charts.specs.declared.Extent.{Extent}
use Rattle.charts.specs.Scale.{with_place, of_wedge}
use Rattle.charts.proofs.reach.of_wedge.Goals as goal

pub returns : goal.returns
unfolding of_wedge
returns c =
    let t = c.args.t in
    let two = c.with_place-two.ensures ∙ ap (λ (e : Extent). with_place e t.b) c.with_place-one.ensures in
    c.with_place.ensures ∙ ap (λ (e : Extent). with_place e t.c) two
