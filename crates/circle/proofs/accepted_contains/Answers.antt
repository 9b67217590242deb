-- `circle::accepted_contains` says no outside the box, where nothing is contained, and makes 01's comparison inside, where the differences
-- are below d. Assumes nothing.
use mathlib.Core.Path.{sym, ◌∙◌}
use native.Mathlib.Omega.{arith}
use Rattle.circle.proofs.Containment.{in_box_away, outside}
use Rattle.circle.proofs.Refusals.{widest}
use Rattle.circle.proofs.accepted_contains.Goals as goal

pub distance_squared-requires : goal.distance_squared-requires
distance_squared-requires c =
    let near = in_box_away c.args.topleft c.args.diameter c.args.p (sym c.in_box.ensures ∙ c.if-in_box.true) in
    let wide = widest c.requires in
    rw (c.place_2x.ensures, c.center_2x.ensures) (omega arith, omega arith)

pub returns-else-in_box : goal.returns-else-in_box
returns-else-in_box c =
    let out = sym c.in_box.ensures ∙ c.if-in_box.false in
    c.if-in_box.false ∙ sym (outside c.args.topleft c.args.diameter c.args.p out)
