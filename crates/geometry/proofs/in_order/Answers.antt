-- `geometry::in_order` compares as std does. Assumes nothing.
use mathlib.Core.Path.{◌∙◌}
use Rattle.geometry.proofs.Place.{in_order_is}
use Rattle.geometry.proofs.in_order.Goals as goal

pub returns : goal.returns
returns c = c.le.ensures ∙ in_order_is c.args.a c.args.b
