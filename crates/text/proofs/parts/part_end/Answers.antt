-- `text::parts::part_end` looks in the rest of `s`. Assumes nothing.
use mathlib.Core.Path.{◌≡◌, ap, ◌∙◌}
use native.Mathlib.Omega.{arith}
use lib.ListN.{drop}
use Rattle.text.specs.Fields.{until}
use Rattle.text.proofs.Parting.{part_end_within}
use Rattle.text.proofs.Numbers.{rest_is}
use Rattle.text.proofs.parts.part_end.Goals as goal
use Rattle.text.proofs.parts.part_end.Goals.{After-find}

found : (c : After-find)
    → c.find.result ≡ until c.args.stop (drop c.args.at c.args.s.now)
found c = c.find.ensures ∙ ap (until c.args.stop) (rest_is c.args.s.now c.args.at)

pub overflow_add-result : goal.overflow_add-result
overflow_add-result c = let a = c.args in
    omega (arith, part_end_within a.stop a.s.now a.at c.requires, found (goal.at.overflow_add-result c).After-find)
