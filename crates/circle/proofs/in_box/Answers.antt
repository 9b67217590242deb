-- `circle::in_box` asks both ranges of the box in 64 bits, where left + d and top + d fit for every d. Assumes nothing.
use native.Mathlib.Omega.{arith}
use mir.Syntax.{w32}
use mir.Val.{SFits}
use borrow.Author.Rules.{rules}
use Rattle.std.proofs.lemmas.Grind.{common_steps}
use Rattle.whole.proofs.Compared.{range_is}
use Rattle.whole.proofs.Machine.{back, wide}
use Rattle.circle.proofs.Worked.{end}
use Rattle.circle.proofs.in_box.Goals as goal

pub returns-then-contains : goal.returns-then-contains
returns-then-contains c =
    let left : SFits w32 c.args.topleft.0 = search rules in
    let x : SFits w32 c.args.p.0 = search rules in
    let top : SFits w32 c.args.topleft.1 = search rules in
    let y : SFits w32 c.args.p.1 = search rules in
    grind (arith, common_steps, range_is (back (wide left)) (back (end left c.ranges.diameter)) (back (wide x)), range_is (back (wide top)) (back (end top c.ranges.diameter)) (back (wide y)))

pub returns-else-contains : goal.returns-else-contains
returns-else-contains c =
    let left : SFits w32 c.args.topleft.0 = search rules in
    let x : SFits w32 c.args.p.0 = search rules in
    grind (arith, common_steps, range_is (back (wide left)) (back (end left c.ranges.diameter)) (back (wide x)))
