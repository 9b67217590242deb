-- `circle::center_2x` works out the two numbers of the doubled centre in 64 bits, where they fit for every diameter. Assumes nothing.
use mir.Syntax.{w32}
use mir.Val.{SFits}
use borrow.Author.Rules.{sfits_of}
use Rattle.whole.proofs.Machine.{back}
use Rattle.circle.proofs.Worked.{middle}
use Rattle.circle.proofs.center_2x.Goals as goal
use Rattle.circle.proofs.center_2x.Goals.{After-struct_told-1, After-struct_told-2-1}

left : (c : After-struct_told-1) → SFits w32 c.args.topleft.0
left c = sfits_of c.struct_told-1.given.0.1

module _ (c : After-struct_told-2-1) where
  top : SFits w32 c.args.topleft.1
  top = sfits_of c.struct_told-2-1.given.1.0.1

pub returns : goal.returns
returns c = λ i. ((back (middle (left (goal.at.returns c).After-struct_told-1) c.ranges.diameter)).is i, (back (middle (top (goal.at.returns c).After-struct_told-2-1) c.ranges.diameter)).is i)
