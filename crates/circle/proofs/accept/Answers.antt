-- `circle::accept` asks the tests in their order, the second in 64 bits, where left + d and top + d fit for every d. Assumes nothing.
use mathlib.Core.Path.{◌≡◌, sym}
use lib.IntN.{pos, ◌+ℤ◌}
use mir.Syntax.{w32, w64}
use mir.Val.{SFits, to_z, of_z}
use borrow.Author.Rules.{sfits_of}
use Rattle.whole.proofs.Machine.{back}
use Rattle.circle.proofs.Worked.{local, end}
use Rattle.circle.specs.Refusal.{circle_tests}
use Rattle.circle.proofs.Refusals.{is_accepted}
use Rattle.circle.proofs.accept.Goals as goal
use Rattle.circle.proofs.accept.Goals.{After-struct_told-1, After-struct_told-2-1}

pub returns-then-not-in_bounds-clause-number : goal.returns-then-not-in_bounds-clause-number
unfolding circle_tests
returns-then-not-in_bounds-clause-number c = simp (← c.in_bounds.ensures, c.if-not-in_bounds.true-raw)

left : (c : After-struct_told-1) → SFits w32 c.args.topleft.0
left c = sfits_of c.struct_told-1.given.0.1

top : (c : After-struct_told-2-1) → SFits w32 c.args.topleft.1
top c = sfits_of c.struct_told-2-1.given.1.0.1

-- the two sums, as the test reads them
module _ (c : After-struct_told-2-1) where
  right : to_z w64 (of_z w64 (local c.args.topleft.0 +ℤ to_z w64 c.args.diameter)) ≡ c.args.topleft.0 +ℤ pos c.args.diameter
  right = (back (end (left (goal.at.After-struct_told-2-1 c).After-struct_told-1) c.ranges.diameter)).is

  bottom : to_z w64 (of_z w64 (local c.args.topleft.1 +ℤ to_z w64 c.args.diameter)) ≡ c.args.topleft.1 +ℤ pos c.args.diameter
  bottom = (back (end (top c) c.ranges.diameter)).is

pub returns-then-left-side-clause-number : goal.returns-then-left-side-clause-number
unfolding circle_tests
returns-then-left-side-clause-number c =
    simp (← c.in_bounds.ensures, c.if-not-in_bounds.false-raw, simp (right (goal.at.returns-then-left-side-clause-number c).After-struct_told-2-1, bottom (goal.at.returns-then-left-side-clause-number c).After-struct_told-2-1) at c.if-left-side.true)

pub returns-clause-number : goal.returns-clause-number
unfolding circle_tests
returns-clause-number c =
    simp (← c.in_bounds.ensures, c.if-not-in_bounds.false-raw, simp (right (goal.at.returns-clause-number c).After-struct_told-2-1, bottom (goal.at.returns-clause-number c).After-struct_told-2-1) at c.if-left-side.false)

pub returns-clause-accepted : goal.returns-clause-accepted
returns-clause-accepted c = is_accepted _ _ (sym (returns-clause-number c))
