-- `screens::last_screen` reads six numbers, one behind the other, and looks whether the line ends there and what the numbers are. Assumes nothing.
use mathlib.Core.Path.{refl}
use Rattle.readers.proofs.Readings.{none_read, goes_on, ends_there, none_of, some_of}
use Rattle.screens.specs.Screen.{described_by, last_screen}
use Rattle.screens.proofs.Turns.{none_before, none_more, one_more, other_order, other_length, is_described}
use Rattle.screens.proofs.last_screen.Goals as goal
use Rattle.screens.proofs.last_screen.Goals.{then-order-gt1-via-then-order-gt1, then-order-gt1-via-else-order-gt1+then-lent-gt65536}

pub returns-in_err-width : goal.returns-in_err-width
unfolding last_screen
returns-in_err-width c = let said = c.args.said.now in none_of described_by c.from_residual.ensures (none_read said refl (none_before said (none_before said (none_before said (none_before said (none_before said (c.in_err-width.ensures)))))))

pub returns-in_err-height : goal.returns-in_err-height
unfolding last_screen
returns-in_err-height c = let said = c.args.said.now in none_of described_by c.from_residual-in_err-height.ensures (none_read said refl (none_before said (none_before said (none_before said (none_before said (none_more said (c.in_ok-width.ensures) c.in_err-height.ensures))))))

pub returns-in_err-depth : goal.returns-in_err-depth
unfolding last_screen
returns-in_err-depth c = let said = c.args.said.now in none_of described_by c.from_residual-in_err-depth.ensures (none_read said refl (none_before said (none_before said (none_before said (none_more said (one_more said (c.in_ok-width.ensures) c.in_ok-height.ensures) c.in_err-depth.ensures)))))

pub returns-in_err-order : goal.returns-in_err-order
unfolding last_screen
returns-in_err-order c = let said = c.args.said.now in none_of described_by c.from_residual-in_err-order.ensures (none_read said refl (none_before said (none_before said (none_more said (one_more said (one_more said (c.in_ok-width.ensures) c.in_ok-height.ensures) c.in_ok-depth.ensures) c.in_err-order.ensures))))

pub returns-in_err-lent : goal.returns-in_err-lent
unfolding last_screen
returns-in_err-lent c = let said = c.args.said.now in none_of described_by c.from_residual-in_err-lent.ensures (none_read said refl (none_before said (none_more said (one_more said (one_more said (one_more said (c.in_ok-width.ensures) c.in_ok-height.ensures) c.in_ok-depth.ensures) c.in_ok-order.ensures) c.in_err-lent.ensures)))

pub returns-in_err-distance : goal.returns-in_err-distance
unfolding last_screen
returns-in_err-distance c = let said = c.args.said.now in none_of described_by c.from_residual-in_err-distance.ensures (none_read said refl (none_more said (one_more said (one_more said (one_more said (one_more said (c.in_ok-width.ensures) c.in_ok-height.ensures) c.in_ok-depth.ensures) c.in_ok-order.ensures) c.in_ok-lent.ensures) c.in_err-distance.ensures))

pub returns-in_err-line_end : goal.returns-in_err-line_end
unfolding last_screen
returns-in_err-line_end c = let said = c.args.said.now in none_of described_by c.from_residual-in_err-line_end.ensures (goes_on said refl (one_more said (one_more said (one_more said (one_more said (one_more said (c.in_ok-width.ensures) c.in_ok-height.ensures) c.in_ok-depth.ensures) c.in_ok-order.ensures) c.in_ok-lent.ensures) c.in_ok-distance.ensures) c.in_err-line_end.ensures)

pub returns-then-order-gt1 : goal.returns-then-order-gt1
unfolding last_screen
returns-then-order-gt1 c = let said = c.args.said.now in some_of described_by (ends_there said (one_more said (one_more said (one_more said (one_more said (one_more said (c.in_ok-width.ensures) c.in_ok-height.ensures) c.in_ok-depth.ensures) c.in_ok-order.ensures) c.in_ok-lent.ensures) c.in_ok-distance.ensures) c.in_ok-line_end.ensures refl)
    (elim c.then-order-gt1.branch [
      | then-order-gt1-via-then-order-gt1 w ↦ other_order _ w.if-order-gt1.true
      | then-order-gt1-via-else-order-gt1+then-lent-gt65536 w ↦ other_length _ w.if-order-gt1.false w.if-lent-gt65536.true
    ])

pub returns : goal.returns
unfolding last_screen
returns c = let said = c.args.said.now in some_of described_by (ends_there said (one_more said (one_more said (one_more said (one_more said (one_more said (c.in_ok-width.ensures) c.in_ok-height.ensures) c.in_ok-depth.ensures) c.in_ok-order.ensures) c.in_ok-lent.ensures) c.in_ok-distance.ensures) c.in_ok-line_end.ensures refl) (is_described _ c.if-order-gt1.false c.if-lent-gt65536.false c.new-frame.ensures)
