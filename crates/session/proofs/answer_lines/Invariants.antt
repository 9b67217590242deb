-- `session::answer_lines` answers a line a turn; what is still to be handled is at each turn what was at the start. Assumes nothing.
use Prim.Native.Nat.{◌-◌}
use lib.ListN.{length}
use Rattle.session.proofs.Handling.{Handling}
use Rattle.session.proofs.answer_lines.Given as goal

abbrev pub invariant-loop-current : goal.invariant-loop-current
invariant-loop-current l =
    Handling l.input l.initial.memory l.initial.out l.from ((l.at, l.initial.out), (l.initial.current, (l.initial.memory, l.initial.file))) l.next ((l.filled, l.out), (l.current, (l.memory, l.file)))

abbrev pub decreases-loop-current : goal.decreases-loop-current
decreases-loop-current l = length l.input - l.next
