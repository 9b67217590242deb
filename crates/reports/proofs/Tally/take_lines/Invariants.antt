-- `reports::Tally::take_lines` takes a line a turn; what is still to be handled is at each turn what was at the start. Assumes nothing.
use mathlib.Core.Path.{◌≡◌}
use Prim.Native.Nat.{◌-◌, ◌≤◌}
use lib.ListN.{length}
use Rattle.text.specs.Lines.{handled}
use Rattle.reports.specs.Minutes.{Few, count_of, take_line, always}
use Rattle.reports.proofs.Tally.take_lines.Given as goal

abbrev pub invariant-loop-tally : goal.invariant-loop-tally
invariant-loop-tally l =
    (l.next ≤ length l.input) × Few (count_of l.tally)
    × (handled always take_line l.input (length l.input) l.next l.tally ≡ handled always take_line l.input (length l.input) l.from l.initial.tally)

abbrev pub decreases-loop-tally : goal.decreases-loop-tally
decreases-loop-tally l = length l.input - l.next
