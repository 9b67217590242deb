-- `spans::read_line` goes on until a line is there or no turn is to come; the turns that are left get fewer. Assumes nothing.
use mathlib.Core.Path.{◌≡◌}
use lib.ListN.{length}
use Rattle.streams.specs.State.{Within}
use Rattle.spans.proofs.read_line.Given as goal

abbrev pub invariant-loop-input : goal.invariant-loop-input
invariant-loop-input l = Within l.st × (length l.input ≡ 65536)

abbrev pub decreases-loop-input : goal.decreases-loop-input
decreases-loop-input l = l.st.turns
