-- `minutes::run` stands within its buffer from turn to turn, and the turns that are left get fewer. Assumes nothing.
use Rattle.minutes.proofs.Turns.{Running}
use Rattle.minutes.proofs.run.Given as goal

abbrev pub invariant-loop-input : goal.invariant-loop-input
invariant-loop-input l = Running l.out l.st l.input l.tally

abbrev pub decreases-loop-input : goal.decreases-loop-input
decreases-loop-input l = l.st.turns
