-- `replay::run` stands within its buffers from turn to turn, and the turns that are left get fewer. Assumes nothing.
use Rattle.replay.proofs.Work.{Runs}
use Rattle.replay.proofs.run.Given as goal

abbrev pub invariant-loop-input : goal.invariant-loop-input
invariant-loop-input l = Runs l.initial.out (l.initial.memory, l.initial.file) l.st l.input (l.out, (l.screen, (l.memory, l.file)))

abbrev pub decreases-loop-input : goal.decreases-loop-input
decreases-loop-input l = l.st.turns
