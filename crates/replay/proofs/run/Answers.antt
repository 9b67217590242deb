-- `replay::run` stands within its buffers from turn to turn, and the turns that are left get fewer. Assumes nothing.
use mathlib.Core.Path.{◌≡◌, sym, ◌∙◌}
use mathlib.Core.Bool.{true}
use Rattle.streams.specs.declared.State.{State}
use Rattle.streams.specs.State.{goes_on}
use Rattle.streams.proofs.Turns.{Kept, may_read, going_on}
use Rattle.replay.specs.Session.{Work, bytes, Sound, first, after_lines}
use Rattle.replay.proofs.Work.{begins, lines_keep}
use Rattle.replay.proofs.run.Goals as goal
use Rattle.replay.proofs.run.Goals.{After-answer_some-reached, In-loop-input}

pub loop-input-init : goal.loop-input-init
loop-input-init c =
    begins c.args.input.now c.args.out.now (c.args.memory.now, c.args.file.now) c.start-st.result c.first_screen-screen.result
    c.start-st.ensures c.first_screen-screen.ensures c.requires.0 c.requires.1 c.requires.2 c.requires.3

-- a turn
on : (c : In-loop-input) → goes_on c.loop-input.st ≡ true
on c = sym c.goes_on.ensures ∙ c.loop-input-test.true

-- after the lines that are there: what the program worked on before them, and what they left
module _ (c : After-answer_some-reached) where
  abbrev began : Work
  began = first c.args.out.now (c.args.memory.now, c.args.file.now)

  abbrev work : Work
  work = (c.loop-input.out, (c.loop-input.screen, (c.loop-input.memory, c.loop-input.file)))

  abbrev left : State × Work
  left = let a = c.answer_some-reached in (a.result.st, (a.new.out, (a.result.screen, (a.new.memory, a.new.file))))

  kept : Kept bytes Sound c.loop-input.st left
  kept =
      let a = c.answer_some-reached in
      let i = c.loop-input.invariant in
      lines_keep c.loop-input.input c.loop-input.st work i.stands i.sound left a.ensures.0 a.ensures.1 a.auto.out a.auto.memory a.auto.file

pub refill-st-requires : goal.refill-st-requires
refill-st-requires c =
    let l = c.loop-input in
    let d = (goal.at.refill-st-requires c).After-answer_some-reached in
    may_read bytes Sound after_lines (began d) l.st l.input (work d) l.invariant (on (goal.at.refill-st-requires c).In-loop-input) (left d)
    c.answer_some-reached.ensures.0 (kept d) c.flush.result c.flush.ensures

pub loop-input-preserved : goal.loop-input-preserved
loop-input-preserved c =
    let l = c.loop-input in
    let d = (goal.at.loop-input-preserved c).After-answer_some-reached in
    going_on bytes Sound after_lines (began d) l.st l.input (work d) l.invariant (on (goal.at.loop-input-preserved c).In-loop-input) (left d)
    c.answer_some-reached.ensures.0 (kept d) c.flush.result c.flush.ensures c.refill-st.result c.refill-st.new.input c.refill-st.ensures c.refill-st.auto.input
