-- `tracing::draw_slanting` sets the points that the walker hands out, one a turn, from the first step that leads into the rectangle to the last: before step k those of
-- the steps below k are set and counted. No step leads where one before it led. Assumes nothing.
use mathlib.Core.Path.{refl}
use Prim.Native.Nat.{◌<◌}
use native.Mathlib.Omega.{arith}
use borrow.Author.Rules.{rules}
use Rattle.tracing.proofs.Figures.{none}
use Rattle.tracing.proofs.Lines.{LineWalk, line_begun, line_none, line_ended, walks_set, walks_turn}
use Rattle.tracing.proofs.draw_slanting.Goals as goal
use Rattle.tracing.proofs.draw_slanting.Goals.{After-inner_steps-steps}

-- what is known of the line
line : (c : After-inner_steps-steps) → (let a = c.args in LineWalk a.brush a.start a.end c.inner_steps-steps.result a.buf.now)
line c = record { ready = c.requires.0; ends = c.requires.1; inner = c.inner_steps-steps.ensures }

pub returns-then-is_empty : goal.returns-then-is_empty
returns-then-is_empty c = line_none (line (goal.at.returns-then-is_empty c).After-inner_steps-steps) (search rules)

pub loop-init : goal.loop-init
loop-init c = record { stands = c.at-walker.ensures; set = line_begun (line (goal.at.loop-init c).After-inner_steps-steps) none (omega arith) }

pub set_point-requires : goal.set_point-requires
set_point-requires c =
    walks_set (line (goal.at.set_point-requires c).After-inner_steps-steps) c.loop.invariant c.step-stepped.ensures c.loop.auto.counter c.loop-test.true c.loop.auto.buf

pub loop-preserved : goal.loop-preserved
loop-preserved c =
    walks_turn (line (goal.at.loop-preserved c).After-inner_steps-steps) c.loop.invariant c.step-stepped.ensures c.loop.auto.counter c.loop-test.true refl c.set_point.ensures (omega arith)

pub returns : goal.returns
returns c =
    let L = line (goal.at.returns c).After-inner_steps-steps in
    let some : c.inner_steps-steps.result.start < c.inner_steps-steps.result.end = search rules in
    line_ended L c.loop-test.false (omega (arith, L.inner.most)) (omega arith) c.loop.invariant.set
