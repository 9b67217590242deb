-- `tracing::draw_edge` sets the points that the walker hands out, one a turn, from the first step that leads into the rectangle to the last: before step k those of the
-- steps below k are set, and those that no earlier edge has are counted. No step leads where one before it led. Assumes nothing.
use mathlib.Core.Path.{refl, ap, ◌∙◌}
use mathlib.Core.Bool.{Bool, not}
use Prim.Native.Nat.{◌≤◌, ◌<◌}
use native.Mathlib.Omega.{arith}
use borrow.Author.Rules.{rules}
use mir.Val.{bool_byte}
use Rattle.layout.specs.Count.{one_if}
use Rattle.layout.proofs.Counts.{one_small}
use Rattle.tracing.specs.Earlier.{earlier_figure}
use Rattle.tracing.proofs.Figures.{new_one}
use Rattle.tracing.proofs.Lines.{LineWalk, line_begun, edge_none, edge_ended, walks_set, walks_turn}
use Rattle.tracing.proofs.draw_edge.Goals as goal
use Rattle.tracing.proofs.draw_edge.Goals.{After-inner_steps-steps}

-- what is known of the line
line : (c : After-inner_steps-steps) → (let a = c.args in LineWalk a.brush a.start a.end c.inner_steps-steps.result a.buf.now)
line c = record { ready = c.requires.0; ends = c.requires.2; inner = c.inner_steps-steps.ensures }

pub returns-then-is_empty : goal.returns-then-is_empty
returns-then-is_empty c = edge_none (line (goal.at.returns-then-is_empty c).After-inner_steps-steps) (earlier_figure c.args.earlier) (search rules)

pub loop-init : goal.loop-init
loop-init c = (
  omega arith,
  record { stands = c.at-walker.ensures; set = line_begun (line (goal.at.loop-init c).After-inner_steps-steps) _ refl },
)

pub set_point-requires : goal.set_point-requires
set_point-requires c =
    walks_set (line (goal.at.set_point-requires c).After-inner_steps-steps) c.loop.invariant.1 c.step-stepped.ensures c.loop.auto.counter c.loop-test.true c.loop.auto.buf

-- a point adds one at most
one : (had : Bool) → bool_byte (not had) ≤ 1
one had = one_small (not had) (new_one had)

pub loop-preserved : goal.loop-preserved
loop-preserved c = (
  omega (arith, one c.has.result),
  walks_turn (line (goal.at.loop-preserved c).After-inner_steps-steps) c.loop.invariant.1 c.step-stepped.ensures c.loop.auto.counter c.loop-test.true
      (new_one c.has.result ∙ ap (λ (t : Bool). one_if (not t)) c.has.ensures) c.set_point.ensures refl,
)

pub returns : goal.returns
returns c =
    let L = line (goal.at.returns c).After-inner_steps-steps in
    let some : c.inner_steps-steps.result.start < c.inner_steps-steps.result.end = search rules in
    edge_ended L _ c.loop-test.false (omega (arith, L.inner.most)) c.loop.invariant.1.set
