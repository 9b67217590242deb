-- `clips::axes_of` asks for the moves along each axis, and names the major one. Assumes nothing.
use mathlib.Core.Path.{◌≡◌}
use mathlib.Core.Bool.{true, false}
use Prim.Native.Nat.{◌+◌}
use native.Mathlib.Omega.{arith}
use borrow.Author.Tests.{le-leb, lt-leb}
use Rattle.line.specs.Line.{wide, high}
use Rattle.line.proofs.Lengths.{wide_of, high_of}
use Rattle.clips.specs.Steps.{AxisSteps}
use Rattle.clips.proofs.Steps.{held_read, axes_of}
use Rattle.clips.proofs.axes_of.Goals as goal
use Rattle.clips.proofs.axes_of.Goals.{After-axis_steps-rows}

-- the moves along both axes, at the line's ends
module _ (c : After-axis_steps-rows) where
  wide_is : c.abs_diff-wide.result ≡ wide c.args.start c.args.end
  wide_is = wide_of c.requires.1.0 c.requires.1.1 c.abs_diff-wide.ensures

  high_is : c.abs_diff-high.result ≡ high c.args.start c.args.end
  high_is = high_of c.requires.1.0 c.requires.1.1 c.abs_diff-high.ensures

  columns : AxisSteps false c.args.window c.args.start c.args.end (wide c.args.start c.args.end + 1) c.axis_steps-columns.result
  unfolding wide
  columns = held_read c.requires.1.0.x c.requires.1.1.x c.axis_steps-columns.ensures

  rows : AxisSteps true c.args.window c.args.start c.args.end (high c.args.start c.args.end + 1) c.axis_steps-rows.result
  unfolding high
  rows = held_read c.requires.1.0.y c.requires.1.1.y c.axis_steps-rows.ensures

pub returns-then-wide-high : goal.returns-then-wide-high
returns-then-wide-high c =
    let a = c.args in
    let s = (goal.at.returns-then-wide-high c).After-axis_steps-rows in
    axes_of a.window a.start a.end true (le-leb (wide a.start a.end) (high a.start a.end) (omega (arith, c.if-wide-high.true, wide_is s, high_is s))) (high_is s) (wide_is s) (rows s) (columns s)

pub returns-else-wide-high : goal.returns-else-wide-high
returns-else-wide-high c =
    let a = c.args in
    let s = (goal.at.returns-else-wide-high c).After-axis_steps-rows in
    axes_of a.window a.start a.end false (lt-leb (wide a.start a.end) (high a.start a.end) (omega (arith, c.if-wide-high.false, wide_is s, high_is s))) (wide_is s) (high_is s) (columns s) (rows s)
