-- `clips::line_steps` asks for the steps along the major axis. Assumes nothing.
use mathlib.Core.Path.{sym, ◌∙◌}
use mathlib.Core.Bool.{true, false}
use Rattle.line.specs.Line.{wide, high}
use Rattle.clips.proofs.Steps.{held_read, line_steps}
use Rattle.clips.proofs.line_steps.Goals as goal

pub returns-then-is_steep : goal.returns-then-is_steep
unfolding high
returns-then-is_steep c =
    line_steps c.args.window c.args.start c.args.end true (sym c.is_steep.ensures ∙ c.if-is_steep.true)
    (held_read c.requires.1.0.y c.requires.1.1.y c.axis_steps.ensures)

pub returns-else-is_steep : goal.returns-else-is_steep
unfolding wide
returns-else-is_steep c =
    line_steps c.args.window c.args.start c.args.end false (sym c.is_steep.ensures ∙ c.if-is_steep.false)
    (held_read c.requires.1.0.x c.requires.1.1.x c.axis_steps-else-is_steep.ensures)
