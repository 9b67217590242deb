-- `clips::step_with` is past the last step for more moves than the line makes, and else the first with so many. Assumes nothing.
use mathlib.Core.Path.{sym, subst}
use Rattle.clips.proofs.Steps.{StepWith, step_past, step_first}
use Rattle.clips.proofs.step_with.Goals as goal

pub returns-then-minor-moved : goal.returns-then-minor-moved
returns-then-minor-moved c = let a = c.args in step_past a.major a.minor a.moved c.if-minor-moved.true

pub returns-else-minor-moved : goal.returns-else-minor-moved
returns-else-minor-moved c =
    let a = c.args in
    subst (StepWith a.major a.minor a.moved) (sym c.first_with.ensures) (step_first a.major a.minor a.moved c.requires.1 c.if-minor-moved.false)
