-- `clips::inner_steps` puts the moves along both axes together. Assumes nothing.
use native.Mathlib.Omega.{arith}
use Rattle.line.proofs.Lengths.{narrow, major_size}
use Rattle.clips.proofs.Steps.{inner_steps}
use Rattle.clips.proofs.inner_steps.Goals as goal

pub common_steps-requires : goal.common_steps-requires
common_steps-requires c =
    omega (arith, c.axes_of-axes.ensures, major_size c.requires.1.0 c.requires.1.1, narrow c.args.start c.args.end)

pub returns : goal.returns
returns c = inner_steps c.axes_of-axes.ensures c.common_steps.ensures
