-- `reports::minutes::is_inside` asks the triangle whether it contains the sample. Assumes nothing.
use mathlib.Core.Path.{ap, ◌∙◌}
use Rattle.geometry.specs.declared.Verdict.{Verdict}
use Rattle.reports.specs.Minutes.{is_inside}
use Rattle.reports.proofs.minutes.is_inside.Goals as goal

pub returns : goal.returns
unfolding is_inside
returns c = ap (λ (r : Verdict). r.yes) (c.from.ensures ∙ c.contains.ensures)
