-- `reports::spans::row_of` asks the triangle. Assumes nothing.
use mathlib.Core.Path.{ap, ◌∙◌}
use mir.Facts.{to_z-of_z}
use Rattle.reports.specs.Spans.{row_of}
use Rattle.reports.proofs.spans.row_of.Goals as goal

pub returns : goal.returns
unfolding row_of
returns c = c.into.ensures ∙ c.row_span.ensures ∙ ap (row_of c.args.t) (to_z-of_z c.ranges.y)
