-- `reports::spans::rows_of` asks the triangle, where there is one. Assumes nothing.
use mathlib.Core.Path.{refl}
use Rattle.reports.specs.Spans.{rows_of}
use Rattle.reports.proofs.spans.rows_of.Goals as goal

pub returns-in_err-t : goal.returns-in_err-t
unfolding rows_of
returns-in_err-t c = rw (c.from_residual.ensures, c.in_err-t.was) (refl, refl)

pub returns : goal.returns
unfolding rows_of
returns c = rw c.in_ok-t.was (refl, c.rows.ensures)
