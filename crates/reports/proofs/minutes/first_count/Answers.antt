-- `reports::minutes::first_count` makes the tests of `first_count`. Assumes nothing.
use Rattle.std.proofs.lemmas.Result.{err_from_is_err_and}
use Rattle.reports.specs.Minutes.{tally}
use Rattle.reports.proofs.Counting.{refused_as}
use Rattle.reports.proofs.minutes.first_count.Goals as goal

pub returns-in_err-accept : goal.returns-in_err-accept
returns-in_err-accept c =
    let p = err_from_is_err_and c.from_residual.result c.from_residual.ensures.1 in
    rw (p.1, p.2, c.in-Some.is) (refused_as c.in-Some.t (tally 0 0) c.in_err-accept.field-0.0 c.in_err-accept.ensures.number)
