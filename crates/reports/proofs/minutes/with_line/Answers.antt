-- `reports::minutes::with_line` makes the tests of `with_line`. Assumes nothing.
use mathlib.Core.Path.{sym, ap, ◌∙◌}
use Prim.Native.Nat.{◌+◌}
use Rattle.std.proofs.lemmas.Result.{err_from_is_err_and}
use Rattle.reports.specs.Minutes.{Count, with_line, bad_at}
use Rattle.reports.proofs.Counting.{line_good, line_bad}
use Rattle.reports.proofs.minutes.with_line.Goals as goal

pub returns-in_err-samples : goal.returns-in_err-samples
unfolding with_line
returns-in_err-samples c =
    let p = err_from_is_err_and c.from_residual.result c.from_residual.ensures.1 in
    rw (p.1, p.2) (ap (λ (k : Count). with_line c.args.t k c.args.line.now) (sym c.in_err-samples.was))

pub returns-in-Some : goal.returns-in-Some
returns-in-Some c =
    let a = c.args in
    c.with_sample.ensures ∙ line_good a.t c.in_ok-samples.samples a.line.now c.in-Some.ensures ∙ ap (λ (k : Count). with_line a.t k a.line.now) (sym c.in_ok-samples.was)

pub returns : goal.returns
returns c =
    let a = c.args in
    let k = c.in_ok-samples.samples in
    ap (bad_at (k.all + 2)) c.bad_field.ensures.0 ∙ line_bad a.t k a.line.now c.in_default.ensures ∙ ap (λ (k : Count). with_line a.t k a.line.now) (sym c.in_ok-samples.was)
