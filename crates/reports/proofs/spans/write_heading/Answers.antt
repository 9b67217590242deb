-- `reports::spans::write_heading` says each of the three by its line. Assumes nothing.
use mathlib.Core.Path.{ap, ◌∙◌}
use native.Mathlib.Omega.{arith}
use Rattle.std.specs.Prelude.{Some}
use Rattle.text.specs.Words.{counted}
use Rattle.text.proofs.Showing.{counted_short}
use Rattle.text.proofs.Writing.{wrote_as}
use Rattle.reports.specs.Words.{refused, rows}
use Rattle.reports.proofs.Report.{none_found, refusal_found, rows_found}
use Rattle.reports.proofs.spans.write_heading.Goals as goal

pub returns-in_default : goal.returns-in_default
returns-in_default c = wrote_as c.args.out.now c.args.at (none_found c.in_default.is) c.write_bad.ensures

pub write_counted-requires : goal.write_counted-requires
write_counted-requires c = omega (arith, c.requires, counted_short rows c.in-Ok.found.count (record { fits = omega arith }))

pub returns-in-Ok : goal.returns-in-Ok
returns-in-Ok c = wrote_as c.args.out.now c.args.at (rows_found (c.in-Some.is ∙ ap Some c.in-Ok.is)) c.write_counted.ensures

pub write_counted-requires-in-Err : goal.write_counted-requires-in-Err
write_counted-requires-in-Err c = omega (arith, c.requires, counted_short refused c.number.result (record { fits = omega arith }))

pub returns-in-Err : goal.returns-in-Err
returns-in-Err c =
    let number = ap (counted refused) c.number.ensures in
    wrote_as c.args.out.now c.args.at (number ∙ refusal_found (c.in-Some.is ∙ ap Some c.in-Err.is)) c.write_counted-in-Err.ensures
