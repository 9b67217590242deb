-- `reports::minutes::write_trouble` says each of the three by its line. Assumes nothing.
use mathlib.Core.Path.{sym, ap, ◌∙◌}
use native.Mathlib.Omega.{arith}
use Rattle.text.specs.Words.{counted}
use Rattle.text.proofs.Showing.{counted_short}
use Rattle.text.proofs.Writing.{wrote_as}
use Rattle.reports.specs.Words.{refused, bad_tab}
use Rattle.reports.specs.Minutes.{trouble_line}
use Rattle.reports.proofs.Counting.{pair_short}
use Rattle.reports.proofs.minutes.write_trouble.Goals as goal

pub write_counted-requires : goal.write_counted-requires
write_counted-requires c = omega (arith, c.requires, counted_short refused c.number.result (record { fits = omega arith }))

pub returns-in-Refused : goal.returns-in-Refused
unfolding trouble_line
returns-in-Refused c =
    let g = c.args in
    let w = wrote_as g.out.now g.at (ap (counted refused) c.number.ensures ∙ sym (ap trouble_line c.in-Refused.is)) c.write_counted.ensures in
    (w.0, w.1, omega (arith, c.write_counted.ensures.0, counted_short refused c.number.result (record { fits = omega arith })))

pub returns-in-TooLong : goal.returns-in-TooLong
unfolding trouble_line
returns-in-TooLong c =
    let g = c.args in
    let w = wrote_as g.out.now g.at (sym (ap trouble_line c.in-TooLong.is)) c.write_bytes.ensures in
    (w.0, w.1, omega (arith, c.write_bytes.ensures.0))

pub write_pair-requires : goal.write_pair-requires
write_pair-requires c =
    let k = c.in-Bad in
    omega (arith, c.requires, pair_short bad_tab k.line k.field (record { fits = omega arith }) (record { fits = omega arith }))

pub returns-in-Bad : goal.returns-in-Bad
unfolding trouble_line
returns-in-Bad c =
    let g = c.args in
    let k = c.in-Bad in
    let w = wrote_as g.out.now g.at (sym (ap trouble_line k.is)) c.write_pair.ensures in
    (w.0, w.1, omega (arith, c.write_pair.ensures.0, pair_short bad_tab k.line k.field (record { fits = omega arith }) (record { fits = omega arith })))
