-- `reports::minutes::write_count` says the count by its line. Assumes nothing.
use mathlib.Core.Path.{sym, ap}
use native.Mathlib.Omega.{arith}
use Rattle.text.proofs.Writing.{wrote_as}
use Rattle.reports.specs.Words.{inside}
use Rattle.reports.specs.Minutes.{count_line}
use Rattle.reports.proofs.Counting.{pair_short}
use Rattle.reports.proofs.minutes.write_count.Goals as goal

pub write_pair-requires : goal.write_pair-requires
write_pair-requires c =
    let k = c.in-Ok.samples in
    omega (arith, c.requires, pair_short inside k.inside k.all (record { fits = omega arith }) (record { fits = omega arith }))

pub returns-in-Ok : goal.returns-in-Ok
unfolding count_line
returns-in-Ok c =
    let g = c.args in
    let k = c.in-Ok.samples in
    let w = wrote_as g.out.now g.at (sym (ap count_line c.in-Ok.is)) c.write_pair.ensures in
    (w.0, w.1, omega (arith, c.write_pair.ensures.0, pair_short inside k.inside k.all (record { fits = omega arith }) (record { fits = omega arith })))

pub returns-in-Err : goal.returns-in-Err
unfolding count_line
returns-in-Err c =
    let g = c.args in
    let e = c.write_trouble.ensures in
    let w = wrote_as g.out.now g.at (sym (ap count_line c.in-Err.is)) (e.0, e.1) in
    (w.0, w.1, e.2)
