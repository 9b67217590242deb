-- `text::fields::read_numbers` keeps number after number; those that are left are at each turn the rest of those of the whole line. Assumes nothing.
use mathlib.Core.Path.{sym, ap, ◌∙◌}
use native.Mathlib.Omega.{arith}
use lib.ListN.{length-set}
use Rattle.text.proofs.Numbers.{none_turn, number_turn, last_turn, all_read, all_read_lem}
use Rattle.text.proofs.fields.read_numbers.Goals as goal

pub returns-in_err-number : goal.returns-in_err-number
returns-in_err-number g c =
    let line = c.args.line.now in
    let l = c.loop-number in
    c.from_residual.ensures
    ∙ ap (all_read line) (none_turn line l.number-items l.number-index l.at g.row.N c.loop-number-test.true (sym c.in_err-number.ensures) ∙ l.invariant.1)
    ∙ all_read_lem g.row.N line

pub loop-number-preserved : goal.loop-number-preserved
loop-number-preserved g c =
    let line = c.args.line.now in
    let l = c.loop-number in
    let n = c.in_ok-number in (
      simp length-set l.invariant.0,
      number_turn line l.number-items l.number-index l.at g.row.N n.field-0-1 n.field-0-0 c.loop-number-test.true (omega (arith, l.invariant.0)) (sym n.ensures)
          ∙ l.invariant.1,
    )

pub returns : goal.returns
returns g c =
    let line = c.args.line.now in
    let l = c.loop-number in
    c.then_some.ensures
    ∙ ap (all_read line) (last_turn line l.number-items l.number-index l.at g.row.N c.loop-number-test.false (omega (arith, l.invariant.0)) ∙ l.invariant.1)
    ∙ all_read_lem g.row.N line
