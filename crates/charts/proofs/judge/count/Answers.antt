-- `charts::judge::count` counts a line a turn. Assumes nothing.
use mathlib.Core.Path.{sym, ap, subst, ◌∙◌}
use Rattle.text.specs.Fields.{lines}
use Rattle.text.specs.Lines.{each}
use Rattle.reports.specs.declared.Tally.{Tally}
use Rattle.reports.specs.Minutes.{Few, count_of, take_line}
use Rattle.reports.proofs.Counting.{take_few, minutes_is}
use Rattle.charts.proofs.judge.count.Goals as goal

pub loop-line-preserved : goal.loop-line-preserved
loop-line-preserved c =
    let l = c.loop-line in
    let took = c.take_line-tally.ensures in (
      subst (λ (t : Tally). Few (count_of t)) (sym took) (take_few l.tally _ l.invariant.0),
      ap (λ (t : Tally). each take_line t (lines c.next.new.self.0.now)) took ∙ sym (ap (each take_line l.tally) c.in-Some.ensures.steps) ∙ l.invariant.1,
    )

pub returns : goal.returns
returns c =
    let l = c.loop-line in
    c.count.ensures ∙ ap count_of (sym (ap (each take_line l.tally) c.in-None.ensures.steps.0) ∙ l.invariant.1) ∙ minutes_is c.args.input.now
