-- `reports::Tally::take_line` makes the tests of `take_line`. Assumes nothing.
use mathlib.Core.Path.{sym, ap, ap₂, ◌∙◌}
use Rattle.reports.specs.declared.Tally.{Tally}
use Rattle.reports.specs.declared.Tally.TheVariants.{Begun}
use Rattle.reports.specs.Minutes.{take_line, with_wedge}
use Rattle.reports.proofs.Tally.take_line.Goals as goal

pub returns-in-Begun : goal.returns-in-Begun
unfolding take_line
returns-in-Begun c =
    ap (Begun c.in-Begun.wedge) c.with_line.ensures ∙ sym (ap (λ (t : Tally). take_line t c.args.line.now) c.in-Begun.is)

pub returns-in-Fresh : goal.returns-in-Fresh
unfolding take_line
returns-in-Fresh c =
    let line = c.args.line.now in
    ap₂ Begun c.unwrap_or.ensures c.first_count.ensures
    ∙ ap (with_wedge line) c.read_corners-first.ensures
    ∙ sym (ap (λ (t : Tally). take_line t line) c.in-Fresh.is)
