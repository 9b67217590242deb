-- `text::fields::bad_field` makes the tests of `badField`. Assumes nothing.
use mathlib.Core.Path.{sym, ◌∙◌}
use native.Mathlib.Omega.{arith}
use Rattle.text.proofs.Amiss.{amiss_long, amiss_count, amiss_field}
use Rattle.text.proofs.fields.bad_field.Goals as goal
use Rattle.text.proofs.fields.bad_field.Goals.{then-line-gt128-via-then-line-gt128, then-line-gt128-via-else-line-gt128+then-field_count-count}

pub returns-then-line-gt128 : goal.returns-then-line-gt128
returns-then-line-gt128 c =
    let a = c.args in
    elim c.then-line-gt128.branch [
      | then-line-gt128-via-then-line-gt128 w ↦ (amiss_long a.count a.line.now w.if-line-gt128.true, omega arith)
      | then-line-gt128-via-else-line-gt128+then-field_count-count w ↦
          (amiss_count a.count a.line.now w.if-line-gt128.false (λ e. w.if-field_count-count.true (w.field_count.ensures ∙ e)), omega arith)
    ]

pub returns : goal.returns
returns c =
    let a = c.args in
    let f = amiss_field a.count a.line.now c.if-line-gt128.false (sym c.field_count.ensures ∙ c.if-field_count-count.false) in
    (c.first_bad.ensures ∙ f.0, omega (arith, c.first_bad.ensures, f.1))
