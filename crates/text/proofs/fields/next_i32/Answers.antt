-- `text::fields::next_i32` reads the field where there is one. Assumes nothing.
use mathlib.Core.Path.{sym, ap, ◌∙◌}
use lib.IntN.{ℤ}
use mir.Facts.{to_z-of_z}
use Rattle.std.specs.Prelude.{Some}
use Rattle.text.specs.Read.{read_i32}
use Rattle.text.specs.Fields.{next_i32}
use Rattle.text.proofs.Reading.{i32_fits}
use Rattle.text.proofs.Numbers.{next_none, next_some, i32_past}
use Rattle.text.proofs.fields.next_i32.Goals as goal

pub returns-in_err-field : goal.returns-in_err-field
returns-in_err-field c = c.from_residual.ensures ∙ i32_past c.args.line.now c.args.at c.in_err-field.ensures

pub returns-in_err-read_i32 : goal.returns-in_err-read_i32
unfolding next_i32
returns-in_err-read_i32 c =
    c.from_residual-in_err-read_i32.ensures ∙ next_none read_i32 c.args.line.now c.args.at c.in_ok-field.ensures.1 c.in_err-read_i32.ensures

pub returns : goal.returns
unfolding next_i32
returns c =
    ap (λ (z : ℤ). Some (z, c.in_ok-field.next)) (to_z-of_z (i32_fits c.in_ok-field.field.now c.in_ok-read_i32.field-0 (sym c.in_ok-read_i32.ensures)))
    ∙ next_some read_i32 c.args.line.now c.args.at c.in_ok-field.ensures.1 c.in_ok-field.ensures.2 c.in_ok-read_i32.ensures
