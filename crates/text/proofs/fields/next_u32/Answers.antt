-- `text::fields::next_u32` reads the field where there is one. Assumes nothing.
use mathlib.Core.Path.{◌∙◌}
use Rattle.text.specs.Read.{read_u32}
use Rattle.text.specs.Fields.{next_u32}
use Rattle.text.proofs.Numbers.{next_none, next_some, u32_past}
use Rattle.text.proofs.fields.next_u32.Goals as goal

pub returns-in_err-field : goal.returns-in_err-field
returns-in_err-field c = c.from_residual.ensures ∙ u32_past c.args.line.now c.args.at c.in_err-field.ensures

pub returns-in_err-read_u32 : goal.returns-in_err-read_u32
unfolding next_u32
returns-in_err-read_u32 c =
    c.from_residual-in_err-read_u32.ensures ∙ next_none read_u32 c.args.line.now c.args.at c.in_ok-field.ensures.1 c.in_err-read_u32.ensures

pub returns : goal.returns
unfolding next_u32
returns c = next_some read_u32 c.args.line.now c.args.at c.in_ok-field.ensures.1 c.in_ok-field.ensures.2 c.in_ok-read_u32.ensures
