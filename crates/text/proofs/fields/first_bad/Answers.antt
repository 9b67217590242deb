-- `text::fields::first_bad` counts the fields in front that are numbers. Assumes nothing.
use mathlib.Core.Path.{ap, ◌∙◌}
use Prim.Native.Nat.{ℕ, ◌+◌}
use lib.Dec.{eqb}
use Rattle.std.proofs.Common.{rules}
use Rattle.std.proofs.lemmas.Iterator.Search.{YieldsList-from_take_while}
use Rattle.std.proofs.lemmas.Iterator.Splits.{YieldsList-from_slice_split}
use Rattle.std.proofs.lemmas.Iterator.Consumers.{count_from_yields_List}
use Rattle.text.specs.Fields.{first_bad}
use Rattle.text.proofs.Amiss.{parts_are, is_number, behind_numbers}
use Rattle.text.proofs.fields.first_bad.Goals as goal

pub returns : goal.returns
returns c =
    let line = c.args.line.now in
    ap (λ (n : ℕ). n + 1)
    (count_from_yields_List _ c.count.result c.count.ensures.ran
    (YieldsList-from_take_while _ is_number
    (YieldsList-from_slice_split _ (λ b. eqb b 9) line (cc) (cc) (cc) (λ x b q k. search rules)) c.take_while.ensures.closure c.take_while.ensures.done (λ x b q k. search rules)))
    ∙ behind_numbers _
    ∙ ap first_bad (parts_are line)
