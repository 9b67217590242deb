-- `text::fields::field_count` counts the tabs, and one field more. Assumes nothing.
use mathlib.Core.Path.{ap, ◌∙◌}
use Prim.Native.Nat.{ℕ, ◌+◌}
use lib.Dec.{eqb}
use borrow.Author.Tests.{tests}
use Rattle.std.proofs.Common.{rules}
use Rattle.std.proofs.lemmas.Iterator.{YieldsList-from_slice}
use Rattle.std.proofs.lemmas.Iterator.Consumers.{YieldsList-from_filter, count_from_yields_List}
use Rattle.text.proofs.Amiss.{tabs_and_one}
use Rattle.text.proofs.fields.field_count.Goals as goal

pub returns : goal.returns
returns c =
    ap (λ (n : ℕ). n + 1)
    (count_from_yields_List _ c.count.result c.count.ensures.ran
    (YieldsList-from_filter _ (λ b. eqb b 9) (YieldsList-from_slice c.args.line.now cc) c.filter.ensures.closure (λ x r q k. search (rules, tests))))
    ∙ tabs_and_one c.args.line.now
