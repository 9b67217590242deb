-- `line::Walker::is_due` tests the error against the threshold. Assumes nothing.
use mathlib.Core.Path.{◌∙◌}
use Rattle.whole.proofs.Machine.{tests_lt}
use Rattle.line.proofs.Walk.{threshold_read, error_read, due_test}
use Rattle.line.proofs.Walker.is_due.Goals as goal

pub returns : goal.returns
returns c =
    let at = c.requires.here in
    λ s e k m st. tests_lt (threshold_read at.stands.course at.stands.start at.stands.end) (error_read at.stands at.due) ∙ due_test st
