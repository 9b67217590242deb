-- `protocol::digits::asked` reads two numbers, one behind the other, and lends the part that they name, if the buffer has it. Assumes nothing.
use mathlib.Core.Path.{refl, ap, ◌∙◌}
use Rattle.std.specs.Option.{option_copied}
use Rattle.readers.proofs.Readings.{none_of, some_of}
use Rattle.protocol.specs.Dump.{dumped}
use Rattle.protocol.proofs.Parts.{part_lent}
use Rattle.protocol.proofs.digits.asked.Goals as goal

pub returns-in_err-from : goal.returns-in_err-from
unfolding dumped
returns-in_err-from c = ap option_copied c.from_residual.ensures ∙ none_of _ refl c.in_err-from.ensures

pub returns-in_err-count : goal.returns-in_err-count
unfolding dumped
returns-in_err-count c = ap option_copied c.from_residual-in_err-count.ensures ∙ some_of _ c.in_ok-from.ensures (none_of _ refl c.in_err-count.ensures)

pub returns : goal.returns
unfolding dumped
returns c = some_of _ c.in_ok-from.ensures (some_of _ c.in_ok-count.ensures (part_lent c.args.memory.now _ _ c.get.result c.get.ensures.lookup.0))
