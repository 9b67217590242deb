-- `text::write::digit_count` has a digit for each power of ten that is no larger. Assumes nothing.
use Rattle.text.proofs.Showing.{shown_powers}
use Rattle.text.proofs.write.digit_count.Goals as goal

pub returns : goal.returns
returns c = shown_powers c.args.v c.ilog10.result c.max.result c.max.ensures c.ilog10.ensures.power_le c.ilog10.ensures.next_power_gt
