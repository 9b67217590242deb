-- `text::write::put_digits` stores what `putDigits` stores, one digit a turn. Assumes nothing.
use mathlib.Core.Path.{sym, ◌∙◌}
use Rattle.text.proofs.Writing.{put_digits_lem, put_end}
use Rattle.text.proofs.write.put_digits.Goals as goal

pub returns : goal.returns
returns c =
    let a = c.args in
    sym (put_end _ _ _ _ c.loop-i-test.false) ∙ c.loop-i.invariant.1 ∙ put_digits_lem a.at a.count a.v a.buf.now
