-- `text::write::put_digits` stores what `putDigits` stores, one digit a turn. Assumes nothing.
use mathlib.Core.Path.{◌≡◌}
use lib.ListN.{length}
use Rattle.text.proofs.Writing.{put_digits}
use Rattle.text.proofs.write.put_digits.Given as goal

abbrev pub invariant-loop-i : goal.invariant-loop-i
invariant-loop-i l = (length l.buf ≡ length l.initial.buf) × (put_digits l.at l.i l.rest l.buf ≡ put_digits l.at l.count l.v l.initial.buf)
