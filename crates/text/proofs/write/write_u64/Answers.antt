-- `text::write::write_u64` writes as many of the last digits as the number has. Assumes nothing.
use mathlib.Core.Path.{sym, ap, ◌∙◌}
use Prim.Native.Nat.{ℕ, ◌+◌}
use lib.Seq.{sets}
use Rattle.text.specs.Show.{last_digits}
use Rattle.text.proofs.Showing.{shown_last}
use Rattle.text.proofs.write.write_u64.Goals as goal

pub returns : goal.returns
returns c =
    let a = c.args in
    let count = c.digit_count-count.ensures in (
      ap (λ (k : ℕ). a.at + k) count,
      c.put_digits.ensures ∙ ap (sets a.buf.now a.at) (ap (λ (k : ℕ). last_digits k a.v) count ∙ sym (shown_last a.v)),
    )
