-- `text::parts::keep` moves as many bytes as there are, or as may be kept. Assumes nothing.
use mathlib.Core.Path.{ap, ◌∙◌}
use Prim.Native.Nat.{ℕ}
use native.Mathlib.Omega.{arith}
use lib.ListN.{take, drop}
use lib.Seq.{sets}
use Rattle.text.proofs.Writing.{kept_is, kept_count, moved_down}
use Rattle.text.proofs.parts.keep.Goals as goal

pub returns : goal.returns
returns c =
    let a = c.args in
    let h = c.requires.1 in (
      c.min-count.ensures ∙ kept_count a.buf.now a.from a.end a.most h,
      c.copy_within.ensures.after ∙ moved_down a.buf.now a.from c.min-count.result (omega (arith, c.min-count.ensures))
          ∙ ap (sets a.buf.now 0) (ap (λ (k : ℕ). take k (drop a.from a.buf.now)) c.min-count.ensures ∙ kept_is a.buf.now a.from a.end a.most h),
    )
