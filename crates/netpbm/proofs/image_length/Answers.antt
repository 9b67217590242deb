-- `netpbm::image_length` adds the header's length to the pixels', which fits. Assumes nothing.
use mathlib.Core.Path.{sym, ap, ap₂, subst, ◌∙◌}
use Prim.Native.Nat.{ℕ, ◌+◌}
use native.Mathlib.Omega.{arith}
use Rattle.frames.specs.Judged.{Described}
use Rattle.frames.specs.Description.{size}
use Rattle.frames.proofs.Refusals.{size_fits}
use Rattle.netpbm.specs.Image.{image_length, big_first}
use Rattle.netpbm.proofs.Headers.{header_short}
use Rattle.netpbm.proofs.Transfers.{big_described}
use Rattle.netpbm.proofs.image_length.Goals as goal

pub frame_bytes-requires : goal.frame_bytes-requires
frame_bytes-requires c = subst Described (sym c.in_file.ensures) (big_described c.args.frame c.requires)

pub overflow_add-result : goal.overflow_add-result
overflow_add-result c =
    let f = c.args.frame in
    omega (arith, c.header_length.ensures, header_short f c.requires, c.frame_bytes.ensures, ap size c.in_file.ensures, size_fits (big_first f) (big_described f c.requires))

pub returns : goal.returns
unfolding image_length
returns c = ap₂ (λ (m n : ℕ). m + n) c.header_length.ensures (c.frame_bytes.ensures ∙ ap size c.in_file.ensures)
