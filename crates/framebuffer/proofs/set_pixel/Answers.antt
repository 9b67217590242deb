-- `framebuffer::set_pixel` hands each of the seven depths on, with what it knows of the place; any other is refused. Assumes nothing.
use mathlib.Core.Path.{◌≡◌}
use mathlib.Core.Bool.{false}
use native.Mathlib.Omega.{arith}
use lib.ListN.{length}
use borrow.Author.Tests.{ne_eqb}
use Rattle.refusals.specs.declared.Refusal.TheVariants.{BadDepth}
use Rattle.layout.specs.Packed.{good_depth}
use Rattle.frames.proofs.Refusals.{no_depth_lem}
use Rattle.frames.proofs.Calls.{refused_pixel}
use Rattle.framebuffer.proofs.set_pixel.Goals as goal

-- none of the seven
pub returns-in_default : goal.returns-in_default
returns-in_default c =
    let a = c.args in
    let d = a.frame.depth in
    let bad : good_depth d ≡ false =
    simp (
      ne_eqb d 1 (λ e. omega arith),
      ne_eqb d 2 (λ e. omega arith),
      ne_eqb d 4 (λ e. omega arith),
      ne_eqb d 8 (λ e. omega arith),
      ne_eqb d 16 (λ e. omega arith),
      ne_eqb d 24 (λ e. omega arith),
      ne_eqb d 32 (λ e. omega arith),
    ) in
    refused_pixel a.frame a.p a.colour a.buf.now BadDepth (no_depth_lem a.frame (length a.buf.now) bad)
