-- `packing::fill_part` stores one byte throughout, blocks of pixels, or pixel after pixel. Assumes nothing.
use mathlib.Core.Path.{sym, subst, ◌∙◌}
use Prim.Native.Nat.{ℕ, ◌^◌, ◌<◌}
use native.Mathlib.Nat.{le_of_lt}
use lib.ListN.{length}
use Rattle.layout.proofs.Places.{small, depth_pos}
use Rattle.layout.proofs.Runs.{run_cong}
use Rattle.layout.proofs.Bytes.{full_one}
use Rattle.packing.proofs.Parts.{run_of_pixels}
use Rattle.packing.proofs.fill_part.Goals as goal

pub returns-then-depth-le8 : goal.returns-then-depth-le8
returns-then-depth-le8 c =
    let a = c.args in
    let d = small a.depth c.if-depth-le8.true (depth_pos a.depth c.requires.0) in
    c.set_all.ensures
    ∙ run_cong 0 (length a.part.now) _ _ a.part.now
    (λ j h. c.pattern.ensures ∙ sym (full_one a.depth a.big a.colour j d.1 (subst (λ (k : ℕ). a.colour < 2 ^ k) (sym d.0) c.requires.1)))

pub returns-then-part-parts-eq0 : goal.returns-then-part-parts-eq0
returns-then-part-parts-eq0 c =
    let a = c.args in
    c.pixels.ensures
    ∙ run_of_pixels a.depth a.big a.colour (length a.part.now) a.part.now c.requires.0 (le_of_lt c.if-depth-le8.false)
