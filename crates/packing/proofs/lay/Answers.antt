-- `packing::lay` copies the first bytes of the block. Assumes nothing.
use mathlib.Core.Path.{refl, ◌∙◌}
use native.Mathlib.Omega.{arith}
use lib.ListN.{length, take}
use Rattle.std.proofs.lemmas.List.{get_or-take, length-take-le}
use Rattle.layout.proofs.Runs.{run_is}
use Rattle.packing.proofs.lay.Goals as goal

pub returns : goal.returns
returns c =
    let n = length c.args.part.now in
    c.copy_from_slice.ensures.after
    ∙ run_is n _ c.args.part.now (take n c.args.block.now) refl (length-take-le n c.args.block.now (omega arith)) (λ j h. get_or-take n c.args.block.now j 0 h)
