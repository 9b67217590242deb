-- `lights::lit_run` has counted the ones of the blocks before those that are left: they are few, so that the sum fits. Assumes nothing.
use mathlib.Core.Path.{ap, ◌∙◌}
use native.Mathlib.Omega.{arith}
use lib.Count.{ones}
use Rattle.std.specs.List.{sum_by}
use Rattle.std.proofs.lemmas.List.Sums.{sum_by-append}
use Rattle.lights.proofs.Ones.{ones_few}
use Rattle.lights.proofs.lit_run.Goals as goal

pub overflow_add-sum : goal.overflow_add-sum
overflow_add-sum c =
    let parts = ap (sum_by ones) c.in-Some.ensures.steps.1.0 ∙ sum_by-append ones c.in-Some.block.now _ in
    omega (arith, parts, ones_few c.args.bytes.now (λ i. (c.type_inv.bytes i).fits))
