-- `packing::pattern` multiplies the colour by a byte that has a one at the foot of each pixel. Assumes nothing.
use mathlib.Core.Path.{◌∙◌}
use native.Mathlib.Omega.{arith}
use Rattle.packing.proofs.Masks.{pattern_1, pattern_2, pattern_4, pattern_8}
use Rattle.packing.proofs.pattern.Goals as goal
use Rattle.packing.proofs.pattern.Goals.{in-1, in-2, in-4, in_default}

pub returns : goal.returns
returns c =
    let a = c.args in
    let r = c.requires in
    elim c.match-depth.branch [
      | in-1 w ↦ w.byte-is ∙ pattern_1 a.depth a.colour w.in-1.is r.2
      | in-2 w ↦ w.byte-is ∙ pattern_2 a.depth a.colour w.in-2.is r.2
      | in-4 w ↦ w.byte-is ∙ pattern_4 a.depth a.colour w.in-4.is r.2
      | in_default w ↦ w.byte-is ∙ pattern_8 a.depth r.0 r.1 (λ e. omega arith) (λ e. omega arith) (λ e. omega arith) a.colour r.2
    ]
