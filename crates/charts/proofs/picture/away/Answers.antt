-- `charts::picture::away` divides as the definition does, in 64 bits. Assumes nothing.
use mathlib.Core.Path.{◌≡◌, ap, ◌∙◌}
use Prim.Native.Nat.{◌*◌, ◌/◌, min}
use native.Mathlib.Omega.{arith}
use lib.IntN.{pos}
use mir.Syntax.{w32}
use Rattle.whole.proofs.Machine.{same_bits}
use Rattle.charts.specs.Scale.{away}
use Rattle.charts.proofs.picture.away.Goals as goal

pub returns : goal.returns
unfolding away
returns c =
    let a = c.args in
    let e : c.min.result ≡ min 130000 (a.n * a.size / a.most) = omega (arith, c.min.ensures) in
    (same_bits {w = w32} {n = c.min.result} {b = 130000} (omega (arith, c.min.ensures)) tt).is ∙ ap pos e
