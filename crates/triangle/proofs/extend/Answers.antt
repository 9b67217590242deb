-- `triangle::extend` asks whether one of the two is empty, and else takes the smaller first and the larger last. Assumes nothing.
use mathlib.Core.Path.{◌≡◌}
use mathlib.Core.Bool.{false}
use native.Mathlib.Omega.{arith}
use mir.Syntax.{w32}
use mir.Val.{to_z, of_z}
use Rattle.std.proofs.lemmas.Grind.{common_steps}
use Rattle.whole.specs.Equal.{eq_z}
use Rattle.whole.proofs.Compared.{min_is, max_is}
use Rattle.geometry.specs.Extreme.{lesser, greater}
use Rattle.triangle.specs.Row.{extended}
use Rattle.triangle.proofs.extend.Goals as goal

pub returns-then-a : goal.returns-then-a
unfolding extended
returns-then-a c = grind (arith, common_steps)

pub returns-then-b : goal.returns-then-b
unfolding extended
returns-then-b c = grind (arith, common_steps)

pub returns-else-b : goal.returns-else-b
unfolding extended
returns-else-b c =
    let e : eq_z c.args.a.0 c.args.a.1 ≡ false = grind (arith, common_steps) in
    let f : eq_z c.args.b.0 c.args.b.1 ≡ false = grind (arith, common_steps) in
    let first : to_z w32 (of_z w32 c.min.result) ≡ lesser c.args.a.0 c.args.b.0 = grind (arith, common_steps, min_is) in
    let past : to_z w32 (of_z w32 c.max.result) ≡ greater c.args.a.1 c.args.b.1 = grind (arith, common_steps, max_is) in
    rw (e, f) (λ i. (first i, past i))
