-- `circle::distance_squared` adds the squares of two differences, each at most 2^18 from 0. Assumes nothing.
use mathlib.Core.Path.{ap, ap₂, sym, ◌∙◌}
use lib.IntN.{ℤ, pos, ◌+ℤ◌, ◌-ℤ◌}
use mir.Syntax.{w64}
use mir.Val.{to_z, of_z}
use Rattle.whole.proofs.Machine.{Has, fits, back, plus, to_nat, nat_is}
use Rattle.circle.proofs.Containment.{square_is}
use Rattle.circle.proofs.Worked.{difference, square}
use Rattle.circle.proofs.distance_squared.Goals as goal
use Rattle.circle.proofs.distance_squared.Goals.{After-struct_told-2-1, After-struct_told-4-1}

abbrev read : ℤ → ℤ → ℤ
read a b = to_z w64 (of_z w64 a) -ℤ to_z w64 (of_z w64 b)

columns : (c : After-struct_told-2-1)
    → Has w64 (read c.args.a.0 c.args.b.0)
    (c.args.a.0 -ℤ c.args.b.0) 262144
columns c =
    difference c.args.a.0 c.args.b.0 c.struct_told-1.given.0.1 c.struct_told-2-1.given.0.1 c.requires.0

rows : (c : After-struct_told-4-1)
    → Has w64
    (read c.args.a.1 c.args.b.1)
    (c.args.a.1 -ℤ c.args.b.1) 262144
rows c =
    difference c.args.a.1 c.args.b.1 c.struct_told-3-1.given.1.0.1 c.struct_told-4-1.given.1.0.1 c.requires.1

pub overflow_add-result : goal.overflow_add-result
overflow_add-result c = fits (plus (back (square (columns (goal.at.overflow_add-result c).After-struct_told-2-1))) (back (square (rows (goal.at.overflow_add-result c).After-struct_told-4-1))) tt)

pub overflow_cast-result : goal.overflow_cast-result
overflow_cast-result c = to_nat w64 (plus (back (square (columns (goal.at.overflow_cast-result c).After-struct_told-2-1))) (back (square (rows (goal.at.overflow_cast-result c).After-struct_told-4-1))) tt) tt

pub returns : goal.returns
returns c =
    ap pos (nat_is (plus (back (square (columns (goal.at.returns c).After-struct_told-2-1))) (back (square (rows (goal.at.returns c).After-struct_told-4-1))) tt))
    ∙ sym (ap₂ ◌+ℤ◌ (square_is (c.args.a.0 -ℤ c.args.b.0)) (square_is (c.args.a.1 -ℤ c.args.b.1)))
