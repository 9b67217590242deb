-- `line::on_line` goes by the signs, the box and the longer side. Assumes nothing.
use mathlib.Core.Path.{◌≡◌, sym, ap₂, ◌∙◌}
use lib.IntN.{pos, nat_abs}
use lib.Signed.{◌≤ℤ◌}
use mir.Syntax.{w64}
use mir.Val.{to_z, of_z}
use mir.Facts.{sfits_lit}
use Rattle.whole.proofs.Machine.{lt_false, index_is}
use Rattle.line.specs.Line.{on_line}
use Rattle.line.proofs.Closed.{on_right, on_below}
use Rattle.line.proofs.on_line.Goals as goal
use Rattle.line.proofs.on_line.Goals.{Else-y-lt0, then-w-u-via-then-w-u, then-w-u-via-else-w-u+then-h-v}

-- past the two tests neither is negative
module _ (c : Else-y-lt0) where
  right : pos 0 ≤ℤ c.args.x
  right = lt_false c.ranges.x (sfits_lit {z = pos 0} tt) c.if-x-lt0.false

  down : pos 0 ≤ℤ c.args.y
  down = lt_false c.ranges.y (sfits_lit {z = pos 0} tt) c.if-y-lt0.false

  at_naturals : on_line c.args.wide c.args.high (pos (nat_abs (to_z w64 (of_z w64 c.args.x)))) (pos (nat_abs (to_z w64 (of_z w64 c.args.y))))
      ≡ on_line c.args.wide c.args.high c.args.x c.args.y
  at_naturals = ap₂ (on_line c.args.wide c.args.high) (index_is c.ranges.x right) (index_is c.ranges.y down)

pub returns-then-w-u : goal.returns-then-w-u
returns-then-w-u c =
    let inside = at_naturals (goal.at.returns-then-w-u c).Else-y-lt0 in
    elim c.then-w-u.branch [ then-w-u-via-then-w-u w ↦ sym (sym inside ∙ on_right _ _ _ _ w.if-w-u.true) | then-w-u-via-else-w-u+then-h-v w ↦ sym (sym inside ∙ on_below _ _ _ _ w.if-h-v.true) ]
