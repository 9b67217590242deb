-- `line::Walker::step` hands out the point that it stands at and makes the major move, and the minor move exactly if it is due then. Assumes nothing.
use mathlib.Core.Path.{sym, ◌∙◌}
use Prim.Native.Nat.{◌+◌}
use native.Mathlib.Omega.{arith}
use Rattle.line.specs.Walk.{Moving}
use Rattle.line.proofs.Walk.{x_read, y_read, stands_x, stands_y, advanced, stepped_due, stepped_not}
use Rattle.line.proofs.Walker.step.Goals as goal
use Rattle.line.proofs.Walker.step.Goals.{After-major_move-moved}

-- after the major move
moving : (c : After-major_move-moved) → Moving c.major_move-moved.result
moving c =
    let h = c.requires in
    record {
      s = h.s;
      e = h.e;
      k = h.k + 1;
      more = omega (arith, h.more);
      here = advanced h.here (c.major_move-moved.ensures h.s h.e h.k h.here.m h.here.stands);
    }

pub minor_move-requires : goal.minor_move-requires
minor_move-requires c = moving (goal.at.minor_move-requires c).After-major_move-moved

pub returns-then-is_due_next : goal.returns-then-is_due_next
returns-then-is_due_next c =
    let moved = c.major_move-moved in
    λ s e k l at. (
      λ i. (((x_read at.stands (omega arith)).is ∙ stands_x at l) i, ((y_read at.stands (omega arith)).is ∙ stands_y at l) i),
      stepped_due at
          (c.minor_move.ensures s e (k + 1) at.m (moved.ensures s e k at.m at.stands) (sym (c.is_due_next.ensures s e k at.m at.stands) ∙ c.if-is_due_next.true)),
    )

pub returns : goal.returns
returns c =
    let moved = c.major_move-moved in
    λ s e k l at. (
      λ i. (((x_read at.stands (omega arith)).is ∙ stands_x at l) i, ((y_read at.stands (omega arith)).is ∙ stands_y at l) i),
      stepped_not at (moved.ensures s e k at.m at.stands) (sym (c.is_due_next.ensures s e k at.m at.stands) ∙ c.if-is_due_next.false),
    )
