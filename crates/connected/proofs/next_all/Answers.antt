-- `connected::next_all` hands out the place that the walker stands at, or where a minor move is due its mirror image, and makes the move. Assumes nothing.
use mathlib.Core.Path.{◌≡◌, sym, ◌∙◌}
use mathlib.Core.Bool.{true}
use Prim.Native.Nat.{ℕ, ◌+◌, ◌≤◌}
use native.Mathlib.Omega.{arith}
use lib.IntN.{ℤ, ◌-ℤ◌}
use mir.Syntax.{w32}
use mir.Val.{to_z, of_z}
use Rattle.whole.proofs.Machine.{Has, minus, fits, back}
use Rattle.geometry.specs.declared.Point.{Point}
use Rattle.line.specs.declared.Walker.{Walker}
use Rattle.line.specs.Line.{major, minor}
use Rattle.line.specs.Walk.{standing, Stands, is_due}
use Rattle.line.proofs.Walk.{x_read, y_read, xmajor_read, ymajor_read, standing_x, standing_y}
use Rattle.connected.specs.Connected.{last_index}
use Rattle.connected.specs.Walk.{NextAt}
use Rattle.connected.proofs.Made.{made_normal, made_normal_is, made_some, made_extra, made_mirrored, made_extra_is}
use Rattle.connected.proofs.Walk.{next_made, next_within, after_minor, after_major, moving, walking, back_x, back_y}
use Rattle.connected.proofs.next_all.Goals as goal
use Rattle.connected.proofs.next_all.Goals.{After-minor_move-moved}

pub is_due-requires : goal.is_due-requires
is_due-requires c = moving c.requires

pub minor_move-moved-requires : goal.minor_move-moved-requires
minor_move-moved-requires c = moving c.requires

abbrev read : ℤ → ℤ
read z = to_z w32 (of_z w32 z)

-- where the walker stands
here : {s e : Point} {i : ℕ} {w : Walker} (at : NextAt s e i w) → i ≤ last_index s e
    → ◌≡◌ {A = Point} (read w.x, read w.y) (standing s e at.k at.here.m)
here {s} {e} at l =
    let st = at.here.stands in
    let h : at.k ≤ major s e + 1 = omega (arith, next_within at l) in
    λ t. (((x_read st h).is ∙ standing_x st) t, ((y_read st h).is ∙ standing_y st) t)

-- after the minor move that is due
module _ (c : After-minor_move-moved) where
  module _ {s e : Point} {i : ℕ} (at : NextAt s e i c.args.w) where
    due : is_due (major s e) (minor s e) at.k at.here.m ≡ true
    due = sym (c.is_due.ensures s e at.k at.here.m at.here.stands) ∙ c.if-is_due.true

    moved : Stands s e at.k (at.here.m + 1) c.minor_move-moved.result
    moved = c.minor_move-moved.ensures s e at.k at.here.m at.here.stands due

    -- one major move back from there, as the code works it out
    module _ (l : i ≤ last_index s e) where
      X : Has w32 (read (read c.minor_move-moved.result.x) -ℤ read c.minor_move-moved.result.course.xmajor) (c.minor_move-moved.result.x -ℤ c.minor_move-moved.result.course.xmajor)
          655363
      X = minus (back (x_read moved (omega (arith, next_within at l)))) (xmajor_read moved.course) tt

      Y : Has w32 (read (read c.minor_move-moved.result.y) -ℤ read c.minor_move-moved.result.course.ymajor) (c.minor_move-moved.result.y -ℤ c.minor_move-moved.result.course.ymajor)
          655363
      Y = minus (back (y_read moved (omega (arith, next_within at l)))) (ymajor_read moved.course) tt

pub mirrors-requires : goal.mirrors-requires
mirrors-requires c =
    let h = c.requires in
    record { s = h.s; e = h.e; here = (moved (goal.at.mirrors-requires c).After-minor_move-moved h.here).course }

pub overflow_sub-result : goal.overflow_sub-result
overflow_sub-result c =
    let h = c.requires in
    fits (X (goal.at.overflow_sub-result c).After-minor_move-moved h.here h.more)

pub overflow_sub-result-then-mirrors : goal.overflow_sub-result-then-mirrors
overflow_sub-result-then-mirrors c =
    let h = c.requires in
    fits (Y (goal.at.overflow_sub-result-then-mirrors c).After-minor_move-moved h.here h.more)

pub returns-then-mirrors : goal.returns-then-mirrors
returns-then-mirrors c =
    λ s e i l at.
    let some = made_some s e i at.k at.here.m l at.sum (next_made at) (due (goal.at.returns-then-mirrors c).After-minor_move-moved at) in
    record {
      point = (λ t. (((back (X (goal.at.returns-then-mirrors c).After-minor_move-moved at l)).is ∙ back_x (moved (goal.at.returns-then-mirrors c).After-minor_move-moved at) some) t, ((back (Y (goal.at.returns-then-mirrors c).After-minor_move-moved at l)).is ∙ back_y (moved (goal.at.returns-then-mirrors c).After-minor_move-moved at) some) t))
          ∙ made_mirrored s e i at.k at.here.m l at.sum (next_made at) (due (goal.at.returns-then-mirrors c).After-minor_move-moved at) (sym (c.mirrors.ensures s e (moved (goal.at.returns-then-mirrors c).After-minor_move-moved at).course) ∙ c.if-mirrors.true);
      extra = made_extra_is s e i at.k at.here.m l at.sum (next_made at) (due (goal.at.returns-then-mirrors c).After-minor_move-moved at);
      walker = after_minor at (moved (goal.at.returns-then-mirrors c).After-minor_move-moved at);
    }

pub returns-then-is_due : goal.returns-then-is_due
returns-then-is_due c =
    λ s e i l at.
    record {
      point = here at l
          ∙ made_extra s e i at.k at.here.m l at.sum (next_made at) (due (goal.at.returns-then-is_due c).After-minor_move-moved at) (sym (c.mirrors.ensures s e (moved (goal.at.returns-then-is_due c).After-minor_move-moved at).course) ∙ c.if-mirrors.false);
      extra = made_extra_is s e i at.k at.here.m l at.sum (next_made at) (due (goal.at.returns-then-is_due c).After-minor_move-moved at);
      walker = after_minor at (moved (goal.at.returns-then-is_due c).After-minor_move-moved at);
    }

pub major_move-requires : goal.major_move-requires
major_move-requires c =
    let h = c.requires in
    walking h (sym (c.is_due.ensures h.s h.e h.here.k h.here.here.m h.here.here.stands) ∙ c.if-is_due.false)

pub returns : goal.returns
returns c =
    λ s e i l at.
    let none = sym (c.is_due.ensures s e at.k at.here.m at.here.stands) ∙ c.if-is_due.false in
    record {
      point = here at l ∙ made_normal s e i at.k at.here.m l at.sum (next_made at) none;
      extra = made_normal_is s e i at.k at.here.m l at.sum (next_made at) none;
      walker = after_major at none (c.major_move.ensures s e at.k at.here.m at.here.stands);
    }
