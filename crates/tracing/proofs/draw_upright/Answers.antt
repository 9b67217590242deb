-- `tracing::draw_upright` sets the points of one column, one a turn, from the first step that leads into the rectangle to the last: before step k those of the steps below k
-- are set and counted. Assumes nothing.
use mathlib.Core.Path.{◌≡◌, refl, sym, ap₂, ◌∙◌}
use Prim.Native.Nat.{ℕ, ◌≤◌}
use native.Mathlib.Omega.{arith}
use lib.IntN.{ℤ, pos, ◌+ℤ◌, ◌*ℤ◌}
use mir.Syntax.{w32}
use mir.Val.{to_z, of_z}
use borrow.Author.Rules.{rules}
use Rattle.whole.proofs.Machine.{Has, fits, back, same_bits, plus, times}
use Rattle.geometry.specs.declared.Point.{Point}
use Rattle.geometry.proofs.Bound.{coord, coord_size}
use Rattle.line.specs.Line.{toward, major, point_at}
use Rattle.line.proofs.Lengths.{toward_size}
use Rattle.tracing.proofs.Figures.{none}
use Rattle.tracing.proofs.Lines.{LineWalk, few_steps, may_set, line_begun, line_turn, line_ended, line_none}
use Rattle.tracing.proofs.Level.{Column, upright_at}
use Rattle.tracing.proofs.draw_upright.Goals as goal
use Rattle.tracing.proofs.draw_upright.Goals.{After-direction-on, In-loop-k}

-- the row of step k, as it is worked out
module _ {s e : Point} {x from on : ℤ} (it : Column s e x from on) (k : ℕ) (few : k ≤ 262144) where
  moved : Has w32 (on *ℤ to_z w32 k) (toward s.1 e.1 *ℤ pos k) 262144
  moved = times (record { is = it.way; size = toward_size s.1 e.1; room = omega arith }) (same_bits few tt) tt

  row_at : Has w32 (from +ℤ to_z w32 (of_z w32 (on *ℤ to_z w32 k))) (s.1 +ℤ toward s.1 e.1 *ℤ pos k) 393216
  row_at = plus (record { is = it.row; size = coord_size it.start.y; room = omega arith }) (back moved) tt

  -- the place that is worked out is the step's
  here : k ≤ major s e → (x, to_z w32 (of_z w32 (from +ℤ to_z w32 (of_z w32 (on *ℤ to_z w32 k))))) ≡ point_at s e k
  here walked = (λ i. (it.column i, (back row_at).is i)) ∙ sym (upright_at s e k it.upright walked)

-- what is known of the line, and of its column
module _ (c : After-direction-on) where
  line : LineWalk c.args.brush c.args.start c.args.end c.inner_steps-steps.result c.args.buf.now
  line = record { ready = c.requires.0; ends = c.requires.1; inner = c.inner_steps-steps.ensures }

  column : Column c.args.start c.args.end (to_z w32 (of_z w32 c.args.start.0)) (to_z w32 (of_z w32 c.args.start.1)) (to_z w32 (of_z w32 c.direction-on.result))
  column =
      let b = c.requires.1 in
      let kept : to_z w32 (of_z w32 c.direction-on.result) ≡ c.direction-on.result = search rules in
      record {
        start = b.0;
        upright = c.requires.2;
        column = (back (coord b.0.x)).is;
        row = (back (coord b.0.y)).is;
        way = kept ∙ c.direction-on.ensures ∙ ap₂ toward (back (coord b.0.y)).is (back (coord b.1.y)).is;
      }

few : (c : In-loop-k) → c.loop-k.k ≤ 262143
few c = omega (arith, few_steps (line (goal.at.In-loop-k c).After-direction-on))

pub loop-k-init : goal.loop-k-init
loop-k-init c = (omega arith, line_begun (line (goal.at.loop-k-init c).After-direction-on) none (omega arith))

pub overflow_cast-k : goal.overflow_cast-k
overflow_cast-k c = record { sfits = omega (arith, few (goal.at.overflow_cast-k c).In-loop-k) }

pub overflow_mul-on : goal.overflow_mul-on
overflow_mul-on c = fits (moved (column (goal.at.overflow_mul-on c).After-direction-on) c.loop-k.k (omega (arith, few (goal.at.overflow_mul-on c).In-loop-k)))

pub overflow_add-start : goal.overflow_add-start
overflow_add-start c = fits (row_at (column (goal.at.overflow_add-start c).After-direction-on) c.loop-k.k (omega (arith, few (goal.at.overflow_add-start c).In-loop-k)))

-- the point of a turn is the step's
point : (c : In-loop-k) → (let a = c.args in (to_z w32 (of_z w32 a.start.0), to_z w32 (of_z w32 (to_z w32 (of_z w32 a.start.1) +ℤ to_z w32 (of_z w32 (to_z w32 (of_z w32 c.direction-on.result) *ℤ to_z w32 c.loop-k.k))))) ≡ point_at a.start a.end c.loop-k.k)
point c = here (column (goal.at.In-loop-k c).After-direction-on) c.loop-k.k (omega (arith, few c)) (omega (arith, c.inner_steps-steps.ensures.most))

pub set_point-requires : goal.set_point-requires
set_point-requires c = may_set (line (goal.at.set_point-requires c).After-direction-on) c.loop-k.auto.buf c.loop-k.auto.k c.loop-k-test.true (point (goal.at.set_point-requires c).In-loop-k)

pub loop-k-preserved : goal.loop-k-preserved
loop-k-preserved c = (
  omega arith,
  line_turn (line (goal.at.loop-k-preserved c).After-direction-on) none c.loop-k.auto.k c.loop-k-test.true (point (goal.at.loop-k-preserved c).In-loop-k) refl c.set_point.ensures (omega arith)
      c.loop-k.invariant.1,
)

pub returns-then-is_empty : goal.returns-then-is_empty
returns-then-is_empty c = line_none (record { ready = c.requires.0; ends = c.requires.1; inner = c.inner_steps-steps.ensures }) (search rules)

pub returns : goal.returns
returns c =
    let L = line (goal.at.returns c).After-direction-on in
    line_ended L c.loop-k-test.false (omega (arith, L.inner.first, L.inner.most)) (omega arith) c.loop-k.invariant.1
